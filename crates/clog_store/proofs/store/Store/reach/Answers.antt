use Rattle.std.proofs.Common.{sym, subst}
use Rattle.clog_due.specs.Counting.{IsCountedIn}
use Rattle.clog_segments.specs.NoteLog.{NoteState}
use Rattle.clog_segments.proofs.NamesKept.{names_on}
use Rattle.clog_store.proofs.StorePuts.{on_told, store_gone_on}
use Rattle.clog_store.proofs.StoreSeen.{
  cause_seen,
  moved_seen,
  quiet_seen,
  stays_seen,
  takes_seen,
  told_is,
}
use Rattle.clog_store.proofs.States.{state_of}
use Rattle.clog_store.proofs.store.Store.reach.Goals as goal

pub invariant_of-self : goal.invariant_of-self
invariant_of-self g c =
    let D = g.D.Disk in
    let i = c.self.inside in
    let s = state_of c.self.view_is in
    let is = c.reach-outcome.ensures in
    let n = c.reach-outcome.new.self in
    let told = c.fault_count.ensures in (
      c.self.invariant.0,
      store_gone_on D.files D.changes D.moment D.faults D.read_at D.lasted_at g.row.D.coded.code
          g.met.D.Disk.tells_both s n c.self.invariant.1 is.same is.goes.opened is.goes.first
          is.goes.later is.writes is.others is.stays c.reach-outcome.result is.cause is.stops
          told.sound told.reads told.stands,
      names_on D.files D.leaves s.first s.notes.log n.log c.self.invariant.2 is.goes.names,
      subst (λ (x : NoteState g.row.D.Denot).
          IsCountedIn x.logged i.files.items i.dropped.items i.counted) (sym is.same)
          c.self.invariant.3,
    )

pub returns-clause-moved : goal.returns-clause-moved
returns-clause-moved g c =
    moved_seen c.self.view_is c.reach-outcome.new.self c.reach-outcome.ensures.same

pub returns-clause-far : goal.returns-clause-far
returns-clause-far g c =
    let faults = g.D.Disk.faults in
    let n = c.reach-outcome.new.self in
    on_told _ (faults c.self.inside.first.value) (faults n.log.disk) c.reach-outcome.result
    c.told.result (told_is c.reach-outcome.result c.told.ensures c.self.invariant.0
    c.fault_count.ensures.count)
    c.reach-outcome.ensures.far

pub returns-clause-cause : goal.returns-clause-cause
returns-clause-cause g c =
    let D = g.D.Disk in
    let is = c.reach-outcome.ensures in
    let told = c.fault_count.ensures in
    cause_seen c.self.view_is c.reach-outcome.new.self D.faults c.reach-outcome.result is.cause
    is.stops D.files D.changes D.moment
    D.read_at D.lasted_at g.row.D.coded.code c.self.invariant.1 told.fits
    (told_is c.reach-outcome.result c.told.ensures c.self.invariant.0 told.count)

pub returns-clause-quiet : goal.returns-clause-quiet
returns-clause-quiet g c =
    let is = c.reach-outcome.ensures in
    quiet_seen c.self.view_is c.reach-outcome.new.self g.D.Disk.faults c.reach-outcome.result
    is.cause is.stops

pub returns-clause-takes : goal.returns-clause-takes
returns-clause-takes g c =
    takes_seen c.self.view_is c.reach-outcome.new.self c.reach-outcome.ensures.takes

pub returns-clause-stays : goal.returns-clause-stays
returns-clause-stays g c =
    stays_seen c.self.view_is c.reach-outcome.new.self c.reach-outcome.ensures.stays
