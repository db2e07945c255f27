use Rattle.std.proofs.Common.{◌∙◌, sym, subst}
use Rattle.clog_due.specs.Counting.{IsCountedIn}
use Rattle.clog_segments.specs.NoteLog.{NoteState}
use Rattle.clog_segments.specs.StoreState.{HasReached, IsStore, StoreState}
use Rattle.clog_segments.proofs.NamesKept.{names_on}
use Rattle.clog_store.proofs.StorePuts.{
  asked_still,
  far_still,
  if_told,
  on_any,
  on_told,
  store_still,
}
use Rattle.clog_store.proofs.StoreSeen.{
  cause_seen,
  moved_seen,
  quiet_seen,
  stays_seen,
  takes_passed,
  told_is,
}
use Rattle.clog_store.proofs.States.{state_of}
use Rattle.clog_store.proofs.store.Store.next_sequence.Goals as goal

pub invariant_of-self : goal.invariant_of-self
invariant_of-self g c =
    let D = g.D.Disk in
    let i = c.self.inside in
    let s = state_of c.self.view_is in
    let is = c.next_sequence-outcome.ensures in
    let n = c.next_sequence-outcome.new.self in (
      c.self.invariant.0,
      subst (λ (x : NoteState g.row.D.Denot).
          IsStore D.files D.changes D.moment D.faults D.read_at D.lasted_at
          (record s { notes = x }))
          (sym is.log)
          (store_still D.files D.changes D.moment D.faults D.read_at D.lasted_at s n.log
          c.self.invariant.1 c.next_sequence-outcome.result is.passes is.goes.later
          is.cause is.stops
          (λ was. sym is.log ∙ is.stays was) is.quiet (λ still. is.same)
          (asked_still D.files D.changes D.moment D.faults D.read_at D.lasted_at s n.log
          c.self.invariant.1 c.next_sequence-outcome.result is.passes is.goes.later is.cause
          is.stops (λ was. sym is.log ∙ is.stays was) is.same)),
      names_on D.files D.leaves s.first s.notes.log n.log c.self.invariant.2 is.goes.names,
      subst (λ (x : NoteState g.row.D.Denot).
          IsCountedIn x.logged i.files.items i.dropped.items i.counted) (sym is.log)
          c.self.invariant.3,
    )

pub returns-clause-moved : goal.returns-clause-moved
returns-clause-moved g c =
    moved_seen c.self.view_is c.next_sequence-outcome.new.self c.next_sequence-outcome.ensures.log

pub returns-clause-next : goal.returns-clause-next
returns-clause-next g c =
    let faults = g.D.Disk.faults in
    let n = c.next_sequence-outcome.new.self in
    if_told _ (faults c.self.inside.first.value) (faults n.log.disk)
    c.next_sequence-outcome.result c.told.result
    (told_is c.next_sequence-outcome.result c.told.ensures c.self.invariant.0
    c.fault_count.ensures.count)
    c.next_sequence-outcome.ensures.next

pub returns-clause-cause : goal.returns-clause-cause
returns-clause-cause g c =
    let D = g.D.Disk in
    let is = c.next_sequence-outcome.ensures in
    let told = c.fault_count.ensures in
    cause_seen c.self.view_is c.next_sequence-outcome.new.self D.faults
    c.next_sequence-outcome.result is.cause is.stops D.files D.changes D.moment
    D.read_at D.lasted_at g.row.D.coded.code c.self.invariant.1 told.fits
    (told_is c.next_sequence-outcome.result c.told.ensures c.self.invariant.0 told.count)

pub returns-clause-far : goal.returns-clause-far
returns-clause-far g c key far =
    let faults = g.D.Disk.faults in
    let i = c.self.inside in
    let is = c.next_sequence-outcome.ensures in
    let n = c.next_sequence-outcome.new.self in
    let before = subst (λ (x : StoreState g.row.D.Denot). HasReached x.notes key)
    (sym c.self.view_is) far in
    let there = subst (λ (x : NoteState g.row.D.Denot). HasReached x key) (sym is.log)
    (far_still i.notes n.log c.next_sequence-outcome.result key is.passes before) in
    on_told (HasReached n key) (faults i.first.value) (faults n.log.disk)
    c.next_sequence-outcome.result c.told.result
    (told_is c.next_sequence-outcome.result c.told.ensures c.self.invariant.0
    c.fault_count.ensures.count)
    (on_any c.next_sequence-outcome.result there)

pub returns-clause-quiet : goal.returns-clause-quiet
returns-clause-quiet g c =
    let is = c.next_sequence-outcome.ensures in
    quiet_seen c.self.view_is c.next_sequence-outcome.new.self g.D.Disk.faults
    c.next_sequence-outcome.result is.cause is.stops

pub returns-clause-takes : goal.returns-clause-takes
returns-clause-takes g c =
    let is = c.next_sequence-outcome.ensures in
    takes_passed c.self.view_is c.next_sequence-outcome.new.self c.next_sequence-outcome.result
    is.passes is.log

pub returns-clause-stays : goal.returns-clause-stays
returns-clause-stays g c =
    stays_seen c.self.view_is c.next_sequence-outcome.new.self c.next_sequence-outcome.ensures.stays
