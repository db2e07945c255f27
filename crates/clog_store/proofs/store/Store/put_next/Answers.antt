use Rattle.std.proofs.Common.{rules, ◌≡◌, ◌<◌, ◌^◌, ◌++◌, ◌∷◌, ◌∙◌, [], List, take, sym, ap, subst}
use Rattle.std.specs.Prelude.{Err}
use Rattle.clog_base.specs.Positions.{position_of}
use Rattle.path_core.specs.Keeper.{PutFile}
use Rattle.clog_due.specs.Counting.{IsCountedIn}
use Rattle.clog_segments.specs.NoteLog.{NoteState}
use Rattle.clog_store.specs.NoteSteps.{GoesOn}
use Rattle.clog_segments.specs.Publishes.{IsNextSequence}
use Rattle.clog_segments.specs.Stepped.{StopsBy}
use Rattle.clog_segments.specs.StoreState.{HasReached, IsStore, StoreState, holding_of, put_of}
use Rattle.clog_store.specs.StoreTakes.{TakesNext}
use Rattle.clog_segments.proofs.AtMost.{ends_up_to}
use Rattle.clog_due.proofs.HeldSegments.{counted_put}
use Rattle.clog_store.proofs.NoteGoes.{goes_still}
use Rattle.clog_store.proofs.NotePasses.{passes_same}
use Rattle.clog_store.proofs.OrderPuts.{order_put}
use Rattle.clog_store.proofs.States.{state_of}
use Rattle.clog_store.proofs.StoreFiles.{
  folder_put,
  free_table,
  has_log,
  may_be_put,
  numbered,
  stands_table,
}
use Rattle.clog_store.proofs.StorePuts.{as_passed, at_memory, put_failed, store_put, store_still}
use Rattle.clog_store.proofs.StoreSeen.{asked_inside, quiet_seen, takes_passed}
use Rattle.clog_segments.proofs.NamesKept.{names_on}
use Rattle.clog_store.proofs.store.Store.put_next.Goals as goal

pub returns-in_err-reserve-clause-goes : goal.returns-in_err-reserve-clause-goes
returns-in_err-reserve-clause-goes g c =
    let D = g.D.Disk in
    let log = c.self.inside.notes.log in
    subst (λ (x : StoreState g.row.D.Denot).
    GoesOn D.files D.moment D.since D.leaves D.read_at D.lasted_at x.notes.log log) c.self.view_is
    (goes_still D.files D.moment D.since D.leaves D.read_at D.lasted_at log
    (g.met.D.Disk.only_now log.disk))

pub put-requires-clause-numbered : goal.put-requires-clause-numbered
put-requires-clause-numbered g c =
    let D = g.D.Disk in
    let s = state_of c.self.view_is in
    let code = g.row.D.coded.code in
    let asked = asked_inside D.files D.changes D.moment D.faults code c.self.view_is c.args.file
    c.args.cells.now c.args.sequence
    (c.requires.may, c.requires.runs, c.requires.noted, c.requires.next, c.requires.far) in
    numbered s.notes (holding_of D.files D.changes D.moment D.faults code s) asked.2
    (has_log D.files D.changes D.moment D.faults code s) c.args.file
    c.args.cells.now asked.0 c.args.sequence asked.3.starts asked.3.fits
    (let low : c.args.file.lower.0 < 2 ^ 64 = search rules in low)
    (let low : c.args.file.upper.0 < 2 ^ 64 = search rules in low)

pub put-requires-clause-next : goal.put-requires-clause-next
put-requires-clause-next g c =
    let D = g.D.Disk in
    let i = c.self.inside in
    let next = subst (λ (x : StoreState g.row.D.Denot). IsNextSequence
    (D.files x.notes.log.disk) c.args.file.table c.args.sequence) (sym c.self.view_is)
    c.requires.next in
    let far = subst (λ (x : StoreState g.row.D.Denot). HasReached x.notes c.args.file.upper.0)
    (sym c.self.view_is) c.requires.far in
    record {
      within = ends_up_to i.notes.log.id (take i.notes.log.synced i.notes.log.sections)
          (position_of i.notes.base c.args.file.upper.0) far;
      next = next.next;
    }

pub put-requires-clause-may : goal.put-requires-clause-may
put-requires-clause-may g c =
    let D = g.D.Disk in
    let s = state_of c.self.view_is in
    let code = g.row.D.coded.code in
    let asked = asked_inside D.files D.changes D.moment D.faults code c.self.view_is c.args.file
    c.args.cells.now c.args.sequence
    (c.requires.may, c.requires.runs, c.requires.noted, c.requires.next, c.requires.far) in
    may_be_put D.files D.changes D.moment D.faults D.read_at D.lasted_at code
    g.met.D.Disk.tells_both s c.self.invariant.1 asked.1 asked.2 c.args.file c.args.cells.now
    asked.0
    c.args.sequence asked.3 asked.4

pub invariant_of-self-in-Err : goal.invariant_of-self-in-Err
invariant_of-self-in-Err g c =
    let D = g.D.Disk in
    let i = c.self.inside in
    let s = state_of c.self.view_is in
    let code = g.row.D.coded.code in
    let asked = asked_inside D.files D.changes D.moment D.faults code c.self.view_is c.args.file
    c.args.cells.now c.args.sequence
    (c.requires.may, c.requires.runs, c.requires.noted, c.requires.next, c.requires.far) in
    let is = c.put.ensures in
    let n = c.put.new.self in (
      c.self.invariant.0,
      subst (λ (fs : List PutFile). IsStore D.files D.changes D.moment D.faults D.read_at
          D.lasted_at (record s { notes = n; files = fs })) (sym c.reserve.ensures.items)
          (subst (λ (x : NoteState g.row.D.Denot). IsStore D.files D.changes D.moment D.faults
          D.read_at D.lasted_at (record s { notes = x })) (sym is.log)
          (store_still D.files D.changes D.moment D.faults D.read_at D.lasted_at s n.log
          c.self.invariant.1 c.put.result is.passes is.goes.later is.cause is.stops
          (λ was. sym is.log ∙ is.stays was) c.in-Err.ensures.quiet
          (at_memory (Unit {0}) n.log.is_stopped c.in-Err.fault
          (subst (StopsBy n.log.is_stopped) c.in-Err.is is.stops)
          (λ memory. is.same (c.in-Err.is ∙ ap Err memory)))
          (put_failed D.files D.changes D.moment D.faults D.read_at D.lasted_at s n.log
          c.self.invariant.1 c.put.result is.passes is.goes.later is.cause is.stops
          (λ was. sym is.log ∙ is.stays was) _ is.others is.told
          (free_table D.files D.changes D.moment D.faults D.read_at D.lasted_at
          code g.met.D.Disk.tells_both s c.self.invariant.1 asked.1 asked.2 c.args.file
          c.args.cells.now asked.0 c.args.sequence asked.3 asked.4)
          (stands_table D.files D.changes D.moment D.faults D.read_at D.lasted_at
          code g.met.D.Disk.tells_both s c.self.invariant.1 asked.1 asked.2 c.args.file
          c.args.cells.now asked.0 c.args.sequence asked.3 asked.4 n.log c.in-Err.ensures.maybe)))),
      names_on D.files D.leaves s.first s.notes.log n.log c.self.invariant.2 is.goes.names,
      subst (λ (fs : List PutFile). IsCountedIn n.logged fs i.dropped.items i.counted)
          (sym c.reserve.ensures.items)
          (subst (λ (x : NoteState g.row.D.Denot).
          IsCountedIn x.logged i.files.items i.dropped.items i.counted) (sym is.log)
          c.self.invariant.3),
    )

pub invariant_of-self-in-Ok : goal.invariant_of-self-in-Ok
invariant_of-self-in-Ok g c =
    let D = g.D.Disk in
    let i = c.self.inside in
    let s = state_of c.self.view_is in
    let code = g.row.D.coded.code in
    let asked = asked_inside D.files D.changes D.moment D.faults code c.self.view_is c.args.file
    c.args.cells.now c.args.sequence
    (c.requires.may, c.requires.runs, c.requires.noted, c.requires.next, c.requires.far) in
    let is = c.put.ensures in
    let n = c.put.new.self in
    let come = c.in-Ok.ensures.comes in
    let put = put_of c.args.file c.args.cells.now in
    let all : c.push_reserved.new.self.items ≡ s.files ++ put ∷ [] =
    c.push_reserved.ensures.items ∙ (λ i. (c.reserve.ensures.items i) ++ record {
      table = c.args.file.table.0;
      lower = c.args.file.lower.0;
      upper = c.args.file.upper.0;
      cells = c.of.ensures i;
    } ∷ []) in (
      c.self.invariant.0,
      subst (λ (fs : List PutFile). IsStore D.files D.changes D.moment D.faults D.read_at
          D.lasted_at (record s { notes = n; files = fs })) (sym all)
          (subst (λ (x : NoteState g.row.D.Denot). IsStore D.files D.changes D.moment D.faults
          D.read_at D.lasted_at (record s { notes = x; files = s.files ++ put ∷ [] })) (sym is.log)
          (store_put D.files D.changes D.moment D.faults D.read_at D.lasted_at s n.log
          c.self.invariant.1 c.put.result is.passes is.goes.later is.cause is.stops
          (λ was. sym is.log ∙ is.stays was) asked.1 put _ come.bytes come.adds
          c.in-Ok.ensures.stops
          (λ still. folder_put D.files D.changes D.moment D.faults D.read_at D.lasted_at
          code g.met.D.Disk.tells_both s c.self.invariant.1 asked.1 asked.2 c.args.file
          c.args.cells.now asked.0 c.args.sequence asked.3 asked.4 n.log come is.told
          (as_passed s.notes n.log c.put.result is.passes))
          (order_put D.files D.changes D.moment D.faults D.read_at D.lasted_at code s
          c.self.invariant.1 asked.1 asked.2 c.args.file c.args.cells.now asked.0 c.args.sequence
          asked.3.starts
          asked.3.fits n.log (passes_same s.notes n.log c.put.result is.passes)
          (as_passed s.notes n.log c.put.result is.passes) come.bytes come.spelled come.adds))),
      names_on D.files D.leaves s.first s.notes.log n.log c.self.invariant.2 is.goes.names,
      subst (λ (fs : List PutFile). IsCountedIn n.logged fs i.dropped.items i.counted) (sym all)
          (counted_put n.logged i.files.items (put ∷ []) i.dropped.items i.counted
          (subst (λ (x : NoteState g.row.D.Denot).
          IsCountedIn x.logged i.files.items i.dropped.items i.counted) (sym is.log)
          c.self.invariant.3)),
    )

pub returns-in-Ok-clause-quiet : goal.returns-in-Ok-clause-quiet
returns-in-Ok-clause-quiet g c =
    let is = c.put.ensures in
    quiet_seen c.self.view_is c.put.new.self g.D.Disk.faults c.put.result is.cause is.stops

pub returns-in-Err-clause-quiet : goal.returns-in-Err-clause-quiet
returns-in-Err-clause-quiet g c =
    let is = c.put.ensures in
    quiet_seen c.self.view_is c.put.new.self g.D.Disk.faults c.put.result is.cause is.stops

pub returns-in-Ok-clause-takes : goal.returns-in-Ok-clause-takes
returns-in-Ok-clause-takes g c =
    let is = c.put.ensures in
    takes_passed c.self.view_is c.put.new.self c.put.result is.passes is.log

pub returns-in-Err-clause-takes : goal.returns-in-Err-clause-takes
returns-in-Err-clause-takes g c =
    let is = c.put.ensures in
    takes_passed c.self.view_is c.put.new.self c.put.result is.passes is.log

pub returns-in_err-reserve-clause-takes : goal.returns-in_err-reserve-clause-takes
returns-in_err-reserve-clause-takes g c takes still =
    subst (λ (x : StoreState g.row.D.Denot). TakesNext x) (sym c.self.view_is) takes
