use Rattle.std.proofs.Common.{◌++◌, ◌∙◌, List, sym, ap, subst}
use Rattle.path_core.specs.declared.note.EntryNote.{EntryNote}
use Rattle.clog_segments.specs.Life.{State}
use Rattle.clog_segments.specs.NoteLog.{NoteState}
use Rattle.clog_store.specs.NoteSteps.{GoesOn, Leaves}
use Rattle.clog_store.specs.StoreTakes.{TakesMore}
use Rattle.clog_store.proofs.NoteFrom.{from_on}
use Rattle.clog_store.proofs.NoteGoes.{goes_still}
use Rattle.clog_store.proofs.NoteLeaves.{leaves_still}
use Rattle.clog_store.proofs.NoteRun.{run_kept, run_logged, run_ready, takes_kept_run, takes_run}
use Rattle.clog_store.proofs.States.{state_of}
use Rattle.clog_store.proofs.note_log.NoteLog.log_run.Goals as goal

pub write_all-requires-clause-ready : goal.write_all-requires-clause-ready
write_all-requires-clause-ready g c =
    let i = c.self.inside in
    record {
      sizes = i.sizes;
      synced = i.synced;
      logged = i.logged.items;
      upto = c.args.upto;
      at = run_ready c.self.view_is c.self.invariant c.requires.runs c.as_slice.ensures.value
          c.requires.may;
    }

pub invariant_of-self-in_err-write_all : goal.invariant_of-self-in_err-write_all
invariant_of-self-in_err-write_all g c =
    let i = c.self.inside in
    let n = c.write_all.new.log in
    let is = c.write_all.ensures in
    run_kept c.self.view_is c.self.invariant c.requires.runs c.as_slice.ensures.value c.requires.may
    is.few is.held c.reserve.ensures.items c.in_ok-kept.ensures
    (from_on i.base i.log n (g.D.Disk.files i.log.disk) (g.D.Disk.files n.disk) is.leaves.rest
    c.self.invariant.from) is.stands

pub invariant_of-self-2 : goal.invariant_of-self-2
invariant_of-self-2 g c =
    let i = c.self.inside in
    let n = c.write_all.new.log in
    let is = c.write_all.ensures in
    let ok = c.in_ok-write_all.ensures in
    run_logged c.self.view_is c.self.invariant c.requires.runs c.as_slice.ensures.value
    c.requires.may
    ok.all ok.ready ok.lasts
    (from_on i.base i.log n (g.D.Disk.files i.log.disk) (g.D.Disk.files n.disk) is.leaves.rest
    c.self.invariant.from)
    (c.move_behind.ensures.all
    ∙ ap (λ (l : List EntryNote). l ++ c.args.run.now.items) c.reserve.ensures.items)
    c.none.ensures

pub returns-in_err-kept-clause-leaves : goal.returns-in_err-kept-clause-leaves
returns-in_err-kept-clause-leaves g c =
    leaves_still g.D.Disk.files g.D.Disk.changes c.args.self.now.log

pub returns-in_err-reserve-clause-leaves : goal.returns-in_err-reserve-clause-leaves
returns-in_err-reserve-clause-leaves g c =
    let log = c.self.inside.log in
    subst (λ (before : State g.row.D.Denot). Leaves g.D.Disk.files g.D.Disk.changes before log)
    (ap (λ (x : NoteState g.row.D.Denot). x.log) c.self.view_is)
    (leaves_still g.D.Disk.files g.D.Disk.changes log)

pub returns-in_err-write_all-clause-leaves : goal.returns-in_err-write_all-clause-leaves
returns-in_err-write_all-clause-leaves g c =
    subst (λ (log : State g.row.D.Denot).
    Leaves g.D.Disk.files g.D.Disk.changes log c.write_all.new.log)
    (ap (λ (x : NoteState g.row.D.Denot). x.log) c.self.view_is) c.write_all.ensures.leaves

pub returns-clause-leaves : goal.returns-clause-leaves
returns-clause-leaves g c =
    subst (λ (log : State g.row.D.Denot).
    Leaves g.D.Disk.files g.D.Disk.changes log c.write_all.new.log)
    (ap (λ (x : NoteState g.row.D.Denot). x.log) c.self.view_is) c.write_all.ensures.leaves

pub returns-in_err-kept-clause-goes : goal.returns-in_err-kept-clause-goes
returns-in_err-kept-clause-goes g c =
    let D = g.D.Disk in
    let log = c.args.self.now.log in
    goes_still D.files D.moment D.since D.leaves D.read_at D.lasted_at log
    (g.met.D.Disk.only_now log.disk)

pub returns-in_err-reserve-clause-goes : goal.returns-in_err-reserve-clause-goes
returns-in_err-reserve-clause-goes g c =
    let D = g.D.Disk in
    let log = c.self.inside.log in
    subst (λ (before : State g.row.D.Denot).
    GoesOn D.files D.moment D.since D.leaves D.read_at D.lasted_at before log)
    (ap (λ (x : NoteState g.row.D.Denot). x.log) c.self.view_is)
    (goes_still D.files D.moment D.since D.leaves D.read_at D.lasted_at log
    (g.met.D.Disk.only_now log.disk))

-- ---- it stands no further than what comes next

pub returns-in_err-reserve-clause-takes : goal.returns-in_err-reserve-clause-takes
returns-in_err-reserve-clause-takes g c dropped takes still =
    subst (λ (l : List EntryNote). TakesMore (record (state_of c.self.view_is) { logged = l })
    dropped) (sym c.reserve.ensures.items)
    (subst (λ (x : NoteState g.row.D.Denot). TakesMore x dropped) (sym c.self.view_is) takes)

pub returns-in_err-write_all-clause-takes : goal.returns-in_err-write_all-clause-takes
returns-in_err-write_all-clause-takes g c =
    let is = c.write_all.ensures in
    takes_kept_run c.self.view_is c.self.invariant c.requires.runs c.as_slice.ensures.value
    c.requires.may
    is.few is.held c.reserve.ensures.items c.in_ok-kept.ensures is.still

pub returns-clause-takes : goal.returns-clause-takes
returns-clause-takes g c dropped takes still =
    let i = c.self.inside in
    let n = c.write_all.new.log in
    let is = c.write_all.ensures in
    let ok = c.in_ok-write_all.ensures in
    takes_run c.self.view_is c.self.invariant c.requires.runs c.as_slice.ensures.value
    c.requires.may
    ok.all ok.ready ok.lasts
    (from_on i.base i.log n (g.D.Disk.files i.log.disk) (g.D.Disk.files n.disk) is.leaves.rest
    c.self.invariant.from)
    (c.move_behind.ensures.all
    ∙ ap (λ (l : List EntryNote). l ++ c.args.run.now.items) c.reserve.ensures.items)
    c.none.ensures is.still dropped takes
