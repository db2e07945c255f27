use Rattle.std.proofs.Common.{◌≡◌, ◌+◌, ℕ, ap, subst}
use Rattle.std.specs.Prelude.{IfOk}
use Rattle.clog_segments.specs.Life.{State}
use Rattle.clog_segments.specs.NoteLog.{NoteState}
use Rattle.clog_store.specs.NoteSteps.{GoesOn}
use Rattle.clog_segments.proofs.Numbering.{next_known}
use Rattle.clog_store.proofs.NotePasses.{noted_passed, passes_goes}
use Rattle.clog_store.proofs.note_log.NoteLog.next_sequence.Goals as goal

pub returns-in-Err-clause-goes : goal.returns-in-Err-clause-goes
returns-in-Err-clause-goes g c =
    let D = g.D.Disk in
    let log = c.self.inside.log in
    let now = c.table_sequences.new.self in
    let is = c.table_sequences.ensures in
    subst (λ (before : State g.row.D.Denot).
    GoesOn D.files D.moment D.since D.leaves D.read_at D.lasted_at before now)
    (ap (λ (x : NoteState g.row.D.Denot). x.log) c.self.view_is)
    (passes_goes D.files D.moment D.since D.leaves D.read_at D.lasted_at log now
    c.table_sequences.result is.passes is.later is.lives is.names_last)

pub returns-clause-goes : goal.returns-clause-goes
returns-clause-goes g c =
    let D = g.D.Disk in
    let log = c.self.inside.log in
    let now = c.table_sequences.new.self in
    let is = c.table_sequences.ensures in
    subst (λ (before : State g.row.D.Denot).
    GoesOn D.files D.moment D.since D.leaves D.read_at D.lasted_at before now)
    (ap (λ (x : NoteState g.row.D.Denot). x.log) c.self.view_is)
    (passes_goes D.files D.moment D.since D.leaves D.read_at D.lasted_at log now
    c.table_sequences.result is.passes is.later is.lives is.names_last)

pub invariant_of-self : goal.invariant_of-self
invariant_of-self g c =
    noted_passed _ c.table_sequences.new.self c.table_sequences.result
    c.table_sequences.ensures.passes c.self.invariant

pub returns-in-Err-clause-noted : goal.returns-in-Err-clause-noted
returns-in-Err-clause-noted g c =
    noted_passed _ c.table_sequences.new.self c.table_sequences.result
    c.table_sequences.ensures.passes c.self.invariant

pub invariant_of-self-2 : goal.invariant_of-self-2
invariant_of-self-2 g c =
    noted_passed _ c.table_sequences.new.self c.table_sequences.result
    c.table_sequences.ensures.passes c.self.invariant

pub returns-clause-noted : goal.returns-clause-noted
returns-clause-noted g c =
    noted_passed _ c.table_sequences.new.self c.table_sequences.result
    c.table_sequences.ensures.passes c.self.invariant

pub returns-clause-next : goal.returns-clause-next
returns-clause-next g c =
    let D = g.D.Disk in
    let is = c.next_behind.ensures in
    next_known (D.files c.table_sequences.new.self.disk) c.in-Ok.known c.args.table
    c.next_behind.result c.in-Ok.ensures.known
    (subst (λ (k : ℕ). IfOk c.next_behind.result (λ n. n ≡ k + 1)) c.greatest.ensures is.next)
    is.starts is.fits
