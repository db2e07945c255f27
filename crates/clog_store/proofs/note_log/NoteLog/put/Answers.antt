use Rattle.std.proofs.Common.{ap, subst}
use Rattle.std.specs.Prelude.{OnErr}
use Rattle.clog_segments.specs.Life.{State}
use Rattle.clog_segments.specs.NoteLog.{NoteState}
use Rattle.clog_store.specs.NoteSteps.{GoesOn}
use Rattle.clog_segments.specs.Publishes.{MayHaveCome, file_at}
use Rattle.clog_store.proofs.NotePasses.{noted_passed, passes_goes}
use Rattle.clog_store.proofs.note_log.NoteLog.put.Goals as goal

pub invariant_of-self : goal.invariant_of-self
invariant_of-self g c =
    noted_passed _ c.publish.new.self c.publish.result c.publish.ensures.passes c.self.invariant

pub returns-clause-noted : goal.returns-clause-noted
returns-clause-noted g c =
    noted_passed _ c.publish.new.self c.publish.result c.publish.ensures.passes c.self.invariant

pub returns-clause-goes : goal.returns-clause-goes
returns-clause-goes g c =
    let D = g.D.Disk in
    let log = c.self.inside.log in
    let is = c.publish.ensures in
    subst (λ (before : State g.row.D.Denot).
    GoesOn D.files D.moment D.since D.leaves D.read_at D.lasted_at before c.publish.new.self)
    (ap (λ (x : NoteState g.row.D.Denot). x.log) c.self.view_is)
    (passes_goes D.files D.moment D.since D.leaves D.read_at D.lasted_at log c.publish.new.self
    c.publish.result is.passes is.later is.lives is.names_last)

pub returns-clause-maybe : goal.returns-clause-maybe
returns-clause-maybe g c =
    let D = g.D.Disk in
    subst (λ (x : NoteState g.row.D.Denot). OnErr c.publish.result (MayHaveCome
    (D.files x.log.disk) (D.files c.publish.new.self.disk)
    (file_at x.base c.args.file c.args.cells.now) c.args.sequence)) c.self.view_is
    c.publish.ensures.maybe
