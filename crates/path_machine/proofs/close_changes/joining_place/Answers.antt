use Rattle.std.proofs.Common.{ap, arith}
use Rattle.path_core.specs.declared.note.EntryNote.{EntryNote}
use Rattle.path_machine.proofs.steps.Joining.{joins_at, no_note}
use Rattle.path_machine.proofs.close_changes.joining_place.Goals as goal

pub returns-else-start-notes-clause-place : goal.returns-else-start-notes-clause-place
returns-else-start-notes-clause-place c =
    let last = ap (λ (n : EntryNote). n.start.0) c.index-notes-place.is in
    let low = c.if-start-notes.false in
    joins_at c.args.start c.args.notes.now c.loop-place.place c.index-notes-place.result c.requires
    c.loop-place.invariant.inside c.loop-place.invariant.each (λ _. omega arith)

pub returns-after-loop-place-clause-place : goal.returns-after-loop-place-clause-place
returns-after-loop-place-clause-place c =
    let first = c.loop-place-test.false in
    joins_at c.args.start c.args.notes.now c.loop-place.place no_note c.requires
    c.loop-place.invariant.inside c.loop-place.invariant.each (λ above. absurd (omega arith))
