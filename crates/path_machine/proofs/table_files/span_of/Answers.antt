use Rattle.std.proofs.Common.{◌+◌, take, sym, subst, ap, ◌∙◌}
use Rattle.path_core.specs.declared.note.EntryNote.{EntryNote}
use Rattle.path_core.specs.Droppable.{is_of}
use Rattle.path_machine.specs.declared.table_files.Span.{Span}
use Rattle.path_machine.specs.Spans.{Spans, IsSpan, widened}
use Rattle.path_machine.proofs.steps.SpanGrows.{span_more, span_same}
use Rattle.path_machine.proofs.table_files.span_of.Goals as goal
use Rattle.path_machine.proofs.table_files.span_of.Goals.{then-is_of, else-is_of}

pub loop-note-preserved : goal.loop-note-preserved
loop-note-preserved c =
    let o = c.args.segment in
    let t = c.args.table in
    let notes = c.args.notes.now in
    let i = c.loop-note.note-index in
    let item = c.note-item.result in
    let inside = c.loop-note-test.true in
    let of = ap (is_of o t) (sym c.note-item.is) ∙ sym c.is_of.ensures in
    elim c.if-is_of.branch [
      | then-is_of w ↦ subst (IsSpan o t (take (i + 1) notes)) (sym w.found-is)
          (subst (λ (s : Span). Spans o t (take (i + 1) notes) s) (sym w.widened.ensures)
          (subst (λ (n : EntryNote). Spans o t (take (i + 1) notes)
          (widened c.loop-note.found n.end.0)) (sym c.note-item.is)
          (span_more o t notes i item c.loop-note.found inside c.loop-note.invariant
          (of ∙ w.if-is_of.true))))
      | else-is_of w ↦ subst (IsSpan o t (take (i + 1) notes)) (sym w.found-is)
          (span_same o t notes i item c.loop-note.found inside c.loop-note.invariant
          (of ∙ w.if-is_of.false))
    ]
