use Rattle.std.proofs.Common.{ℕ, ◌∷◌, [], ◌++◌, ◌&&◌, not, Vec, Global, sym, ap, ◌∙◌}
use Rattle.path_core.specs.Droppable.{is_logged, is_droppable}
use Rattle.path_core.proofs.lists.Ranges.{filter-range_kept, filter-range_left}
use Rattle.path_machine.proofs.drop_changes.newly_dropped.Goals as goal
use Rattle.path_machine.proofs.drop_changes.newly_dropped.Goals.{then-goes+in_ok-push, else-goes}

pub loop-segment-preserved : goal.loop-segment-preserved
loop-segment-preserved c =
    let x = c.args.state.now in
    elim c.if-goes.branch [
      | then-goes+in_ok-push w ↦ ap (λ (v : Vec ℕ Global). v.items) w.dropped-is
          ∙ (w.in_ok-push.ensures.items
          ∙ (ap (λ l. l ++ c.loop-segment.segment ∷ []) c.loop-segment.invariant
          ∙ sym (filter-range_kept (λ (o : ℕ). not (is_logged x.dropped o) && is_droppable x o)
          c.loop-segment.segment (sym c.goes.ensures ∙ w.if-goes.true))))
      | else-goes w ↦ ap (λ (v : Vec ℕ Global). v.items) w.dropped-is
          ∙ (c.loop-segment.invariant
          ∙ sym (filter-range_left (λ (o : ℕ). not (is_logged x.dropped o) && is_droppable x o)
          c.loop-segment.segment (sym c.goes.ensures ∙ w.if-goes.false)))
    ]
