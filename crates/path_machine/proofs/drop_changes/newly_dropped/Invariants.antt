use Rattle.std.proofs.Common.{◌≡◌, ℕ, ◌&&◌, not}
use Rattle.std.specs.List.{filter, range_with_len}
use Rattle.path_core.specs.Droppable.{is_logged, is_droppable}
use Rattle.path_machine.proofs.drop_changes.newly_dropped.Given as goal

abbrev pub invariant-loop-segment : goal.invariant-loop-segment
invariant-loop-segment l = l.dropped.items ≡ filter (λ (o : ℕ). not (is_logged l.state.dropped o)
    && is_droppable l.state o) (range_with_len 0 l.segment)
