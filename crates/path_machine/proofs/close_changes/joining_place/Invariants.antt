use Rattle.std.proofs.Common.{ℕ, ◌<◌, ◌≤◌, List, length, get_or}
use Rattle.path_core.specs.declared.note.EntryNote.{EntryNote}
use Rattle.path_machine.proofs.close_changes.joining_place.Given as goal

pub record Behind (notes : List EntryNote) (start place : ℕ) : Type 0 where
  pub inside : place ≤ length notes
  pub each : (k : ℕ) (d : EntryNote) → place ≤ k → k < length notes
      → start < (get_or notes k d).start.0

abbrev pub invariant-loop-place : goal.invariant-loop-place
invariant-loop-place l = Behind l.notes l.start l.place

abbrev pub decreases-loop-place : goal.decreases-loop-place
decreases-loop-place l = l.place
