use Rattle.std.proofs.Common.{ℕ, ◌<◌, ◌≤◌, ◌-◌, List, length, get_or}
use Rattle.path_core.specs.declared.note.EntryNote.{EntryNote}
use Rattle.path_machine.proofs.list_keeper.count_up_to.Given as goal

-- those in front of a place end at or below the key
pub record Low (notes : List EntryNote) (upto count : ℕ) : Type 0 where
  pub inside : count ≤ length notes
  pub each : (k : ℕ) (d : EntryNote) → k < count → (get_or notes k d).end.0 ≤ upto

abbrev pub invariant-loop-count : goal.invariant-loop-count
invariant-loop-count l = Low l.notes l.upto l.count

abbrev pub decreases-loop-count : goal.decreases-loop-count
decreases-loop-count l = length l.notes - l.count
