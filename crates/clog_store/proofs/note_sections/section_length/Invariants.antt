use Rattle.std.proofs.Common.{◌≡◌, ℕ, ◌<◌, ◌≤◌, ◌-◌, List, length, get_or}
use Rattle.path_core.specs.declared.note.EntryNote.{EntryNote}
use Rattle.clog_store.proofs.note_sections.section_length.Given as goal

-- those in front of a place stand end to end
pub record Joined (notes : List EntryNote) (count : ℕ) : Type 0 where
  pub some : 0 < count
  pub inside : count ≤ length notes
  pub each : (k : ℕ) (d : EntryNote) → 0 < k → k < count
      → (get_or notes k d).start.0 ≡ (get_or notes (k - 1) d).end.0

abbrev pub invariant-loop-count : goal.invariant-loop-count
invariant-loop-count l = Joined l.notes l.count

abbrev pub decreases-loop-count : goal.decreases-loop-count
decreases-loop-count l = length l.notes - l.count
