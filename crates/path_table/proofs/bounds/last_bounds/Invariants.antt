use Rattle.std.proofs.Common.{◌≡◌, ℕ, ◌<◌, length}
use Rattle.std.specs.Prelude.{slice_index}
use Rattle.std.specs.Slots.{slots_items}
use Rattle.path_table.specs.ClosedBounds.{last_key}
use Rattle.path_table.proofs.bounds.last_bounds.Given as goal

abbrev pub invariant-loop-table : goal.invariant-loop-table
invariant-loop-table g l = (length l.keys ≡ 16) × ((t : ℕ) → t < l.table
    → slice_index l.keys t ≡ last_key (slots_items l.closed.words) t)
