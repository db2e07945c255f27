-- Histories of entries, and which entries a memtable or a file stands for.
use Rattle.std.specs.Prelude.{◌≡◌, ℕ, zero, suc, ◌+◌, ◌≤◌, nat_lt, nat_le, Bool, ◌&&◌, List, length}
use Rattle.std.specs.List.{filter, Contains, AllPairs}
use Rattle.path_core.specs.declared.note.EntryNote.{EntryNote}
use Rattle.path_core.specs.declared.state.PathState.{PathState}
use Rattle.path_core.specs.declared.state.TableState.{TableState}
use Rattle.path_core.specs.Keys.{offset_of, first_offset}
use Rattle.path_core.specs.Parts.{table_of, memtable_at, memtable_of, key_of_bound, touches}

-- the entry touches the table, and lies in the interval `lower < position <= upper`
abbrev pub is_touching : ℕ → ℕ → ℕ → EntryNote → Bool
is_touching t lower upper n =
    touches n.tables t && nat_lt lower n.end.0 && nat_le n.end.0 upper

-- the entries of a history that touch a table within an interval
abbrev pub touching : List EntryNote → ℕ → ℕ → ℕ → List EntryNote
touching history t lower upper = filter (is_touching t lower upper) history

-- The bound of the memtable before one, key 0 before the first.
abbrev pub bound_below : TableState → ℕ → ℕ
bound_below table zero = 0
bound_below table (suc m) = key_of_bound (memtable_at table m).bound

abbrev pub bound_before : PathState → ℕ → ℕ → ℕ
bound_before x t m = bound_below (table_of x t) m

-- the log interval of a memtable with a final bound begins at the bound before, and ends at its own
abbrev pub final_bound : PathState → ℕ → ℕ → ℕ
final_bound x t m = key_of_bound (memtable_of x t m).bound

-- An entry's range lies in one segment, behind its front, and is as long as its bytes.
pub record IsInSegment (capacity : ℕ) (n : EntryNote) : Type 0 where
  pub behind_front : first_offset ≤ offset_of n.start.0
  pub inside : offset_of n.start.0 + length n.bytes ≤ capacity
  pub long : n.end.0 ≡ n.start.0 + length n.bytes

-- A history: entries in the order of the log, each in one segment, that do not overlap.
pub record IsHistory (capacity : ℕ) (history : List EntryNote) : Type 0 where
  pub each : (n : EntryNote) → Contains history n → IsInSegment capacity n
  pub apart : AllPairs (λ (a b : EntryNote). a.end.0 ≤ b.start.0) history
