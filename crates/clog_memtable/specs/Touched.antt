-- The memtables of notes: for each table that one of them touches above a key, its newest cells.
use Rattle.std.specs.Prelude.{
  ◌≡◌,
  ℕ,
  ◌<◌,
  ◌≤◌,
  List,
  get_or,
  length,
  Contains,
  IsTrue,
}
use Rattle.std.specs.List.{AllPairs}
use Rattle.clog_base.specs.declared.position.Key.{Key}
use Rattle.clog_cells.specs.Merge.{IsMergeOf}
use Rattle.path_core.specs.declared.note.EntryNote.{EntryNote}
use Rattle.path_core.specs.Keeper.{Holding, IsLoggedCell}
use Rattle.path_core.specs.Parts.{touches}
use Rattle.clog_memtable.specs.declared.flushing.Memtable.{Memtable}
use Rattle.clog_memtable.specs.Flushing.{file_of}

-- the key that is listed for a table, by its number
abbrev pub key_for : List Key → ℕ → ℕ
key_for keys t = (get_or keys t (record { 0 = 0 })).0

-- one of the notes touches the table, and ends above a key
pub record IsTouchedAbove (notes : List EntryNote) (t lower : ℕ) : Type 0 where
  pub note : EntryNote
  pub among : Contains notes note
  pub bit : IsTrue (touches note.tables t)
  pub above : lower < note.end.0

-- The memtable of a table that one of these notes touches above a key, from there up to another.
-- Where just these notes are logged, it holds what its table file has to hold.
pub record IsMemtableOf (notes : List EntryNote) (lower upper : ℕ) (m : Memtable) : Type 0 where
  pub lower_is : m.interval.lower.0 ≡ lower
  pub upper_is : m.interval.upper.0 ≡ upper
  pub touched : IsTouchedAbove notes m.interval.table.0 lower
  pub merged : (h : Holding) → h.logged ≡ notes → IsMergeOf (IsLoggedCell h (file_of m)) m.cells

-- a memtable of the table is among these
pub record HasMemtable (memtables : List Memtable) (t : ℕ) : Type 0 where
  pub memtable : Memtable
  pub among : Contains memtables memtable
  pub table_is : memtable.interval.table.0 ≡ t

-- One for each table below a number that they touch above its lower key, in the order of the
-- tables.
pub record AreMemtablesOf (notes : List EntryNote) (lowers : ℕ → ℕ) (upper below : ℕ)
    (memtables : List Memtable) : Type 0 where
  pub each : (m : Memtable) → Contains memtables m
      → IsMemtableOf notes (lowers m.interval.table.0) upper m
  pub tables : (m : Memtable) → Contains memtables m → m.interval.table.0 < below
  pub every : (t : ℕ) → t < below → IsTouchedAbove notes t (lowers t) → HasMemtable memtables t
  pub ascending : AllPairs
      (λ (a b : Memtable). a.interval.table.0 < b.interval.table.0) memtables
  pub few : length memtables ≤ below
