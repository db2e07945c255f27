-- Which entries of the log a memtable has, and what they put into it.
use Rattle.std.specs.Prelude.{
  ◌≡◌,
  ◌↔◌,
  List,
  [],
  Bool,
  ◌&&◌,
  nat_lt,
  nat_le,
  if◌then◌else◌,
  Contains,
}
use Rattle.clog_base.specs.declared.cell.Cell.{Cell}
use Rattle.clog_base.specs.declared.cell.CellKey.{CellKey}
use Rattle.clog_cells.specs.Batches.{WerePut}
use Rattle.clog_cells.specs.Merge.{part_on}
use Rattle.clog_cells.specs.declared.batches.CellBatches.{CellBatches}
use Rattle.clog_mutation.specs.declared.mutation.Mutation.{Mutation}
use Rattle.clog_mutation.specs.Payload.{cells_of}
use Rattle.path_core.specs.declared.note.EntryNote.{EntryNote}
use Rattle.path_core.specs.Keeper.{PutFile}
use Rattle.path_core.specs.Parts.{touches}
use Rattle.path_core.specs.Whole.{IsWhole}
use Rattle.clog_memtable.specs.declared.memtable.Interval.{Interval}

abbrev pub AreWhole : List EntryNote → Type 0
AreWhole notes = (n : EntryNote) → Contains notes n → IsWhole n

-- the table file is that of the interval
pub record IsFileWithin (i : Interval) (f : PutFile) : Type 0 where
  pub table_is : f.table ≡ i.table.0
  pub lower_is : f.lower ≡ i.lower.0
  pub upper_is : f.upper ≡ i.upper.0

-- the entry touches the table and ends within the interval
abbrev pub is_within : Interval → EntryNote → Bool
is_within i n =
    touches n.tables i.table.0 && (nat_lt i.lower.0 n.end.0 && nat_le n.end.0 i.upper.0)

-- the cells that an entry of this mutation puts into the memtable
abbrev pub cells_in : Interval → EntryNote → Mutation → List (CellKey × Cell)
cells_in i n m = if is_within i n then part_on i.table (cells_of m) else []

-- one of these entries puts the cell into the memtable
pub record IsPutBy (i : Interval) (notes : List EntryNote) (pair : CellKey × Cell) : Type 0 where
  pub note : EntryNote
  pub among : Contains notes note
  pub whole : IsWhole note
  pub listed : Contains (cells_in i note whole.mutation) pair

-- These are the cells that entries put into the memtable, in whatever order and as often as they
-- come.
abbrev pub ArePutBy : Interval → List EntryNote → List (CellKey × Cell) → Type 0
ArePutBy i notes cells = (pair : CellKey × Cell) → Contains cells pair ↔ IsPutBy i notes pair

-- What was put merges as these cells do.
pub record IsFilled (i : Interval) (notes : List EntryNote) (cells : CellBatches) : Type 0 where
  pub pairs : List (CellKey × Cell)
  pub put : WerePut pairs cells
  pub exact : ArePutBy i notes pairs
