-- The cells that entries have of a table.
use Rattle.std.specs.Prelude.{◌≡◌, ◌↔◌, ℕ, List}
use Rattle.std.specs.List.{Contains}
use Rattle.clog_base.specs.declared.cell.Cell.{Cell}
use Rattle.clog_base.specs.declared.cell.CellKey.{CellKey}
use Rattle.clog_base.specs.declared.cell.Table.{Table}
use Rattle.clog_cells.specs.Batches.{WerePut}
use Rattle.clog_cells.specs.declared.batches.CellBatches.{CellBatches}
use Rattle.clog_mutation.specs.Payload.{cells_of}
use Rattle.path_core.specs.declared.note.EntryNote.{EntryNote}
use Rattle.path_core.specs.Whole.{IsWhole}

-- A cell of a table in an entry among notes.
pub record IsCellOf (notes : List EntryNote) (t : ℕ) (pair : CellKey × Cell) : Type 0 where
  pub note : EntryNote
  pub among : Contains notes note
  pub whole : IsWhole note
  pub listed : Contains (cells_of whole.mutation) pair
  pub of_table : pair.0.table.0 ≡ t

-- These are the cells that entries have of a table, in whatever order and as often as they come.
abbrev pub AreCellsOf : Table → List EntryNote → List (CellKey × Cell) → Type 0
AreCellsOf table notes cells =
    (pair : CellKey × Cell) → Contains cells pair ↔ IsCellOf notes table.0 pair

-- What was put merges as these cells do.
pub record IsGathered (table : Table) (notes : List EntryNote) (cells : CellBatches)
    : Type 0 where
  pub pairs : List (CellKey × Cell)
  pub put : WerePut pairs cells
  pub exact : AreCellsOf table notes pairs
