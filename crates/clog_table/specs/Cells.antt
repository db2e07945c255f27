-- The cells of a table as far as they are well formed, and what stands behind them. The bytes are
-- those behind the head of a file: nothing here depends on what the head looks like.
use Rattle.std.specs.Prelude.{◌≡◌, ℕ, ◌≤◌, List, ◌++◌, length}
use Rattle.std.specs.List.{AllByRecursion}
use Rattle.std.specs.Map.{keys_of}
use Rattle.std.specs.declared.cmp.Ordering.TheVariants.{Less}
use Rattle.clog_base.specs.declared.cell.Cell.{Cell}
use Rattle.clog_base.specs.declared.cell.CellKey.{CellKey}
use Rattle.clog_base.specs.declared.cell.Table.{Table}
use Rattle.clog_cells.specs.Merge.{key_cmp, AreInOrder}
use Rattle.clog_table.specs.Format.{cell_bytes, cells_bytes}
use Rattle.clog_table.specs.Limits.{IsStoredCell}

-- The bytes are these cells of the table, in order and no more than are counted, and then the rest.
pub record HasCells (table : Table) (count : ℕ) (bytes : List ℕ) (cells : List (CellKey × Cell))
    (rest : List ℕ) : Type 0 where
  pub spelled : bytes ≡ cells_bytes cells ++ rest
  pub stored : AllByRecursion (IsStoredCell table) cells
  pub ordered : AreInOrder cells
  pub few : length cells ≤ count

-- no cell of the table stands at the front
abbrev pub BeginsWithNoCell : Table → List ℕ → Type 0
BeginsWithNoCell table bytes =
    (pair : CellKey × Cell) (behind : List ℕ) → IsStoredCell table pair
    → bytes ≡ cell_bytes pair ++ behind → ⊥

-- a cell of the table stands at the front, and then the rest
pub record BeginsWithCell (table : Table) (bytes : List ℕ) (pair : CellKey × Cell)
    (rest : List ℕ) : Type 0 where
  pub stored : IsStoredCell table pair
  pub spelled : bytes ≡ cell_bytes pair ++ rest

-- the key is above all others
abbrev pub IsAbove : List (CellKey × Cell) → CellKey → Type 0
IsAbove cells key = AllByRecursion (λ other. key_cmp other key ≡ Less) (keys_of cells)
