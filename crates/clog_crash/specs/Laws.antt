-- What the laws of a folder say of its rows.
use Rattle.std.specs.Prelude.{◌≡◌, List, Some, false}
use Rattle.clog_base.specs.declared.cell.Cell.{Cell}
use Rattle.clog_base.specs.declared.cell.CellKey.{CellKey}
use Rattle.clog_cells.specs.Merge.{found_at, is_newer}

-- the rows have a cell at this key, and this one is not newer
pub record HasNewest (rows : List (CellKey × Cell)) (key : CellKey) (cell : Cell) : Type 0 where
  pub found : Cell
  pub there : found_at rows key ≡ Some found
  pub newest : is_newer cell found ≡ false
