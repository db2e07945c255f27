-- When two relations on cells have the same newest cells.
use Rattle.std.specs.Prelude.{◌≡◌, ◌⊎◌, false}
use Rattle.clog_base.specs.declared.cell.Cell.{Cell}
use Rattle.clog_base.specs.declared.cell.CellKey.{CellKey}
use Rattle.clog_cells.specs.Merge.{is_newer}

-- the other is at the same key, and this is not newer
pub record IsUnder (pair other : CellKey × Cell) : Type 0 where
  pub same_key : pair.0 ≡ other.0
  pub no_newer : is_newer pair.1 other.1 ≡ false

-- each cell that has A is under one that has B
abbrev pub Covers : (CellKey × Cell → Type 0) → (CellKey × Cell → Type 0) → Type 0
Covers A B = (pair : CellKey × Cell) → A pair → (other : CellKey × Cell) × B other
    × IsUnder pair other

-- both have the same newest cells
pub record SameMerge (A B : CellKey × Cell → Type 0) : Type 0 where
  pub forth : Covers A B
  pub back : Covers B A

-- A or B
abbrev pub Either : (CellKey × Cell → Type 0) → (CellKey × Cell → Type 0) → CellKey × Cell → Type 0
Either A B pair = A pair ⊎ B pair
