-- Which cells were put to be merged, as far as their merge tells.
use Rattle.std.specs.Prelude.{List, ◌++◌}
use Rattle.clog_base.specs.declared.cell.Cell.{Cell}
use Rattle.clog_base.specs.declared.cell.CellKey.{CellKey}
use Rattle.clog_cells.specs.Merge.{HaveSameMembers, IsMerge}
use Rattle.clog_cells.specs.declared.batches.CellBatches.{CellBatches}

-- These cells were put: some of them are merged, and the others wait. What they all merge to is
-- what is answered in the end.
pub record WerePut (cells : List (CellKey × Cell)) (b : CellBatches) : Type 0 where
  pub done : List (CellKey × Cell)
  pub merged : IsMerge done b.merged
  pub parts : HaveSameMembers cells (done ++ b.waiting.items)

-- These cells are put behind those that were.
abbrev pub Adds : List (CellKey × Cell) → CellBatches → CellBatches → Type 0
Adds more before now =
    (cells : List (CellKey × Cell)) → WerePut cells before → WerePut (cells ++ more) now
