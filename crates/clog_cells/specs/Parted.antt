-- Cells parted at a table.
use Rattle.std.specs.Prelude.{ℕ, List, nat_lt, not}
use Rattle.std.specs.List.{filter}
use Rattle.clog_base.specs.declared.cell.Cell.{Cell}
use Rattle.clog_base.specs.declared.cell.CellKey.{CellKey}

-- the cells of the tables below a number, in their order
abbrev pub part_below : ℕ → List (CellKey × Cell) → List (CellKey × Cell)
part_below number pairs = filter (λ pair. nat_lt pair.0.table.0 number) pairs

-- the cells of the other tables
abbrev pub part_from : ℕ → List (CellKey × Cell) → List (CellKey × Cell)
part_from number pairs = filter (λ pair. not (nat_lt pair.0.table.0 number)) pairs
