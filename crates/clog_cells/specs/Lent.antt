-- Cells that are lent.
use Rattle.clog_base.specs.declared.cell.Cell.{Cell}
use Rattle.clog_cells.specs.declared.cell_map.lending.LentCell.{LentCell}

-- the cell that is lent
abbrev pub cell_lent : LentCell → Cell
cell_lent c = record { ts = c.ts; kind = c.kind; value = c.value.now }
