-- The fields of a cell, without where they lie, and the cell of a table that they are.
use Rattle.clog_base.specs.declared.cell.Cell.{Cell}
use Rattle.clog_base.specs.declared.cell.CellKey.{CellKey}
use Rattle.clog_base.specs.declared.cell.Table.{Table}
use Rattle.clog_table.specs.declared.raw_cell.RawCell.{RawCell}
use Rattle.clog_table.specs.Reading.{Fields}

abbrev pub fields_of : RawCell → Fields
fields_of cell = (cell.key.now, (cell.column.now, (cell.ts, (cell.kind, cell.value.now))))

abbrev pub key_of : Table → Fields → CellKey
key_of table x = record { table = table; key = x.0; column = x.1.0 }

abbrev pub cell_of : Fields → Cell
cell_of x = record { ts = x.1.1.0; kind = x.1.1.1.0; value = x.1.1.1.1 }

abbrev pub pair_of : Table → Fields → CellKey × Cell
pair_of table x = (key_of table x, cell_of x)
