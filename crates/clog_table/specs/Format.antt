-- The bytes of a table file of version 1. Numbers are big endian.
pub use Rattle.clog_fields.specs.Fields.{short_text, timestamp_bytes, tagged}
use Rattle.std.specs.Prelude.{ℕ, List, [], ◌∷◌, ◌++◌, length, drop}
use Rattle.std.specs.List.{flat_map}
use Rattle.std.specs.Int.{w32, w64, to_be_bytes}
use Rattle.clog_spec.specs.Crc.{crc32_of}
use Rattle.clog_base.specs.declared.position.Position.{Position}
use Rattle.clog_base.specs.declared.cell.Cell.{Cell}
use Rattle.clog_base.specs.declared.cell.CellKey.{CellKey}
use Rattle.clog_base.specs.declared.cell.Table.{Table}
use Rattle.clog_table.specs.declared.head.Head.{Head}
use Rattle.clog_table.specs.declared.table_file.TableFile.{TableFile}

-- key, column, timestamp and value; the table stands in the head
abbrev pub cell_bytes : CellKey × Cell → List ℕ
cell_bytes pair =
    short_text pair.0.key ++ short_text pair.0.column
    ++ timestamp_bytes pair.1.ts ++ tagged pair.1.kind pair.1.value

-- the cells, one behind the other
abbrev pub cells_bytes : List (CellKey × Cell) → List ℕ
cells_bytes cells = flat_map cell_bytes cells

-- four bytes that check others
abbrev pub check_bytes : List ℕ → List ℕ
check_bytes bytes = to_be_bytes w32 (crc32_of bytes)

-- id and offset
abbrev pub position_bytes : Position → List ℕ
position_bytes at = to_be_bytes w64 at.id ++ to_be_bytes w32 at.offset

-- version, table, interval, number of cells
abbrev pub head_front : Head → List ℕ
head_front head =
    to_be_bytes w32 1 ++ (head.table.0 ∷ []) ++ position_bytes head.lower
    ++ position_bytes head.upper ++ to_be_bytes w32 head.count

-- the head with its check
abbrev pub head_bytes : Head → List ℕ
head_bytes head = head_front head ++ check_bytes (head_front head)

-- so many bytes, and so many without the check
abbrev pub head_size : ℕ
head_size = 37

abbrev pub head_front_size : ℕ
head_front_size = 33

-- what stands behind the head
abbrev pub behind_head : List ℕ → List ℕ
behind_head bytes = drop head_size bytes

abbrev pub head_of : TableFile → Head
head_of file = record {
  table = file.table;
  lower = file.lower;
  upper = file.upper;
  count = length file.cells;
}

-- the file of these parts
abbrev pub file_of : Table → Position → Position → List (CellKey × Cell) → TableFile
file_of table lower upper cells = record {
  table = table;
  lower = lower;
  upper = upper;
  cells = cells;
}

-- the head, the cells and the check of the cells
abbrev pub table_file_bytes : TableFile → List ℕ
table_file_bytes file =
    head_bytes (head_of file) ++ cells_bytes file.cells ++ check_bytes (cells_bytes file.cells)
