-- What a table file can hold. Lengths are in bytes.
pub use Rattle.clog_base.specs.Positions.{IsUpTo}
pub use Rattle.clog_fields.specs.Limits.{IsNameLength, IsValueSize}
use Rattle.clog_fields.specs.Limits.{IsNameText, IsStoredValue}
use Rattle.std.specs.Prelude.{◌≡◌, ℕ, ◌<◌, ◌^◌, List, length, FitsSigned}
use Rattle.std.specs.Prelude.{Bool, ◌&&◌, ◌==◌, nat_lt}
use Rattle.std.specs.List.{AllByRecursion}
use Rattle.std.specs.Int.{w64}
use Rattle.clog_spec.specs.Sizes.{most_tables}
use Rattle.clog_base.specs.declared.position.Position.{Position}
use Rattle.clog_base.specs.declared.cell.Cell.{Cell}
use Rattle.clog_base.specs.declared.cell.CellKey.{CellKey}
use Rattle.clog_base.specs.declared.cell.Table.{Table}
use Rattle.clog_cells.specs.Merge.{IsCellMap}
use Rattle.clog_table.specs.declared.table_file.TableFile.{TableFile}

-- the table that is asked for, and below 16
abbrev pub IsThisTable : Table → Table → Type 0
IsThisTable found table = (found.0 < most_tables) × (found ≡ table)

-- whether a table is the one that is asked for, and below 16
abbrev pub is_this_table : Table → Table → Bool
is_this_table found table = nat_lt found.0 most_tables && found.0 == table.0

-- a key or a column
abbrev pub IsNameSize : List ℕ → Type 0
IsNameSize text = IsNameLength (length text)

-- the lengths of a cell's texts are within the limits
pub record IsSized (pair : CellKey × Cell) : Type 0 where
  pub key : IsNameSize pair.0.key
  pub column : IsNameSize pair.0.column
  pub value : IsValueSize pair.1.kind pair.1.value

-- a cell of this table, within the limits
pub record IsWithinLimits (table : Table) (pair : CellKey × Cell) : Type 0 where
  pub same_table : pair.0.table ≡ table
  pub sizes : IsSized pair

-- What can be written: a table below 16, an interval in order, and cells of the table within the
-- limits.
pub record IsWritable (file : TableFile) : Type 0 where
  pub table : file.table.0 < most_tables
  pub interval : IsUpTo file.lower file.upper
  pub cells : AllByRecursion (IsWithinLimits file.table) file.cells

-- a cell of this table as it stands in a file: texts within the limits and in UTF-8, a timestamp
-- of eight bytes
pub record IsStoredCell (table : Table) (pair : CellKey × Cell) : Type 0 where
  pub same_table : pair.0.table ≡ table
  pub key : IsNameText pair.0.key
  pub column : IsNameText pair.0.column
  pub ts : FitsSigned w64 pair.1.ts
  pub value : IsStoredValue pair.1.kind pair.1.value

-- the numbers of a position fit their bytes
pub record IsStoredPosition (at : Position) : Type 0 where
  pub id : at.id < 2 ^ 64
  pub offset : at.offset < 2 ^ 32

-- A table file: a table below 16, an interval in order, and cells of the table, each key once and
-- in order.
pub record IsTableFile (file : TableFile) : Type 0 where
  pub table : file.table.0 < most_tables
  pub lower : IsStoredPosition file.lower
  pub upper : IsStoredPosition file.upper
  pub interval : IsUpTo file.lower file.upper
  pub stored : AllByRecursion (IsStoredCell file.table) file.cells
  pub map : IsCellMap file.cells
