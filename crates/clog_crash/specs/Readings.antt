-- What a folder restores to, told by how each name reads: an absent name reads as no bytes. A
-- change of a folder is then a change at one name of its reading.
use Rattle.std.specs.Prelude.{◌≡◌, ◌⊎◌, ℕ, ◌<◌, ◌^◌, List, Contains}
use Rattle.clog_spec.specs.Names.{segment_name_of, table_name_of, IsTableName}
use Rattle.clog_base.specs.declared.cell.Cell.{Cell}
use Rattle.clog_base.specs.declared.cell.CellKey.{CellKey}
use Rattle.clog_base.specs.declared.cell.Table.{Table}
use Rattle.clog_base.specs.declared.position.Position.{Position}
use Rattle.clog_mutation.specs.declared.mutation.Mutation.{Mutation}
use Rattle.clog_mutation.specs.Payload.{cells_of}
use Rattle.clog_mutation.specs.Stored.{IsPayload}
use Rattle.clog_scan.specs.declared.answer.End.{End}
use Rattle.clog_scan.specs.Segment.{Entry, IsSegment}
use Rattle.clog_table.specs.declared.table_file.TableFile.{TableFile}
use Rattle.clog_table.specs.Refusals.{IsFileOf}
use Rattle.clog_crash.specs.Restore.{IsInInterval, end_position}

-- how each name reads
abbrev pub Reading : Type 0
Reading = List ℕ → List ℕ

-- the entry is one of the segment of this id
pub record IsLoggedIn (r : Reading) (id : ℕ) (entry : Entry) : Type 0 where
  pub fits : id < 2 ^ 63
  pub entries : List Entry
  pub end : End
  pub holds : IsSegment (r (segment_name_of 6 id)) id entries end
  pub listed : Contains entries entry

-- a table file that says this
pub record IsTableIn (r : Reading) (file : TableFile) : Type 0 where
  pub sequence : ℕ
  pub named : IsTableName (table_name_of file.table.0 sequence) file.table.0 sequence
  pub spelled : IsFileOf file.table (r (table_name_of file.table.0 sequence)) file

-- an interval of one of the table's files holds the position
pub record IsSkippedIn (r : Reading) (table : Table) (at : Position) : Type 0 where
  pub file : TableFile
  pub there : IsTableIn r file
  pub same_table : file.table ≡ table
  pub inside : IsInInterval file at

-- a cell that the mutation of an entry writes
pub record IsCellOf (entry : Entry) (pair : CellKey × Cell) : Type 0 where
  pub mutation : Mutation
  pub said : IsPayload entry.payload mutation
  pub listed : Contains (cells_of mutation) pair

-- a cell of a table file
pub record IsTableCellIn (r : Reading) (pair : CellKey × Cell) : Type 0 where
  pub file : TableFile
  pub there : IsTableIn r file
  pub listed : Contains file.cells pair

-- a cell of a mutation that is logged, and that no file of its table stands for
pub record IsLoggedCellIn (r : Reading) (pair : CellKey × Cell) : Type 0 where
  pub id : ℕ
  pub entry : Entry
  pub logged : IsLoggedIn r id entry
  pub cell : IsCellOf entry pair
  pub kept : ¬ IsSkippedIn r pair.0.table (end_position id entry)

-- what files restore that read so
abbrev pub RestoresIn : Reading → CellKey × Cell → Type 0
RestoresIn r pair = IsTableCellIn r pair ⊎ IsLoggedCellIn r pair

-- a cell of one of these entries
pub record IsCellAmong (entries : List Entry) (pair : CellKey × Cell) : Type 0 where
  pub entry : Entry
  pub listed : Contains entries entry
  pub cell : IsCellOf entry pair
