-- What the files of a folder restore to: the cells of its table files, and the updates of its
-- log that no table file stands for.
use Rattle.std.specs.Prelude.{◌≡◌, ◌⊎◌, ℕ, ◌≤◌, List, ◌++◌, Contains, Some, ⊤}
use Rattle.std.specs.List.{flat_map}
use Rattle.std.specs.FinMap as finmap
use Rattle.clog_spec.specs.Names.{IsSegmentName}
use Rattle.clog_base.specs.declared.cell.Cell.{Cell}
use Rattle.clog_base.specs.declared.cell.CellKey.{CellKey}
use Rattle.clog_base.specs.declared.cell.Table.{Table}
use Rattle.clog_base.specs.declared.position.Position.{Position}
use Rattle.clog_base.specs.Positions.{IsBelow, IsUpTo}
use Rattle.clog_cells.specs.Merge.{IsMerge, IsMergeOf}
use Rattle.clog_disk.specs.Files.{Files}
use Rattle.clog_entry.specs.Soft.{IsSoft}
use Rattle.clog_mutation.specs.declared.mutation.Mutation.{Mutation}
use Rattle.clog_mutation.specs.declared.mutation.Update.{Update}
use Rattle.clog_mutation.specs.Payload.{cells_of, pair_of}
use Rattle.clog_mutation.specs.Stored.{IsPayload}
use Rattle.clog_scan.specs.declared.answer.End.{End}
use Rattle.clog_scan.specs.declared.answer.End.TheVariants.{Clean, Torn}
use Rattle.clog_scan.specs.Segment.{Entry, IsSegment}
use Rattle.clog_table.specs.declared.table_file.TableFile.{TableFile}
use Rattle.clog_crash.specs.Folder.{TableRead, IsReadFrom, AreGoodTables, IsHeld}

-- ---- the log

-- a segment of version 6 is there under this name, and its bytes hold these entries and end so
pub record HoldsSegment (files : Files) (name : List ℕ) (id : ℕ) (entries : List Entry) (end : End)
    : Type 0 where
  pub named : IsSegmentName name 6 id
  pub bytes : List ℕ
  pub there : finmap.get files name ≡ Some bytes
  pub holds : IsSegment bytes id entries end

-- the position of an entry of the segment of this id: where it ends
abbrev pub end_position : ℕ → Entry → Position
end_position id entry = record { id = id; offset = entry.end }

-- the entry is one of the segment of this id
pub record IsLogged (files : Files) (id : ℕ) (entry : Entry) : Type 0 where
  pub name : List ℕ
  pub entries : List Entry
  pub end : End
  pub segment : HoldsSegment files name id entries end
  pub listed : Contains entries entry

-- ---- what table files stand for

-- The position is above the lower end of the file's interval, and not above its upper end.
pub record IsInInterval (file : TableFile) (at : Position) : Type 0 where
  pub above : IsBelow file.lower at
  pub up_to : IsUpTo at file.upper

-- an interval of one of the table's files holds the position
pub record IsSkipped (files : Files) (table : Table) (at : Position) : Type 0 where
  pub read : TableRead
  pub there : IsReadFrom files read
  pub same_table : read.file.table ≡ table
  pub inside : IsInInterval read.file at

-- ---- the cells

-- a cell of a table file
pub record IsTableCell (files : Files) (pair : CellKey × Cell) : Type 0 where
  pub read : TableRead
  pub there : IsReadFrom files read
  pub listed : Contains read.file.cells pair

-- An update of a mutation that is logged. The entry's end is its position, and no file of the
-- update's table stands for it.
pub record IsLoggedCell (files : Files) (pair : CellKey × Cell) : Type 0 where
  pub id : ℕ
  pub entry : Entry
  pub logged : IsLogged files id entry
  pub mutation : Mutation
  pub said : IsPayload entry.payload mutation
  pub update : Update
  pub listed : Contains mutation.updates update
  pub kept : ¬ IsSkipped files update.table (end_position id entry)
  pub is : pair ≡ pair_of mutation.key update

-- Where no file is damaged this is the restoring up to damage: each payload that is logged is a
-- mutation's. Where one is damaged it is the reading past damage: a payload that is no mutation's
-- adds nothing, and the entries behind it count.
abbrev pub Restores : Files → CellKey × Cell → Type 0
Restores files pair = IsTableCell files pair ⊎ IsLoggedCell files pair

-- the rows are the merge of all cells that the files restore
abbrev pub IsRestored : Files → List (CellKey × Cell) → Type 0
IsRestored files rows = IsMergeOf (Restores files) rows

-- ---- how far the files are good

-- no segment has a greater id
abbrev pub IsLastId : Files → ℕ → Type 0
IsLastId files id =
    (name : List ℕ) (version other : ℕ) → IsSegmentName name version other → IsHeld files name
    → other ≤ id

-- A segment ends clean. That of the greatest id may be torn by a crash.
abbrev pub MayEnd : Files → ℕ → End → Type 0
MayEnd files id (Clean at) = ⊤
MayEnd files id (Torn at cause) = IsSoft cause × IsLastId files id

-- the payload of each entry is a mutation's
abbrev pub AreMutations : List Entry → Type 0
AreMutations entries = (entry : Entry) → Contains entries entry
    → (mutation : Mutation) × IsPayload entry.payload mutation

-- the segment is there and ends as it may, and each of its payloads is a mutation's
pub record IsGoodSegment (files : Files) (name : List ℕ) (id : ℕ) : Type 0 where
  pub entries : List Entry
  pub end : End
  pub holds : HoldsSegment files name id entries end
  pub may_end : MayEnd files id end
  pub payloads : AreMutations entries

-- All table files are good, and all segments are of version 6 and good.
pub record IsUndamaged (files : Files) : Type 0 where
  pub tables : AreGoodTables files
  pub segments : (name : List ℕ) (version id : ℕ) → IsSegmentName name version id
      → IsHeld files name → (version ≡ 6) × IsGoodSegment files name id

-- ---- what mutations add

-- The files restored rows before, and the mutations' cells merged into these now. No file is
-- damaged.
pub record IsAdded (before after : Files) (mutations : List Mutation) : Type 0 where
  pub rows : List (CellKey × Cell)
  pub rows_now : List (CellKey × Cell)
  pub restored : IsRestored before rows
  pub merged : IsMerge (rows ++ flat_map cells_of mutations) rows_now
  pub restored_now : IsRestored after rows_now
  pub undamaged : IsUndamaged after
