-- How a folder is recovered: for each table one file comes, whose interval holds the whole log, and
-- then the segments go.
use Rattle.std.specs.Prelude.{◌≡◌, ◌⊎◌, ◌↔◌, ℕ, List, Contains}
use Rattle.clog_spec.specs.Names.{IsSegmentName}
use Rattle.clog_base.specs.declared.cell.Cell.{Cell}
use Rattle.clog_base.specs.declared.cell.CellKey.{CellKey}
use Rattle.clog_base.specs.declared.cell.Table.{Table}
use Rattle.clog_base.specs.declared.position.Position.{Position}
use Rattle.clog_base.specs.Positions.{IsUpTo}
use Rattle.clog_cells.specs.Merge.{IsMergeOf}
use Rattle.clog_disk.specs.Files.{Files, bytes_at}
use Rattle.clog_scan.specs.Segment.{Entry}
use Rattle.clog_table.specs.declared.table_file.TableFile.{TableFile}
use Rattle.clog_crash.specs.Folder.{HasArchive, IsHeld}
use Rattle.clog_crash.specs.Readings.{
  Reading,
  IsLoggedCellIn,
  IsLoggedIn,
  IsSkippedIn,
  IsTableIn,
}
use Rattle.clog_crash.specs.Restore.{IsInInterval, end_position}

-- a cell of the table that the log restores
pub record IsLiveOf (r : Reading) (table : Table) (pair : CellKey × Cell) : Type 0 where
  pub cell : IsLoggedCellIn r pair
  pub same_table : table ≡ pair.0.table

-- no entry that is logged ends behind the position
abbrev pub IsBehindAll : Reading → Position → Type 0
IsBehindAll r at = (id : ℕ) (entry : Entry) → IsLoggedIn r id entry
    → IsUpTo (end_position id entry) at

-- the greatest position at which an entry ends that is logged
pub record IsGreatestPosition (r : Reading) (at : Position) : Type 0 where
  pub id : ℕ
  pub entry : Entry
  pub logged : IsLoggedIn r id entry
  pub is : end_position id entry ≡ at
  pub behind : IsBehindAll r at

-- The file of a table that recovery puts in place: it stands for the log from its very beginning to
-- its greatest position, and its cells are the merge of the table's that the log restores.
pub record IsRecoveryFile (r : Reading) (file : TableFile) : Type 0 where
  pub from_start : file.lower ≡ record { id = 0; offset = 0 }
  pub to_end : IsGreatestPosition r file.upper
  pub cells : IsMergeOf (IsLiveOf r file.table) file.cells

-- every entry that is logged ends within the file's interval
abbrev pub HoldsAll : Reading → TableFile → Type 0
HoldsAll r file = (id : ℕ) (entry : Entry) → IsLoggedIn r id entry
    → IsInInterval file (end_position id entry)

-- Of a folder that read as r at first, these tables' files have come, and it reads as q now: the
-- log and the older table files stand, and files of these tables stand for the whole log.
pub record AreFiled (r q : Reading) (done : List Table) : Type 0 where
  pub log : (id : ℕ) (entry : Entry) → IsLoggedIn q id entry ↔ IsLoggedIn r id entry
  pub older : (file : TableFile) → IsTableIn r file → IsTableIn q file
  pub no_other : (file : TableFile) → IsTableIn q file → IsTableIn r file ⊎ IsRecoveryFile r file
  pub filed : (table : Table) → Contains done table → (id : ℕ) (entry : Entry)
      → IsLoggedIn r id entry → IsSkippedIn q table (end_position id entry)
  pub others : (table : Table) (at : Position) → ¬ Contains done table → IsSkippedIn q table at
      → IsSkippedIn r table at

-- each table that has a cell which the log restores is one of these
abbrev pub AreAllLive : Reading → List Table → Type 0
AreAllLive r tables = (pair : CellKey × Cell) → IsLoggedCellIn r pair
    → Contains tables pair.0.table

-- the id of a segment's name of any version, of an archive's, or of the upper end of a table file's
-- interval
abbrev pub NamesAny : Files → ℕ → Type 0
NamesAny files id =
    ((name : List ℕ) × ((version : ℕ) × IsSegmentName name version id × IsHeld files name))
    ⊎ (HasArchive files id
    ⊎ ((file : TableFile) × IsTableIn (bytes_at files) file × (id ≡ file.upper.id)))
