-- What a folder restores to before anything is applied, and why a folder is not opened: for private
-- clauses.
use Rattle.std.specs.Prelude.{◌≡◌, ℕ, List, Bool, true, false, Option, IfSome, ⊤, Result}
use Rattle.std.specs.declared.result.Result.TheVariants as result
use Rattle.clog_base.specs.declared.cell.Cell.{Cell}
use Rattle.clog_base.specs.declared.cell.CellKey.{CellKey}
use Rattle.clog_base.specs.declared.fault.Quantity.TheVariants.{Ids, SegmentBytes, TableFiles}
use Rattle.clog_spec.specs.Sizes.{file_limit}
use Rattle.clog_cells.specs.Merge.{AreInOrder}
use Rattle.clog_io.specs.Causes.{Rose}
use Rattle.clog_disk.specs.Files.{Files}
use Rattle.clog_crash.specs.Folder.{IsFirstBad}
use Rattle.clog_crash.specs.Restore.{IsRestored}
use Rattle.clog_folder.specs.Folder.{HasDamage, HasLongSegment}
use Rattle.clog_segments.specs.Named.{id_limit, sequence_limit}
use Rattle.clog_segments.specs.Opened.{HasGreatId, HasManyTables}
use Rattle.clog_engine.specs.declared.status.Status.{Status}
use Rattle.clog_engine.specs.declared.status.Status.TheVariants.{
  DiskFault,
  Damaged,
  BadTable,
  OutOfMemory,
  Limit,
}

-- why a folder is not opened, as a run ends then
abbrev pub FolderRefuses : Option Files → ℕ → ℕ → Status → Type 0
FolderRefuses files faults now DiskFault = Rose faults now
FolderRefuses files faults now OutOfMemory = ⊤
FolderRefuses files faults now (BadTable name fault) =
    IfSome files (λ held. IsFirstBad held name fault)
FolderRefuses files faults now (Damaged name at cause) =
    IfSome files (λ held. HasDamage held name at cause)
FolderRefuses files faults now (Limit SegmentBytes most) =
    (most ≡ file_limit) × IfSome files (HasLongSegment false)
FolderRefuses files faults now (Limit TableFiles most) =
    (most ≡ sequence_limit) × IfSome files HasManyTables
FolderRefuses files faults now (Limit Ids most) = (most ≡ id_limit) × IfSome files HasGreatId
FolderRefuses files faults now other = ⊥

-- The cells are those that the files restore to, where a dump asks for them.
pub record Shows (dump : Bool) (files : Option Files) (cells : List (CellKey × Cell)) : Type 0 where
  pub ordered : AreInOrder cells
  pub restored : dump ≡ true → IfSome files (λ held. IsRestored held cells)

-- the cells, or why the files are not read
abbrev pub GivesCells : Bool → Option Files → ℕ → ℕ → Result (List (CellKey × Cell)) Status → Type 0
GivesCells dump files faults now (result.Ok cells) = Shows dump files cells
GivesCells dump files faults now (result.Err status) = FolderRefuses files faults now status
