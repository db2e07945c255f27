-- What was read of the log of a folder: the cells that it restores, and how far it reaches.
use Rattle.std.specs.Prelude.{◌≡◌, ℕ, List, map, false, Option, IfSome, Result, Vec}
use Rattle.std.specs.declared.alloc.Global.{Global}
use Rattle.std.specs.declared.result.Result.TheVariants as result
use Rattle.std.specs.List.{flat_map}
use Rattle.clog_base.specs.declared.cell.Cell.{Cell}
use Rattle.clog_base.specs.declared.cell.CellKey.{CellKey}
use Rattle.clog_base.specs.declared.position.Position.{Position}
use Rattle.clog_disk.specs.Files.{Files}
use Rattle.clog_crash.specs.Damage.{AreSegmentFiles}
use Rattle.clog_folder.specs.declared.fault.OpenFault.{OpenFault}
use Rattle.clog_folder.specs.Segments.{SegmentHeld}
use Rattle.clog_folder.specs.declared.tables.TableHeld.{TableHeld}
use Rattle.clog_folder.specs.Folder.{FolderRefused, IsReadAs, PlacedPayload, payloads_of}
use Rattle.clog_folder.specs.Tables.{read_of}
use Rattle.replay_merge.specs.declared.reading.Logged.{Logged}
use Rattle.replay_merge.specs.Logged.{AreLive, IsTop}

-- The folder can be read; its table files are these, and its log has these payloads.
pub record HasLog (tables : List TableHeld) (ps : List PlacedPayload) (files : Files) : Type 0 where
  pub segments : List SegmentHeld
  pub read : IsReadAs false files (map read_of tables) segments
  pub payloads : flat_map payloads_of segments ≡ ps
  pub are_files : AreSegmentFiles files

-- The cells that a log restores beside these table files, and the greatest position of its entries;
-- where the files are told, it is the folder's.
pub record IsLogOf (files : Option Files) (tables : List TableHeld) (cells : List (CellKey × Cell))
    (top : Position) : Type 0 where
  pub ps : List PlacedPayload
  pub live : AreLive tables ps cells
  pub reaches : IsTop ps top
  pub told : IfSome files (HasLog tables ps)

-- what was read of a folder that can be read, or why it cannot be
abbrev pub ReadsBoth : Option Files → ℕ → ℕ → Result (Vec TableHeld Global × Logged) OpenFault
    → Type 0
ReadsBoth files faults now (result.Ok both) = IsLogOf files both.0.items both.1.cells both.1.top
ReadsBoth files faults now (result.Err refusal) = FolderRefused false files faults now refusal
