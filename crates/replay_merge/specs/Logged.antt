-- The cells that the log of a folder restores, and the greatest position of its entries.
use Rattle.std.specs.Prelude.{◌≡◌, ◌⊎◌, ℕ, List, Contains, false, Option, Some, IfSome, Result}
use Rattle.std.specs.declared.result.Result.TheVariants as result
use Rattle.std.specs.List.{flat_map}
use Rattle.clog_base.specs.declared.cell.Cell.{Cell}
use Rattle.clog_base.specs.declared.cell.CellKey.{CellKey}
use Rattle.clog_base.specs.declared.position.Position.{Position}
use Rattle.clog_base.specs.Positions.{IsUpTo}
use Rattle.clog_disk.specs.Files.{Files}
use Rattle.clog_crash.specs.Counts.{LoggedMutation}
use Rattle.clog_folder.specs.declared.fault.OpenFault.{OpenFault}
use Rattle.clog_folder.specs.declared.tables.TableHeld.{TableHeld}
use Rattle.clog_folder.specs.Folder.{PlacedPayload, Say, payloads_of}
use Rattle.clog_folder.specs.Segments.{HaveHeld, Row, SegmentHeld, SegmentsRefused}
use Rattle.replay_merge.specs.declared.merged.Merged.{Merged}
use Rattle.replay_merge.specs.declared.reading.Logged.{Logged}
use Rattle.replay_merge.specs.Merged.{IsMergedOf, updates_of}

-- The cells are the merge of the updates of these payloads for which none of the table files
-- stands.
pub record AreLive (tables : List TableHeld) (ps : List PlacedPayload)
    (cells : List (CellKey × Cell)) : Type 0 where
  pub log : List LoggedMutation
  pub say : Say ps log
  pub merged : Merged
  pub taken : IsMergedOf tables (flat_map updates_of log) merged
  pub cells_are : cells ≡ merged.cells

-- the very beginning of the log
abbrev pub start : Position
start = record { id = 0; offset = 0 }

-- the later of two positions
pub record IsLaterOf (a b later : Position) : Type 0 where
  pub first : IsUpTo a later
  pub second : IsUpTo b later
  pub one : (later ≡ a) ⊎ (later ≡ b)

-- the greatest position of these, and the very beginning where there is none
pub record IsTop (ps : List PlacedPayload) (top : Position) : Type 0 where
  pub behind : (p : PlacedPayload) → Contains ps p → IsUpTo p.0 top
  pub one : (top ≡ start) ⊎ ((p : PlacedPayload) × Contains ps p × (p.0 ≡ top))

-- These are the payloads of the segments of these rows, which are undamaged.
pub record AreLogged (rows : List Row) (ps : List PlacedPayload) (files : Files) : Type 0 where
  pub helds : List SegmentHeld
  pub have : HaveHeld false (Some files) rows helds
  pub payloads : flat_map payloads_of helds ≡ ps

-- What these table files leave of a log, and how far it reaches; where the files are told, the log
-- is that of the segments of these rows.
pub record IsLogged (files : Option Files) (tables : List TableHeld) (rows : List Row)
    (logged : Logged) : Type 0 where
  pub ps : List PlacedPayload
  pub live : AreLive tables ps logged.cells
  pub top : IsTop ps logged.top
  pub told : IfSome files (AreLogged rows ps)

-- what the log restores, or why it is not read
abbrev pub ReadsLog : Option Files → ℕ → ℕ → List TableHeld → List Row → Result Logged OpenFault
    → Type 0
ReadsLog files faults now tables rows (result.Ok logged) = IsLogged files tables rows logged
ReadsLog files faults now tables rows (result.Err refusal) =
    SegmentsRefused false files faults now refusal
