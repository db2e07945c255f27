-- What `drill` does, and what it prints: lines that are made are applied, and then the folder is
-- replayed and told in numbers.
use Rattle.std.specs.Prelude.{◌≡◌, ◌⊎◌, ℕ, ℤ, pos, ◌+ℤ◌, List, ◌∷◌, ◌++◌, length}
use Rattle.std.specs.Prelude.{count_by, Bool, true, false, None, Some, IfSome, Option, codes}
use Rattle.std.specs.Prelude.{Result}
use Rattle.std.specs.declared.result.Result.TheVariants as result
use Rattle.std.specs.Fmt.{signed_decimal}
use Rattle.std.specs.List.{fold, sum_by}
use Rattle.clog_base.specs.declared.cell.Cell.{Cell}
use Rattle.clog_base.specs.declared.cell.CellKey.{CellKey}
use Rattle.clog_base.specs.declared.cell.Kind.{Kind}
use Rattle.clog_base.specs.declared.cell.Kind.TheVariants.{Deletion, Live}
use Rattle.clog_base.specs.declared.sizes.Sizes.{Sizes}
use Rattle.clog_base.specs.declared.fault.Quantity.TheVariants.{SegmentBytes, Ids, TableFiles}
use Rattle.clog_spec.specs.Sizes.{file_limit}
use Rattle.clog_io.specs.Causes.{Rose}
use Rattle.clog_disk.specs.Files.{Files}
use Rattle.clog_mutation.specs.declared.mutation.Mutation.{Mutation}
use Rattle.clog_text.specs.Made.{made_lines}
use Rattle.clog_crash.specs.Folder.{IsFirstBad}
use Rattle.clog_folder.specs.Folder.{HasDamage, HasLongSegment}
use Rattle.clog_segments.specs.Named.{sequence_limit, id_limit}
use Rattle.clog_segments.specs.Opened.{HasGreatId, HasManyTables}
use Rattle.sync_core.specs.declared.SyncCore.TheVariants.{Periodic}
use Rattle.clog_words.specs.declared.request.ApplyOptions.{ApplyOptions}
use Rattle.clog_applied.specs.Printed.{line}
use Rattle.replay_merge.specs.declared.restoring.Restored.{Restored}
use Rattle.replay_merge.specs.Restoring.{IsReplayOf}
use Rattle.clog_engine.specs.declared.summary.Tally.{Tally}
use Rattle.clog_engine.specs.declared.status.Status.{Status}
use Rattle.clog_engine.specs.declared.status.Status.TheVariants.{DiskFault, Damaged, BadTable}
use Rattle.clog_engine.specs.declared.status.Status.TheVariants.{OutOfMemory, Limit}
use Rattle.clog_engine.specs.Logged.{AreApplied, LeavesSome}
use Rattle.clog_engine.specs.Outside.{Outside, IsLeftAlone}
use Rattle.clog_engine.specs.Planning.{ArePlanned}
use Rattle.clog_engine.specs.Replaying.{ReplayRefused}
use Rattle.clog_engine.specs.Report.{numbered_line}
use Rattle.clog_engine.specs.declared.shares.PlannedLines.{PlannedLines}

-- The options of `apply` by which a drill's lines are applied: four writers in segments of 1024
-- KiB, each of which flushes a table at every 1000 of its updates.
abbrev pub drill_options : ApplyOptions
drill_options = record {
  writers = 4;
  sync = Periodic 10000;
  segment_kib = 1024;
  flush_at = Some 1000;
  archive = false;
  receipts = false;
  drain = false;
  dump = false;
}

-- ---- the numbers

abbrev pub is_live_kind : Kind → Bool
is_live_kind Live = true
is_live_kind Deletion = false

abbrev pub is_live : CellKey × Cell → Bool
is_live row = is_live_kind row.1.kind

abbrev pub is_deletion_kind : Kind → Bool
is_deletion_kind Live = false
is_deletion_kind Deletion = true

abbrev pub is_deletion : CellKey × Cell → Bool
is_deletion row = is_deletion_kind row.1.kind

-- the sum of the cells' timestamps
abbrev pub timestamps_of : List (CellKey × Cell) → ℤ
timestamps_of cells = fold (λ (sum : ℤ) (row : CellKey × Cell). sum +ℤ row.1.ts) (pos 0) cells

-- how many updates lines have
abbrev pub updates_of : List Mutation → ℕ
updates_of lines = sum_by (λ (line : Mutation). length line.updates) lines

-- how many lines there are and how many updates of theirs, how many cells the folder restores to,
-- how many of these are live and how many deletions, and the sum of their timestamps
abbrev pub drill_report : List Mutation → List (CellKey × Cell) → List ℕ
drill_report lines cells =
    numbered_line (codes "lines") (length lines)
    ++ numbered_line (codes "updates") (updates_of lines)
    ++ numbered_line (codes "cells") (length cells)
    ++ numbered_line (codes "live") (count_by is_live cells)
    ++ numbered_line (codes "deletions") (count_by is_deletion cells)
    ++ line (codes "timestamps" ++ 32 ∷ signed_decimal (timestamps_of cells))

-- ---- what is done

-- The report has the numbers of lines and of what the files restore to, where they are told.
pub record IsFolderTold (lines : List Mutation) (files : Option Files) (report : List ℕ) : Type 0
  where
    pub restored : Restored
    pub replayed : IfSome files (λ held. IsReplayOf false held restored)
    pub report_is : report ≡ drill_report lines restored.cells

-- The lines are applied, whatever the disk tells, and the report has their numbers and those of
-- what the folder restores to then.
pub record IsDrilled (o : Outside) (lines : List Mutation) (report : List ℕ) : Type 0 where
  pub text : List ℕ
  pub applied : AreApplied o drill_options lines text
  pub told : IsFolderTold lines o.files_now report

-- All lines are applied, whatever the disk tells.
abbrev pub AppliesAll : Outside → List Mutation → Type 0
AppliesAll o lines = (text : List ℕ) × AreApplied o drill_options lines text

-- The folder is refused as it was, and left alone. Of a disk that does not tell its files it may be
-- refused behind the lines: one that tells them can be read there.
abbrev pub IsRefusedFor : Outside → List Mutation → (Files → Type 0) → Type 0
IsRefusedFor o lines P =
    (IfSome o.files P × IsLeftAlone o) ⊎ ((o.files ≡ None) × AppliesAll o lines)

-- The disk was left alone, or the folder restores the same, or the first of the lines came; or all
-- of them are applied, and the folder was not read behind them.
abbrev pub LeavesDrill : List Mutation → Outside → Type 0
LeavesDrill lines o = LeavesSome drill_options lines o ⊎ AppliesAll o lines

-- Why nothing is reported, and what is left of the disk.
abbrev pub DrillRefuses : List Mutation → Status → Outside → Type 0
DrillRefuses lines DiskFault o =
    Rose o.disk_faults o.disk_faults_now × LeavesDrill lines o
DrillRefuses lines (Damaged name at cause) o =
    IsRefusedFor o lines (λ files. HasDamage files name at cause)
DrillRefuses lines (BadTable name fault) o =
    IsRefusedFor o lines (λ files. IsFirstBad files name fault)
DrillRefuses lines OutOfMemory o = LeavesDrill lines o
DrillRefuses lines (Limit SegmentBytes most) o =
    (most ≡ file_limit) × IsRefusedFor o lines (HasLongSegment false)
DrillRefuses lines (Limit TableFiles most) o =
    (most ≡ sequence_limit) × IfSome o.files HasManyTables × IsLeftAlone o
DrillRefuses lines (Limit Ids most) o =
    (most ≡ id_limit) × IfSome o.files HasGreatId × IsLeftAlone o
DrillRefuses lines other o = ⊥

-- a report of lines, or why there is none
abbrev pub DrillsLines : List Mutation → Outside → Result (List ℕ) Status → Type 0
DrillsLines lines o (result.Ok report) = IsDrilled o lines report
DrillsLines lines o (result.Err status) = DrillRefuses lines status o

-- the same of the lines that are made
abbrev pub Drills : ℕ → ℕ → Outside → Result (List ℕ) Status → Type 0
Drills seed count = DrillsLines (made_lines seed count)

-- ---- for private clauses

-- the report of lines and a folder, or why there is none
abbrev pub TellsFolder : List Mutation → Option Files → ℕ → ℕ → Result (List ℕ) Status → Type 0
TellsFolder lines files faults now (result.Ok report) = IsFolderTold lines files report
TellsFolder lines files faults now (result.Err status) =
    ReplayRefused false files faults now status

-- made lines, planned, and how many updates they have; only memory can be missing
abbrev pub PlansMade : {D : Type 0} → Sizes → Option ℕ → ℕ → ℕ
    → Result (PlannedLines D × ℕ) Status → Type 0
PlansMade sizes flush seed count (result.Ok made) =
    ArePlanned false sizes flush (made_lines seed count) made.0
    × (made.1 ≡ updates_of (made_lines seed count))
PlansMade sizes flush seed count (result.Err status) = status ≡ OutOfMemory

-- the tally is that of the cells
pub record IsTallyOf (cells : List (CellKey × Cell)) (tally : Tally) : Type 0 where
  pub live : tally.live ≡ count_by is_live cells
  pub deletions : tally.deletions ≡ count_by is_deletion cells
  pub timestamps : tally.timestamps ≡ timestamps_of cells
