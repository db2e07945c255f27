-- What `replay` answers, and what it prints.
use Rattle.std.specs.Prelude.{
  ◌≡◌,
  ℕ,
  List,
  ◌++◌,
  Bool,
  false,
  Option,
  IfSome,
  ⊤,
  codes,
  Result,
}
use Rattle.std.specs.declared.result.Result.TheVariants as result
use Rattle.std.specs.List.{flat_map}
use Rattle.clog_spec.specs.Sizes.{file_limit}
use Rattle.clog_base.specs.declared.fault.Quantity.TheVariants.{SegmentBytes}
use Rattle.clog_io.specs.Causes.{Rose}
use Rattle.clog_disk.specs.Files.{Files}
use Rattle.clog_text.specs.CellTexts.{row_line}
use Rattle.clog_crash.specs.Folder.{IsFirstBad}
use Rattle.clog_folder.specs.Folder.{HasDamage, HasLongSegment}
use Rattle.replay_merge.specs.declared.restoring.Counts.{Counts}
use Rattle.replay_merge.specs.declared.restoring.Restored.{Restored}
use Rattle.replay_merge.specs.Restoring.{IsReplayOf}
use Rattle.clog_engine.specs.declared.status.Status.{Status}
use Rattle.clog_engine.specs.declared.status.Status.TheVariants.{
  DiskFault,
  Damaged,
  BadTable,
  OutOfMemory,
  Limit,
}
use Rattle.clog_engine.specs.Report.{numbered_line}

abbrev pub counts_lines : Counts → List ℕ
counts_lines counts =
    numbered_line (codes "segments") counts.segments
    ++ numbered_line (codes "tables") counts.tables
    ++ numbered_line (codes "entries") counts.entries
    ++ numbered_line (codes "updates") counts.updates
    ++ numbered_line (codes "skipped") counts.skipped

-- the counts, and the line of each cell
abbrev pub replay_report : Restored → List ℕ
replay_report restored = counts_lines restored.counts ++ flat_map row_line restored.cells

-- Where the files are told, the report has their counts and what they restore to; they could be
-- read, and without `ignore` nothing of them is damaged.
pub record IsReplayed (ignore : Bool) (files : Option Files) (report : List ℕ) : Type 0 where
  pub restored : Restored
  pub replayed : IfSome files (λ held. IsReplayOf ignore held restored)
  pub text : report ≡ replay_report restored

-- Why the folder is not replayed: each row with what comes before it.
abbrev pub ReplayRefused : Bool → Option Files → ℕ → ℕ → Status → Type 0
ReplayRefused ignore files faults now DiskFault = Rose faults now
ReplayRefused ignore files faults now OutOfMemory = ⊤
ReplayRefused ignore files faults now (BadTable name fault) =
    IfSome files (λ held. IsFirstBad held name fault)
ReplayRefused ignore files faults now (Damaged name at cause) =
    (ignore ≡ false) × IfSome files (λ held. HasDamage held name at cause)
ReplayRefused ignore files faults now (Limit SegmentBytes most) =
    (most ≡ file_limit) × IfSome files (λ held. HasLongSegment ignore held)
ReplayRefused ignore files faults now other = ⊥

-- a report, or why there is none
abbrev pub ReplaysFolder : Bool → Option Files → ℕ → ℕ → Result (List ℕ) Status → Type 0
ReplaysFolder ignore files faults now (result.Ok report) = IsReplayed ignore files report
ReplaysFolder ignore files faults now (result.Err status) =
    ReplayRefused ignore files faults now status
