-- What `scan` answers.
use Rattle.std.specs.Prelude.{
  ◌≡◌,
  ℕ,
  ◌≤◌,
  List,
  length,
  Option,
  None,
  IfSome,
  ⊤,
  Result,
}
use Rattle.std.specs.declared.result.Result.TheVariants as result
use Rattle.std.specs.FinMap as map
use Rattle.clog_spec.specs.Names.{segment_name_of}
use Rattle.clog_base.specs.declared.fault.Quantity.TheVariants.{SegmentBytes}
use Rattle.clog_io.specs.Causes.{Rose}
use Rattle.clog_disk.specs.Files.{Files}
use Rattle.clog_scan.specs.declared.answer.End.{End}
use Rattle.clog_scan.specs.Segment.{Entry, IsSegment}
use Rattle.clog_engine.specs.declared.status.Status.{Status}
use Rattle.clog_engine.specs.declared.status.Status.TheVariants.{
  DiskFault,
  OutOfMemory,
  Limit,
  Absent,
}
use Rattle.clog_folder.specs.Segments.{IsTooLong}
use Rattle.clog_folder.specs.Whole.{IsWhole}
use Rattle.clog_engine.specs.Limits.{scan_limit}
use Rattle.clog_engine.specs.ScanReport.{scan_report}

-- The file is there, and not too long; the report tells what it holds.
pub record IsScanned (files : Option Files) (id : ℕ) (report : List ℕ) : Type 0 where
  pub bytes : List ℕ
  pub file : IsWhole files (segment_name_of 6 id) bytes
  pub few : length bytes ≤ scan_limit
  pub entries : List Entry
  pub end : End
  pub segment : IsSegment bytes id entries end
  pub text : report ≡ scan_report id entries end

-- Why the file of this name is not read: each row with what comes before it.
abbrev pub ReadRefused : Option Files → ℕ → ℕ → List ℕ → Status → Type 0
ReadRefused files faults now name DiskFault = Rose faults now
ReadRefused files faults now name OutOfMemory = ⊤
ReadRefused files faults now name (Absent other) =
    (other ≡ name) × IfSome files (λ held. map.get held name ≡ None)
ReadRefused files faults now name (Limit SegmentBytes most) =
    (most ≡ scan_limit) × IfSome files (λ held. IsTooLong held name)
ReadRefused files faults now name other = ⊥

-- a report, or why there is none
abbrev pub Scans : ℕ → Option Files → ℕ → ℕ → Result (List ℕ) Status → Type 0
Scans id files faults now (result.Ok report) = IsScanned files id report
Scans id files faults now (result.Err status) =
    ReadRefused files faults now (segment_name_of 6 id) status
