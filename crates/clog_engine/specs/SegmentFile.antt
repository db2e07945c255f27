-- What the steps of reading a segment's file answer: for private clauses.
use Rattle.std.specs.Prelude.{ℕ, ◌≤◌, List, length, Option, Result, Vec}
use Rattle.std.specs.declared.alloc.Global.{Global}
use Rattle.std.specs.declared.result.Result.TheVariants as result
use Rattle.clog_disk.specs.Files.{Files, IsThere}
use Rattle.clog_folder.specs.Whole.{IsWhole}
use Rattle.clog_engine.specs.declared.status.Status.{Status}
use Rattle.clog_engine.specs.Limits.{scan_limit}
use Rattle.clog_engine.specs.Scanning.{ReadRefused}

-- the file is there
abbrev pub FindsFile : {T : Type 0} → Option Files → ℕ → ℕ → List ℕ → Result T Status → Type 0
FindsFile files faults now name (result.Ok x) = IsThere files name
FindsFile files faults now name (result.Err status) = ReadRefused files faults now name status

-- these are its bytes, and not too many
abbrev pub GivesSegmentFile : Option Files → ℕ → ℕ → List ℕ → Result (Vec ℕ Global) Status → Type 0
GivesSegmentFile files faults now name (result.Ok bytes) =
    IsWhole files name bytes.items × (length bytes.items ≤ scan_limit)
GivesSegmentFile files faults now name (result.Err status) =
    ReadRefused files faults now name status
