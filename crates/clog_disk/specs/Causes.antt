-- When a call of a disk answers which fault, and what becomes of its count of faults.
use Rattle.std.specs.Prelude.{
  ◌≡◌,
  ◌≢◌,
  ℕ,
  ◌≤◌,
  List,
  Option,
  Result,
  Ok,
  Err,
  IsErrOf,
  ⊤,
}
use Rattle.clog_io.specs.Causes.{Rose}
use Rattle.clog_disk.specs.declared.disk.DiskFault.{DiskFault}
use Rattle.clog_disk.specs.declared.disk.DiskFault.TheVariants.{Failed, NoSuchFile, OutOfMemory}
use Rattle.clog_disk.specs.Files.{Files, IsAbsent, IsThere}

-- `Failed` is answered only where the count has risen, and else the count stays.
pub record HasDiskCause {T : Type 0} (before now : ℕ) (result : Result T DiskFault) : Type 0 where
  pub later : before ≤ now
  pub failed : IsErrOf result Failed → Rose before now
  pub quiet : result ≢ Err Failed → now ≡ before

-- a call that wants its file there: `NoSuchFile` comes exactly where the files are told and the
-- name is not there, and yields to a call that fails and to want of memory
abbrev pub Finds : {T : Type 0} → Option Files → List ℕ → Result T DiskFault → Type 0
Finds files name (Ok answer) = IsThere files name
Finds files name (Err NoSuchFile) = IsAbsent files name
Finds files name (Err Failed) = ⊤
Finds files name (Err OutOfMemory) = ⊤

-- A call of a disk none of whose calls fails has not failed, and neither will a later one.
pub record StaysReliable {T : Type 0} (now : Type 0) (result : Result T DiskFault) : Type 0 where
  pub answers : result ≢ Err Failed
  pub still : now
