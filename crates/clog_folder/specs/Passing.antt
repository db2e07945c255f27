-- What a step of the reading leaves of the disk, and when it tells the disk's faults.
use Rattle.std.specs.Prelude.{◌≡◌, ◌≢◌, ℕ, ◌≤◌, List, Option, Result, Ok, Err}
use Rattle.clog_disk.specs.declared.change.Change.{Change}
use Rattle.clog_disk.specs.Files.{Files}
use Rattle.clog_disk.specs.Images.{Elapses, Unchanged}
use Rattle.clog_disk.specs.declared.disk.DiskFault.{DiskFault}
use Rattle.clog_disk.specs.declared.disk.DiskFault.TheVariants as fault
use Rattle.clog_folder.specs.declared.fault.OpenFault.{OpenFault}
use Rattle.clog_folder.specs.declared.fault.OpenFault.TheVariants.{Disk, OutOfMemory}

-- No file and no image of a disk has changed, and none of its changes is new. Time has gone on, and
-- the count of faults has not fallen.
pub record IsUntouched {D : Type 0} (files : D → Option Files)
    (changes : D → Option (List Change))
    (leaves : D → List ℕ → Option (List ℕ) → Type 0) (moment : D → ℕ)
    (since : D → ℕ → Files → Type 0) (read_at : D → ℕ → Option (List ℕ → List ℕ))
    (lasted_at : D → ℕ → Type 0)
    (faults : D → ℕ) (old new : D) : Type 0 where
  pub same : Unchanged (files old) (files new) (leaves old) (leaves new)
  pub changes_are : changes new ≡ changes old
  pub time : Elapses moment since leaves read_at lasted_at old new
  pub later : faults old ≤ faults new

-- why a folder is not read whose disk refuses a call
abbrev pub fault_of : DiskFault → OpenFault
fault_of fault.OutOfMemory = OutOfMemory
fault_of fault.Failed = Disk
fault_of fault.NoSuchFile = Disk

-- what is answered for another reason than the disk's has counted no fault of it
abbrev pub TellsFault : OpenFault → ℕ → ℕ → Type 0
TellsFault refusal faults now = refusal ≢ Disk → now ≡ faults

abbrev pub TellsEach : {T : Type 0} → ℕ → ℕ → Result T OpenFault → Type 0
TellsEach faults now (Ok x) = now ≡ faults
TellsEach faults now (Err refusal) = TellsFault refusal faults now
