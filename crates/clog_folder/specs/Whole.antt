-- What the steps of reading a file answer: for private clauses.
use Rattle.std.specs.Prelude.{◌≡◌, ℕ, List, ◌++◌, length, Option, Some, IfSome, ⊤, Result, Vec}
use Rattle.std.specs.declared.alloc.Global.{Global}
use Rattle.std.specs.declared.result.Result.TheVariants as result
use Rattle.std.specs.FinMap as finmap
use Rattle.clog_io.specs.Causes.{Rose}
use Rattle.clog_disk.specs.Files.{Files, IsAbsent}
use Rattle.clog_disk.specs.declared.disk.DiskFault.{DiskFault}
use Rattle.clog_disk.specs.declared.disk.DiskFault.TheVariants as fault

-- where the files are told, these are all bytes of the file
abbrev pub IsWhole : Option Files → List ℕ → List ℕ → Type 0
IsWhole files name bytes = IfSome files (λ held. finmap.get held name ≡ Some bytes)

abbrev pub WholeRefused : Option Files → List ℕ → ℕ → ℕ → DiskFault → Type 0
WholeRefused files name faults now fault.Failed = Rose faults now
WholeRefused files name faults now fault.NoSuchFile = IsAbsent files name
WholeRefused files name faults now fault.OutOfMemory = ⊤

abbrev pub GivesWhole : Option Files → List ℕ → ℕ → ℕ → Result (Vec ℕ Global) DiskFault → Type 0
GivesWhole files name faults now (result.Ok bytes) = IsWhole files name bytes.items
GivesWhole files name faults now (result.Err refusal) = WholeRefused files name faults now refusal

-- The file is there and has so many bytes, of which these are the first.
pub record IsFirstPart (files : Files) (name : List ℕ) (size : ℕ) (bytes : List ℕ) : Type 0 where
  pub whole : List ℕ
  pub rest : List ℕ
  pub there : finmap.get files name ≡ Some whole
  pub size_is : size ≡ length whole
  pub parts : whole ≡ bytes ++ rest

-- where the files are told
abbrev pub HasFirstPart : Option Files → List ℕ → ℕ → List ℕ → Type 0
HasFirstPart files name size bytes = IfSome files (λ held. IsFirstPart held name size bytes)
