-- When the disk is left alone: its count of faults rises only where a run tells it, and what is
-- refused before the listing does not call the disk.
use Rattle.std.specs.Prelude.{◌≡◌, ◌≢◌, ℕ, ⊤, Result, Ok, Err}
use Rattle.clog_base.specs.declared.fault.Quantity.TheVariants.{FileBytes, Lines}
use Rattle.clog_engine.specs.declared.status.Status.{Status}
use Rattle.clog_engine.specs.declared.status.Status.TheVariants.{
  Usage,
  BadLine,
  TooLarge,
  ReadFault,
  DiskFault,
  Limit,
}

-- a run that does not end with a fault of the disk has counted none
abbrev pub TellsFaults : Status → ℕ → ℕ → Type 0
TellsFaults status faults now = status ≢ DiskFault → now ≡ faults

-- the same of a step of it
abbrev pub TellsEach : {T : Type 0} → ℕ → ℕ → Result T Status → Type 0
TellsEach faults now (Ok x) = now ≡ faults
TellsEach faults now (Err status) = TellsFaults status faults now

-- what is refused by the words and the mutation file alone
abbrev pub IsBeforeDisk : Status → Type 0
IsBeforeDisk Usage = ⊤
IsBeforeDisk (BadLine number cause) = ⊤
IsBeforeDisk (TooLarge number size most) = ⊤
IsBeforeDisk ReadFault = ⊤
IsBeforeDisk (Limit FileBytes most) = ⊤
IsBeforeDisk (Limit Lines most) = ⊤
IsBeforeDisk other = ⊥

-- the same of a step's answer
abbrev pub IsRefusedBefore : {T : Type 0} → Result T Status → Type 0
IsRefusedBefore (Ok x) = ⊥
IsRefusedBefore (Err status) = IsBeforeDisk status
