-- What the calls of a log make of it, one after another.
use Rattle.std.specs.Prelude.{
  ◌≡◌,
  ◌⊎◌,
  ℕ,
  ◌≤◌,
  List,
  [],
  ◌∷◌,
  ◌++◌,
  length,
  Bool,
  true,
  false,
  Option,
  OnOk,
  Result,
  Ok,
  Err,
}
use Rattle.clog_io.specs.Causes.{Rose}
use Rattle.clog_disk.specs.declared.change.Change.{Change}
use Rattle.clog_disk.specs.declared.change.Change.TheVariants as change
use Rattle.clog_disk.specs.Changes.{Adds}
use Rattle.clog_disk.specs.Files.{AppendsTo, Files, SameTold}
use Rattle.clog_scan.specs.Cut.{Section}
use Rattle.clog_segments.specs.declared.written.StoreFault.{StoreFault}
use Rattle.clog_segments.specs.declared.written.StoreFault.TheVariants.{Stopped, OutOfMemory}
use Rattle.clog_segments.specs.Life.{State}

-- its disk has been called, and nothing else has changed
abbrev pub IsAsBefore : {D : Type 0} → State D → State D → Type 0
IsAsBefore before now = now ≡ record before { disk = now.disk }

-- with one section more
abbrev pub HasMore : {D : Type 0} → State D → State D → Section → Type 0
HasMore before now section =
    now ≡ record before {
      disk = now.disk;
      sections = before.sections ++ section ∷ [];
      is_stopped = false;
    }

-- The section is kept; where memory was refused nothing has changed. Where the disk has failed in
-- the call, the section is among the others, since images may show it.
abbrev pub Keeps : {D T : Type 0} → State D → State D → Section → Result T StoreFault → Type 0
Keeps before now section (Ok done) = HasMore before now section
Keeps before now section (Err OutOfMemory) = IsAsBefore before now
Keeps before now section (Err Stopped) =
    ((before.is_stopped ≡ true) × (now ≡ before))
    ⊎ (now ≡ record before {
      disk = now.disk;
      sections = before.sections ++ section ∷ [];
      is_stopped = true;
    })

-- All sections last; where memory was refused nothing has changed.
abbrev pub Settles : {D T : Type 0} → State D → State D → Result T StoreFault → Type 0
Settles before now (Ok done) =
    now ≡ record before {
      disk = now.disk;
      synced = length before.sections;
      is_stopped = false;
    }
Settles before now (Err OutOfMemory) = IsAsBefore before now
Settles before now (Err Stopped) = now ≡ record before { disk = now.disk; is_stopped = true }

-- What a call makes of the disk that puts bytes behind those of a file: they stand there, by one
-- change; where memory was refused no file has changed.
pub record AddsBytes {T : Type 0} (told now : Option Files) (before after : Option (List Change))
    (name bytes : List ℕ) (result : Result T StoreFault) : Type 0 where
  pub still_told : SameTold told now
  pub adds : Adds (change.Append name bytes) before after result
  pub appends : OnOk result (AppendsTo told now name bytes)
  pub same : result ≡ Err OutOfMemory → now ≡ told

-- A call that puts or removes other files changes nothing of the log, but that the disk may have
-- failed in it.
abbrev pub Passes : {D T : Type 0} → State D → State D → Result T StoreFault → Type 0
Passes before now (Ok done) = IsAsBefore before now
Passes before now (Err OutOfMemory) = IsAsBefore before now
Passes before now (Err Stopped) = now ≡ record before { disk = now.disk; is_stopped = true }

-- Why a log did not do what it was called for: the disk has failed, in this call or before; of this
-- its count tells. Else it counted none.
abbrev pub HasLogCause : {T : Type 0} → Bool → ℕ → ℕ → Result T StoreFault → Type 0
HasLogCause was_stopped faults now (Ok done) = (was_stopped ≡ false) × (now ≡ faults)
HasLogCause was_stopped faults now (Err OutOfMemory) = (was_stopped ≡ false) × (now ≡ faults)
HasLogCause was_stopped faults now (Err Stopped) =
    ((was_stopped ≡ true) × (now ≡ faults))
    ⊎ ((was_stopped ≡ false) × (faults ≤ now) × Rose faults now)

-- Where it has not stopped, it had not before, and its disk has counted no fault in between.
abbrev pub IsQuiet : {D : Type 0} → (D → ℕ) → State D → State D → Type 0
IsQuiet faults before now =
    now.is_stopped ≡ false
    → (before.is_stopped ≡ false) × (faults now.disk ≡ faults before.disk)

-- It has stopped exactly where the answer says so.
abbrev pub StopsBy : {T : Type 0} → Bool → Result T StoreFault → Type 0
StopsBy is_stopped (Ok done) = is_stopped ≡ false
StopsBy is_stopped (Err OutOfMemory) = is_stopped ≡ false
StopsBy is_stopped (Err Stopped) = is_stopped ≡ true
