-- Which names last: a crash leaves of each that a store wrote just what is read there.
use Rattle.std.specs.Prelude.{◌≡◌, ◌⊎◌, ℕ, ◌<◌, List, length, Option, Some, false}
use Rattle.std.specs.FinMap as finmap
use Rattle.clog_spec.specs.Names.{segment_name_of}
use Rattle.clog_disk.specs.Files.{Files}
use Rattle.clog_disk.specs.Images.{LastsAs}
use Rattle.clog_segments.specs.Life.{State}

-- ---- over a call of a disk

-- Nothing has changed at the name: it reads as before, and a crash leaves of it no more.
pub record StaysAt (f g : Files) (old new : List ℕ → Option (List ℕ) → Type 0) (name : List ℕ)
    : Type 0 where
  pub reads : finmap.get g name ≡ finmap.get f name
  pub fewer : (left : Option (List ℕ)) → new name left → old name left

-- A crash leaves of the name just what is read there, or nothing has changed at it.
abbrev pub LastsOrStays : Files → Files → (List ℕ → Option (List ℕ) → Type 0)
    → (List ℕ → Option (List ℕ) → Type 0) → List ℕ → Type 0
LastsOrStays f g old new name =
    LastsAs new name (finmap.get g name) ⊎ StaysAt f g old new name

-- So it is with each name, where the disk tells its files.
abbrev pub EachLasts : Option Files → (List ℕ → Option (List ℕ) → Type 0) → Option Files
    → (List ℕ → Option (List ℕ) → Type 0) → Type 0
EachLasts told old now new =
    (f g : Files) → told ≡ Some f → now ≡ Some g → (name : List ℕ) → LastsOrStays f g old new name

-- ---- over a call of a log

-- The name is that of the segment at hand, and not all of its sections last.
abbrev pub IsOpen : {D : Type 0} → State D → List ℕ → Type 0
IsOpen s name = (name ≡ segment_name_of 6 s.id) × (s.synced < length s.sections)

-- The log had not stopped, and its disk told its files. Each name that is not open lasts, or was
-- not open before and nothing has changed at it.
pub record GoesOnFrom {D : Type 0} (files : D → Option Files)
    (leaves : D → List ℕ → Option (List ℕ) → Type 0) (before now : State D) (g : Files)
    : Type 0 where
  pub ran : before.is_stopped ≡ false
  pub old : Files
  pub told : files before.disk ≡ Some old
  pub each : (name : List ℕ) → (IsOpen now name → ⊥)
      → LastsAs (leaves now.disk) name (finmap.get g name)
      ⊎ ((IsOpen before name → ⊥) × StaysAt old g (leaves before.disk) (leaves now.disk) name)

-- So it is while the disk has not failed.
abbrev pub NamesGoOn : {D : Type 0} → (D → Option Files)
    → (D → List ℕ → Option (List ℕ) → Type 0) → State D → State D → Type 0
NamesGoOn files leaves before now =
    now.is_stopped ≡ false → (g : Files) → files now.disk ≡ Some g
    → GoesOnFrom files leaves before now g

-- ---- of a store

-- While the disk has not failed, each name that is not open lasts, or nothing has changed at it
-- since the opening.
abbrev pub NamesLast : {D : Type 0} → (D → Option Files)
    → (D → List ℕ → Option (List ℕ) → Type 0) → D → State D → Type 0
NamesLast files leaves first log =
    log.is_stopped ≡ false → (f g : Files) → files first ≡ Some f → files log.disk ≡ Some g
    → (name : List ℕ) → (IsOpen log name → ⊥)
    → LastsOrStays f g (leaves first) (leaves log.disk) name
