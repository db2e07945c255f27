-- What a folder holds, read whole, and why it is refused.
use Rattle.std.specs.Prelude.{◌≡◌, ℕ, List, [], ◌∷◌, length, map, Bool, false, Option, IfSome, ⊤}
use Rattle.std.specs.List.{flat_map}
use Rattle.clog_spec.specs.Names.{IsSegmentName}
use Rattle.clog_spec.specs.Sizes.{file_limit}
use Rattle.clog_base.specs.declared.fault.Quantity.TheVariants.{SegmentBytes}
use Rattle.clog_base.specs.declared.position.Position.{Position}
use Rattle.clog_io.specs.Causes.{Rose}
use Rattle.clog_disk.specs.Files.{Files}
use Rattle.clog_entry.specs.declared.cause.Cause.{Cause}
use Rattle.clog_mutation.specs.Stored.{IsPayload}
use Rattle.clog_scan.specs.declared.answer.Found.{Found}
use Rattle.clog_crash.specs.Counts.{AreNames, IsLog, LoggedMutation}
use Rattle.clog_crash.specs.Folder.{TableRead, AreTables, AreGoodTables, IsFirstBad}
use Rattle.clog_crash.specs.Restore.{IsUndamaged}
use Rattle.clog_folder.specs.declared.fault.OpenFault.{OpenFault}
use Rattle.clog_folder.specs.declared.fault.OpenFault.TheVariants.{Disk, Damaged, BadTable, Limit}
use Rattle.clog_folder.specs.declared.fault.OpenFault.TheVariants.{OutOfMemory}
use Rattle.clog_folder.specs.Entries.{payload_in}
use Rattle.clog_folder.specs.Segments.{IsDamagedFirst, IsFirstLong, IsTooLong, SegmentHeld}

-- ---- what is held

-- a payload at the position where its entry ends
abbrev pub PlacedPayload : Type 0
PlacedPayload = Position × List ℕ

abbrev pub placed : SegmentHeld → Found → PlacedPayload
placed held found =
    (record { id = held.id; offset = found.end }, payload_in held.bytes found)

-- the payloads of a segment's entries that count
abbrev pub payloads_of : SegmentHeld → List PlacedPayload
payloads_of held = map (placed held) held.entries

-- the payloads are these mutations', each at its position
abbrev pub Say : List PlacedPayload → List LoggedMutation → Type 0
Say [] log = log ≡ []
Say (p ∷ ps) log =
    (l : LoggedMutation) × ((rest : List LoggedMutation) × (log ≡ l ∷ rest) × (l.at ≡ p.0)
    × IsPayload p.1 l.mutation × Say ps rest)

-- All table files are good and no segment is too long; where damage is not passed over, there is
-- none.
pub record CanBeRead (ignore : Bool) (files : Files) : Type 0 where
  pub tables : AreGoodTables files
  pub short : (name : List ℕ) (id : ℕ) → IsSegmentName name 6 id → ¬ IsTooLong files name
  pub undamaged : ignore ≡ false → IsUndamaged files

-- The folder can be read; its table files are these, and its log is what the payloads say.
pub record IsReadAs (ignore : Bool) (files : Files) (tables : List TableRead)
    (segments : List SegmentHeld) : Type 0 where
  pub are_tables : AreTables files tables
  pub log : List LoggedMutation
  pub say : Say (flat_map payloads_of segments) log
  pub is_log : IsLog files log
  pub readable : CanBeRead ignore files

-- So many names that are there have P.
pub record AreNamed (files : Files) (P : List ℕ → Type 0) (n : ℕ) : Type 0 where
  pub names : List (List ℕ)
  pub are : AreNames files P names
  pub count : n ≡ length names

-- ---- why it is refused

-- All table files are good, and the first segment that is refused is too long.
pub record HasLongSegment (ignore : Bool) (files : Files) : Type 0 where
  pub tables : AreGoodTables files
  pub first : IsFirstLong ignore files

-- All table files are good, and the first segment that is refused is damaged.
pub record HasDamage (files : Files) (name : List ℕ) (at : ℕ) (cause : Cause) : Type 0 where
  pub tables : AreGoodTables files
  pub first : IsDamagedFirst files name at cause

-- each row with what comes before it
abbrev pub FolderRefused : Bool → Option Files → ℕ → ℕ → OpenFault → Type 0
FolderRefused ignore files faults now Disk = Rose faults now
FolderRefused ignore files faults now OutOfMemory = ⊤
FolderRefused ignore files faults now (BadTable name fault) =
    IfSome files (λ held. IsFirstBad held name fault)
FolderRefused ignore files faults now (Damaged name at cause) =
    (ignore ≡ false) × IfSome files (λ held. HasDamage held name at cause)
FolderRefused ignore files faults now (Limit SegmentBytes most) =
    (most ≡ file_limit) × IfSome files (λ held. HasLongSegment ignore held)
FolderRefused ignore files faults now other = ⊥
