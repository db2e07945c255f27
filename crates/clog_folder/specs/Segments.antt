-- What is held of segments that are read whole, and why a folder is refused for one.
use Rattle.std.specs.Prelude.{◌≡◌, ◌≢◌, ◌⊎◌, ℕ, ◌<◌, ◌≤◌, ◌==◌, List, [], ◌∷◌, length, map, Bool}
use Rattle.std.specs.Prelude.{true, false, Option, Some, IfSome, Contains, ⊤, Result, Vec}
use Rattle.std.specs.declared.alloc.Global.{Global}
use Rattle.std.specs.declared.result.Result.TheVariants as result
use Rattle.std.specs.FinMap as finmap
use Rattle.clog_spec.specs.Names.{IsSegmentName}
use Rattle.clog_spec.specs.Sizes.{file_limit}
use Rattle.clog_base.specs.declared.fault.Quantity.TheVariants.{SegmentBytes}
use Rattle.clog_io.specs.Causes.{Rose}
use Rattle.clog_disk.specs.Files.{Files}
use Rattle.clog_entry.specs.declared.cause.Cause.{Cause}
use Rattle.clog_entry.specs.declared.cause.Cause.TheVariants.{Version}
use Rattle.clog_entry.specs.Soft.{IsSoft}
use Rattle.clog_scan.specs.declared.answer.End.{End}
use Rattle.clog_scan.specs.declared.answer.Found.{Found}
use Rattle.clog_scan.specs.Laws.{IsFile}
use Rattle.clog_scan.specs.Segment.{Entry, IsSegment, found_of}
use Rattle.clog_crash.specs.Damage.{ComesBefore, IsFirstDamage, TearsAt}
use Rattle.clog_crash.specs.Folder.{IsHeld}
use Rattle.clog_crash.specs.Restore.{IsGoodSegment}
use Rattle.clog_folder.specs.declared.fault.OpenFault.{OpenFault}
use Rattle.clog_folder.specs.declared.fault.OpenFault.TheVariants.{Disk, Damaged, Limit}
use Rattle.clog_folder.specs.declared.fault.OpenFault.TheVariants.{OutOfMemory}
use Rattle.clog_folder.specs.Entries.{AreCounted, EndsWell}
use Rattle.clog_folder.specs.Listing.{SegmentPlace}
use Rattle.clog_folder.specs.Whole.{IsWhole}

-- ---- one segment

-- A segment, read whole: the id in its name, all its bytes, none where it is of another version,
-- and the entries that count, in their order.
pub record SegmentHeld : Type 0 where
  pub id : ℕ
  pub bytes : List ℕ
  pub entries : List Found

-- What is held of the bytes of a segment of version 6: its entries that count. Where damage is not
-- passed over, it ends as it may.
pub record HoldsEntries (ignore last : Bool) (id : ℕ) (bytes : List ℕ) (kept : List Found) : Type 0
  where
    pub file : IsFile bytes
    pub entries : List Entry
    pub end : End
    pub segment : IsSegment bytes id entries end
    pub counted : AreCounted ignore bytes (map found_of entries) kept
    pub ends : ignore ≡ false → EndsWell last end

-- The bytes are torn here so that it is damage.
pub record IsTornHere (last : Bool) (id : ℕ) (bytes : List ℕ) (at : ℕ) (cause : Cause) : Type 0
  where
    pub file : IsFile bytes
    pub entries : List Entry
    pub end : End
    pub segment : IsSegment bytes id entries end
    pub tears : TearsAt entries end at cause
    pub no_tail : IsSoft cause → ¬ (last ≡ true)

-- the file is there, and too long
pub record IsTooLong (files : Files) (name : List ℕ) : Type 0 where
  pub bytes : List ℕ
  pub there : finmap.get files name ≡ Some bytes
  pub long : file_limit < length bytes

abbrev pub BytesRefused : Option Files → ℕ → ℕ → List ℕ → OpenFault → Type 0
BytesRefused files faults now name Disk = Rose faults now
BytesRefused files faults now name OutOfMemory = ⊤
BytesRefused files faults now name (Limit SegmentBytes most) =
    (most ≡ file_limit) × IfSome files (λ held. IsTooLong held name)
BytesRefused files faults now name other = ⊥

-- these are the bytes of a file, and not too many
abbrev pub GivesBytes : Option Files → ℕ → ℕ → List ℕ → Result (Vec ℕ Global) OpenFault → Type 0
GivesBytes files faults now name (result.Ok bytes) =
    IsWhole files name bytes.items × (length bytes.items ≤ file_limit)
GivesBytes files faults now name (result.Err refusal) = BytesRefused files faults now name refusal

-- ---- one place

-- a place of a segment, and its name
abbrev pub Row : Type 0
Row = SegmentPlace × List ℕ

-- What is held of a place: nothing of a segment of another version, which is passed over.
abbrev pub IsHeldAt : Bool → Bool → Option Files → Row → SegmentHeld → Type 0
IsHeldAt ignore last files row held =
    ((row.0.1 ≢ 6) × (ignore ≡ true) × (held.entries ≡ []))
    ⊎ ((row.0.1 ≡ 6) × (held.id ≡ row.0.0) × IsWhole files row.1 held.bytes
    × (length held.bytes ≤ file_limit)
    × HoldsEntries ignore last row.0.0 held.bytes held.entries)

-- the bytes of this name are torn here so that it is damage
pub record IsTornFile (files : Option Files) (last : Bool) (id : ℕ) (name : List ℕ) (at : ℕ)
    (cause : Cause) : Type 0 where
  pub bytes : List ℕ
  pub whole : IsWhole files name bytes
  pub short : length bytes ≤ file_limit
  pub torn : IsTornHere last id bytes at cause

-- a place is damaged, for its version or its bytes
abbrev pub IsDamagedAt : Option Files → Bool → Row → ℕ → Cause → Type 0
IsDamagedAt files last row at cause =
    ((row.0.1 ≢ 6) × (at ≡ 0) × (cause ≡ Version row.0.1))
    ⊎ ((row.0.1 ≡ 6) × IsTornFile files last row.0.0 row.1 at cause)

-- ---- all segments

-- no id is greater, and where there is a place, it has the id of one
pub record IsGreatestId (rows : List Row) (greatest : ℕ) : Type 0 where
  pub most : (row : Row) → Contains rows row → row.0.0 ≤ greatest
  pub one : (row : Row) → Contains rows row
      → (last : Row) × Contains rows last × (last.0.0 ≡ greatest)

-- place by place; the last segments are those of the greatest id
abbrev pub AreHeld : Bool → ℕ → Option Files → List Row → List SegmentHeld → Type 0
AreHeld ignore greatest files [] [] = ⊤
AreHeld ignore greatest files [] (held ∷ helds) = ⊥
AreHeld ignore greatest files (row ∷ rows) [] = ⊥
AreHeld ignore greatest files (row ∷ rows) (held ∷ helds) =
    IsHeldAt ignore (row.0.0 == greatest) files row held
    × AreHeld ignore greatest files rows helds

-- A segment is read: it is not too long, and where damage is not passed over, it is good.
pub record IsRead (ignore : Bool) (files : Files) (name : List ℕ) (version id : ℕ) : Type 0 where
  pub short : version ≡ 6 → ¬ IsTooLong files name
  pub good : ignore ≡ false → (version ≡ 6) × IsGoodSegment files name id

-- each segment before this place is read
abbrev pub AreReadBefore : Bool → Files → ℕ → ℕ → Type 0
AreReadBefore ignore files version id =
    (name : List ℕ) (version' id' : ℕ) → IsSegmentName name version' id' → IsHeld files name
    → ComesBefore version' id' version id → IsRead ignore files name version' id'

-- A segment is too long, and each one before it is read.
pub record IsFirstLong (ignore : Bool) (files : Files) : Type 0 where
  pub id : ℕ
  pub name : List ℕ
  pub named : IsSegmentName name 6 id
  pub long : IsTooLong files name
  pub before : AreReadBefore ignore files 6 id

-- The first damage is this, and no segment up to it is too long.
pub record IsDamagedFirst (files : Files) (name : List ℕ) (at : ℕ) (cause : Cause) : Type 0 where
  pub damage : IsFirstDamage files name at cause
  pub short : damage.version ≡ 6 → ¬ IsTooLong files name
  pub before : AreReadBefore false files damage.version damage.id

abbrev pub SegmentsRefused : Bool → Option Files → ℕ → ℕ → OpenFault → Type 0
SegmentsRefused ignore files faults now Disk = Rose faults now
SegmentsRefused ignore files faults now OutOfMemory = ⊤
SegmentsRefused ignore files faults now (Limit SegmentBytes most) =
    (most ≡ file_limit) × IfSome files (λ held. IsFirstLong ignore held)
SegmentsRefused ignore files faults now (Damaged name at cause) =
    (ignore ≡ false) × IfSome files (λ held. IsDamagedFirst held name at cause)
SegmentsRefused ignore files faults now other = ⊥

-- What is held of all places.
pub record HaveHeld (ignore : Bool) (files : Option Files) (rows : List Row)
    (helds : List SegmentHeld) : Type 0 where
  pub greatest : ℕ
  pub top : IsGreatestId rows greatest
  pub held : AreHeld ignore greatest files rows helds
