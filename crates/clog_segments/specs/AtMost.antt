-- What the images of a log of sections hold at most: files that a crash left at the opening, parts
-- of its segments, archive names of earlier ones, and table files that end in it.
use Rattle.std.specs.Prelude.{
  ◌≡◌,
  ◌⊎◌,
  ℕ,
  ◌+◌,
  ◌<◌,
  ◌≤◌,
  Bool,
  true,
  List,
  length,
  Option,
  Some,
  Contains,
  IfSome,
}
use Rattle.std.specs.FinMap as finmap
use Rattle.clog_spec.specs.Names.{IsTableName, archive_name_of, segment_name_of}
use Rattle.clog_disk.specs.Files.{Files}
use Rattle.clog_disk.specs.Images.{SinceThen}
use Rattle.clog_table.specs.declared.table_file.TableFile.{TableFile}
use Rattle.clog_table.specs.Refusals.{IsFileOf}
use Rattle.clog_crash.specs.Counts.{IsNameOfTable}
use Rattle.clog_crash.specs.Folder.{IsBase, IsHeld}
use Rattle.clog_crash.specs.Log.{Write}
use Rattle.clog_crash.specs.Sections.{segment_bytes}
use Rattle.clog_segments.specs.Grows.{segments_with}
use Rattle.clog_segments.specs.Life.{State}
use Rattle.clog_segments.specs.Named.{HasSequence, OneHas}
use Rattle.clog_segments.specs.StoreFailed.{IsFreeTable}

-- ---- over calls of a disk

-- each file of the image has P
abbrev pub EachFile : (List ℕ → List ℕ → Type 0) → Files → Type 0
EachFile P image = (name bytes : List ℕ) → finmap.get image name ≡ Some bytes → P name bytes

-- a crash left these bytes at the name before, or they have P
abbrev pub LeftOr : (List ℕ → Option (List ℕ) → Type 0) → (List ℕ → List ℕ → Type 0) → List ℕ
    → List ℕ → Type 0
LeftOr old P name bytes = old name (Some bytes) ⊎ P name bytes

-- each table file stands as it was
abbrev pub TablesStay : Option Files → Option Files → Type 0
TablesStay told now = (f g : Files) → told ≡ Some f → now ≡ Some g → (name bytes : List ℕ)
    → IsNameOfTable name → finmap.get f name ≡ Some bytes → finmap.get g name ≡ Some bytes

-- Each table file stands as it was, and what a crash leaves at a name, meanwhile too, it left
-- before, or it has P.
pub record AddsOnly {D : Type 0} (files : D → Option Files) (moment : D → ℕ)
    (since : D → ℕ → Files → Type 0) (leaves : D → List ℕ → Option (List ℕ) → Type 0)
    (old new : D) (P : List ℕ → List ℕ → Type 0) : Type 0 where
  pub tables : TablesStay (files old) (files new)
  pub now : (name bytes : List ℕ) → leaves new name (Some bytes)
      → LeftOr (leaves old) P name bytes
  pub meanwhile : (t : ℕ) (image : Files) → t ≤ moment old → since new t image
      → since old t image ⊎ EachFile (LeftOr (leaves old) P) image

-- the name is this one, and there are at most so many bytes
abbrev pub IsUpToAt : List ℕ → ℕ → List ℕ → List ℕ → Type 0
IsUpToAt own most name bytes = (name ≡ own) × (length bytes ≤ most)

-- these bytes are the table file, at its name
abbrev pub IsFileAt : List ℕ → TableFile → List ℕ → List ℕ → Type 0
IsFileAt own file name bytes = (name ≡ own) × IsFileOf file.table bytes file

-- the archive name of a segment, with bytes that a crash left under its own
abbrev pub IsArchiveOf : (List ℕ → Option (List ℕ) → Type 0) → ℕ → List ℕ → List ℕ → Type 0
IsArchiveOf old id name bytes =
    (name ≡ archive_name_of id) × old (segment_name_of 6 id) (Some bytes)

-- so it is with one of these segments
abbrev pub IsArchiveAmong : (List ℕ → Option (List ℕ) → Type 0) → ℕ → List ℕ → List ℕ → List ℕ
    → Type 0
IsArchiveAmong old base ordinals name bytes =
    (o : ℕ) × Contains ordinals o × IsArchiveOf old (base + o) name bytes

-- ---- of a log

-- These bytes are no more than those of a segment of these that has sections, at its name.
pub record IsPartOf (segments : List Write) (name bytes : List ℕ) : Type 0 where
  pub segment : Write
  pub among : Contains segments segment
  pub some : 0 < length segment.sections
  pub name_is : name ≡ segment_name_of 6 segment.id
  pub short : length bytes ≤ length (segment_bytes segment.id segment.sections)

-- the archive name of a segment below an id, with bytes that have P under its own
abbrev pub IsArchiveBelow : (List ℕ → List ℕ → Type 0) → ℕ → List ℕ → List ℕ → Type 0
IsArchiveBelow P id name bytes =
    (other : ℕ) × (other < id) × (name ≡ archive_name_of other) × P (segment_name_of 6 other) bytes

-- a sequence at most so much above that of a file of the table, or above 0
abbrev pub IsAtMostAbove : Files → ℕ → ℕ → ℕ → Type 0
IsAtMostAbove files more table sequence =
    (sequence ≤ more)
    ⊎ ((name : List ℕ) × ((n : ℕ) × IsHeld files name × IsTableName name table n
    × (sequence ≤ n + more)))

-- A table file at its name, whose interval ends in the segment of an id or in an earlier one. Its
-- sequence is at most so much above one that is there.
pub record IsTableWithin (files : Files) (more id : ℕ) (name bytes : List ℕ) : Type 0 where
  pub file : TableFile
  pub sequence : ℕ
  pub named : IsTableName name file.table.0 sequence
  pub spelled : IsFileOf file.table bytes file
  pub within : file.upper.id ≤ id
  pub few : IsAtMostAbove files more file.table.0 sequence

-- it stands so now, or the log has stopped and the name is that of a table's next file
abbrev pub StandsYet : Files → Bool → List ℕ → List ℕ → Type 0
StandsYet now is_stopped name bytes =
    (finmap.get now name ≡ Some bytes) ⊎ ((is_stopped ≡ true) × IsFreeTable now name)

-- what a log may bring under a name: a part of a segment, an archive name, or a table file
abbrev pub IsBrought : List Write → (List ℕ → List ℕ → Type 0) → (List ℕ → List ℕ → Type 0)
    → List ℕ → List ℕ → Type 0
IsBrought segments Archive Table name bytes =
    IsPartOf segments name bytes ⊎ (Archive name bytes ⊎ Table name bytes)

-- a table file that a log has put, or the one with which its disk has failed
abbrev pub IsTablePut : Files → ℕ → Bool → List ℕ → List ℕ → Type 0
IsTablePut now id is_stopped name bytes =
    IsTableWithin now 1 id name bytes × StandsYet now is_stopped name bytes

-- what a log up to an id has brought, behind what a crash left at its opening
abbrev pub IsBroughtBy : (List ℕ → Option (List ℕ) → Type 0) → List Write → Files → ℕ → Bool
    → List ℕ → List ℕ → Type 0
IsBroughtBy old segments now id is_stopped =
    IsBrought segments (IsArchiveBelow (LeftOr old (IsPartOf segments)) id)
    (IsTablePut now id is_stopped)

-- a crash left it at the opening, or the log may have brought it
abbrev pub MayStandAt : {D : Type 0} → (D → List ℕ → Option (List ℕ) → Type 0) → State D → Files
    → List ℕ → List ℕ → Type 0
MayStandAt leaves s now name bytes =
    LeftOr (leaves s.first) (IsBroughtBy (leaves s.first) (segments_with s.past s.id s.sections)
    now s.id s.is_stopped) name bytes

-- A crash now, or at a moment since the opening, leaves at each name only such.
pub record LeavesAtMost {D : Type 0} (moment : D → ℕ) (since : D → ℕ → Files → Type 0)
    (leaves : D → List ℕ → Option (List ℕ) → Type 0) (s : State D) (now : Files) : Type 0 where
  pub left : (name bytes : List ℕ) → leaves s.disk name (Some bytes)
      → MayStandAt leaves s now name bytes
  pub images : SinceThen moment since s.opened s.disk (EachFile (MayStandAt leaves s now))

-- so it is where the disk tells its files
abbrev pub HoldsMost : {D : Type 0} → (D → Option Files) → (D → ℕ) → (D → ℕ → Files → Type 0)
    → (D → List ℕ → Option (List ℕ) → Type 0) → State D → Type 0
HoldsMost files moment since leaves s =
    (now : Files) → files s.disk ≡ Some now → LeavesAtMost moment since leaves s now

-- ---- a table file that comes

-- Its interval ends in the segment of an id or in an earlier one, and where the disk tells its
-- files, its sequence is the next one of its table.
pub record IsNextWithin (told : Option Files) (id : ℕ) (file : TableFile) (sequence : ℕ) : Type 0
  where
    pub within : file.upper.id ≤ id
    pub next : IfSome told
        (λ f. IsBase (OneHas (HasSequence file.table) (finmap.keys f)) 1 sequence)
