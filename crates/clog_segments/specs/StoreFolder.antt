-- What a folder holds of a store, name by name: the segments of its log, the archive names of those
-- that were dropped, and the table files that it put. Each other name is as at the opening.
use Rattle.std.specs.Prelude.{
  ◌≡◌,
  ◌⊎◌,
  ℕ,
  ◌+◌,
  ◌<◌,
  ◌≤◌,
  Bool,
  true,
  false,
  if◌then◌else◌,
  List,
  [],
  ◌∷◌,
  ◌++◌,
  length,
  take,
  drop,
  map,
  Some,
  None,
  IsTrue,
  Contains,
}
use Rattle.std.specs.FinMap as finmap
use Rattle.std.specs.List.{AllPairs}
use Rattle.clog_spec.specs.Names.{
  IsTableName,
  archive_name_of,
  segment_name_of,
  table_name_of,
}
use Rattle.clog_spec.specs.Sizes.{header_size, marker_size}
use Rattle.clog_base.specs.declared.position.Position.{Position}
use Rattle.clog_base.specs.Positions.{ordinal_of}
use Rattle.clog_disk.specs.Files.{Files, bytes_at}
use Rattle.clog_scan.specs.Cut.{Section, last_until}
use Rattle.clog_table.specs.declared.table_file.TableFile.{TableFile}
use Rattle.clog_table.specs.Refusals.{IsFileOf}
use Rattle.clog_crash.specs.Folder.{HasArchive, HasSegmentFile, HoldsName, IsBase, IsHeld}
use Rattle.clog_crash.specs.Log.{Write}
use Rattle.clog_crash.specs.Readings.{IsTableIn}
use Rattle.clog_crash.specs.Sections.{IsStored, segment_bytes}
use Rattle.path_core.specs.declared.note.EntryNote.{EntryNote}
use Rattle.path_core.specs.Keeper.{Holding, IsFiledIn, PutFile, upper_from}
use Rattle.path_core.specs.Parts.{touches}
use Rattle.clog_segments.specs.Grows.{segments_with}
use Rattle.clog_segments.specs.Life.{State}
use Rattle.clog_segments.specs.Named.{HasSequence, OneHas, sequence_limit}
use Rattle.clog_segments.specs.NoteLog.{NoteState}
use Rattle.clog_segments.specs.OnDisk.{file_on}

-- ---- what a store has in mind

-- Its log: the id of the segment of ordinal 0, the earlier segments, the one at hand with its
-- sections, and the entries that are lasting.
pub record StoreLog : Type 0 where
  pub base : ℕ
  pub past : List Write
  pub id : ℕ
  pub sections : List Section
  pub logged : List EntryNote

abbrev pub log_of : {D : Type 0} → NoteState D → StoreLog
log_of s = record {
  base = s.base;
  past = s.log.past;
  id = s.log.id;
  sections = s.log.sections;
  logged = s.logged;
}

-- What it has done beside its log.
pub record Deeds : Type 0 where
  -- a segment that is dropped gets its archive name first
  pub archives : Bool
  -- the table files that it put
  pub files : List PutFile
  -- the ordinals of the segments that it dropped, and of those that got their archive names
  pub dropped : List ℕ
  pub archived : List ℕ

-- a log and deeds at the opening
abbrev pub fresh_log : ℕ → StoreLog
fresh_log base = record { base = base; past = []; id = base; sections = []; logged = [] }

abbrev pub no_deeds : Bool → Deeds
no_deeds archives = record { archives = archives; files = []; dropped = []; archived = [] }

-- what a keeper has done
abbrev pub deeds_of : Holding → Deeds
deeds_of h = record {
  archives = h.opening.archives;
  files = h.files;
  dropped = h.dropped;
  archived = h.archived;
}

-- the segment of this ordinal is an earlier one that has sections
pub record IsPast (log : StoreLog) (o : ℕ) : Type 0 where
  pub segment : Write
  pub among : Contains log.past segment
  pub some : 0 < length segment.sections
  pub id_is : segment.id ≡ log.base + o

-- table files stand for a note in each of its tables
abbrev pub IsFiledByAll : List PutFile → EntryNote → Type 0
IsFiledByAll files n = (t : ℕ) → IsTrue (touches n.tables t) → IsFiledIn files t n.end.0

-- What was dropped and archived are earlier segments; table files stand for all that was logged in
-- those that were dropped; and none reaches above its table's last.
pub record HasDone (log : StoreLog) (deeds : Deeds) : Type 0 where
  pub dropped : (o : ℕ) → Contains deeds.dropped o → IsPast log o
  pub archived : (o : ℕ) → Contains deeds.archived o → IsPast log o
  pub all_archived : deeds.archives ≡ true → (o : ℕ) → Contains deeds.dropped o
      → Contains deeds.archived o
  pub none_archived : deeds.archives ≡ false → deeds.archived ≡ []
  pub filed : (n : EntryNote) → Contains log.logged n
      → Contains deeds.dropped (ordinal_of n.start.0) → IsFiledByAll deeds.files n
  pub tiled : (put : PutFile) → Contains deeds.files put
      → put.upper ≤ upper_from put.table 0 deeds.files

-- What a log of sections keeps while its disk has not failed.
pub record IsSound {D : Type 0} (log : State D) : Type 0 where
  pub below : (w : Write) → Contains log.past w → w.id < log.id
  pub past_stored : (w : Write) → Contains log.past w → IsStored w.id w.sections
  pub stored : IsStored log.id log.sections

-- ---- the folder at the opening

-- No segment is there, each archived one and each table file ends below the base, and sequences
-- are at most one above their limit.
pub record IsBegun (first : Files) (base : ℕ) : Type 0 where
  pub no_segment : ¬ HasSegmentFile first
  pub archives : (id : ℕ) → HasArchive first id → id < base
  pub tables : (file : TableFile) → IsTableIn (bytes_at first) file → file.upper.id < base
  pub few : (name : List ℕ) (table sequence : ℕ) → IsTableName name table sequence
      → IsHeld first name → sequence ≤ sequence_limit + 1

-- ---- table files

-- a table file that was put: the sequence of its name, and its bytes
pub record PlacedFile : Type 0 where
  pub put : PutFile
  pub sequence : ℕ
  pub bytes : List ℕ

abbrev pub name_of : PlacedFile → List ℕ
name_of p = table_name_of p.put.table p.sequence

-- It has a name that was free, and says what was put; its sequence is at most so much.
pub record IsPlacedAt (first : Files) (base most : ℕ) (p : PlacedFile) : Type 0 where
  pub named : IsTableName (name_of p) p.put.table p.sequence
  pub free : finmap.get first (name_of p) ≡ None
  pub spelled : IsFileOf (file_on base p.put).table p.bytes (file_on base p.put)
  pub few : p.sequence ≤ most

-- a later file of the same table has a greater sequence
abbrev pub IsEarlier : PlacedFile → PlacedFile → Type 0
IsEarlier a b = a.put.table ≡ b.put.table → a.sequence < b.sequence

-- a file of the table has the sequence: one that was there at first, or one of these
abbrev pub IsTaken : Files → List PlacedFile → ℕ → ℕ → Type 0
IsTaken first placed table sequence =
    HoldsName first (λ (name : List ℕ). IsTableName name table sequence)
    ⊎ ((p : PlacedFile) × Contains placed p × (p.put.table ≡ table) × (p.sequence ≡ sequence))

-- Its sequence is one more than the greatest of its table, 1 where there is none: of the files that
-- were there at first, and of those that were put before it.
abbrev pub IsNextOf : Files → List PlacedFile → PlacedFile → Type 0
IsNextOf first before p = IsBase (IsTaken first before p.put.table) 1 p.sequence

-- These files, in the order in which they were put.
pub record ArePlacedAt (first : Files) (base : ℕ) (files : List PutFile) (placed : List PlacedFile)
    : Type 0 where
  pub are : map (λ (p : PlacedFile). p.put) placed ≡ files
  pub each : (p : PlacedFile) → Contains placed p
      → IsPlacedAt first base (sequence_limit + 1 + length placed) p
  pub ascending : AllPairs IsEarlier placed
  pub next : (before behind : List PlacedFile) (p : PlacedFile) → placed ≡ before ++ p ∷ behind
      → IsNextOf first before p

-- ---- names and their bytes

-- a segment of the log that has sections and was not dropped
pub record IsSegmentRow (log : StoreLog) (dropped : List ℕ) (name bytes : List ℕ) : Type 0 where
  pub segment : Write
  pub among : Contains (segments_with log.past log.id log.sections) segment
  pub some : 0 < length segment.sections
  pub stays : (o : ℕ) → Contains dropped o → segment.id ≡ log.base + o → ⊥
  pub name_is : name ≡ segment_name_of 6 segment.id
  pub bytes_are : bytes ≡ segment_bytes segment.id segment.sections

-- an earlier segment under its archive name
pub record IsArchiveRow (log : StoreLog) (archived : List ℕ) (name bytes : List ℕ) : Type 0 where
  pub segment : Write
  pub among : Contains log.past segment
  pub some : 0 < length segment.sections
  pub ordinal : ℕ
  pub listed : Contains archived ordinal
  pub id_is : segment.id ≡ log.base + ordinal
  pub name_is : name ≡ archive_name_of segment.id
  pub bytes_are : bytes ≡ segment_bytes segment.id segment.sections

-- a table file that was put
pub record IsTableRow (placed : List PlacedFile) (name bytes : List ℕ) : Type 0 where
  pub file : PlacedFile
  pub among : Contains placed file
  pub name_is : name ≡ name_of file
  pub bytes_are : bytes ≡ file.bytes

-- these bytes stand under the name
abbrev pub IsRow : StoreLog → Deeds → List PlacedFile → List ℕ → List ℕ → Type 0
IsRow log deeds placed name bytes =
    IsSegmentRow log deeds.dropped name bytes
    ⊎ (IsArchiveRow log deeds.archived name bytes ⊎ IsTableRow placed name bytes)

-- A folder holds these rows, and else what it held at first.
pub record StandsBy (Row : List ℕ → List ℕ → Type 0) (first now : Files) : Type 0 where
  pub rows : (name bytes : List ℕ) → Row name bytes → finmap.get now name ≡ Some bytes
  pub others : (name : List ℕ) → ((bytes : List ℕ) → Row name bytes → ⊥)
      → finmap.get now name ≡ finmap.get first name

-- The folder of a store whose opening left these first files: just the log's segments, archive
-- names and table files have come.
pub record HoldsStore (first : Files) (log : StoreLog) (deeds : Deeds) (now : Files) : Type 0 where
  pub begun : IsBegun first log.base
  pub done : HasDone log deeds
  pub placed : List PlacedFile
  pub are_placed : ArePlacedAt first log.base deeds.files placed
  pub stands : StandsBy (IsRow log deeds placed) first now

-- ---- a table file that comes

-- It has the next sequence of its table, and says what is put.
pub record IsNextFile (base : ℕ) (files : Files) (p : PlacedFile) : Type 0 where
  pub named : IsTableName (name_of p) p.put.table p.sequence
  pub next : IsBase (OneHas (HasSequence (file_on base p.put).table) (finmap.keys files)) 1
      p.sequence
  pub spelled : IsFileOf (file_on base p.put).table p.bytes (file_on base p.put)

-- it is put too
abbrev pub with_file : Deeds → PutFile → Deeds
with_file deeds put = record deeds { files = deeds.files ++ put ∷ [] }

-- the position is one up to which a log lasts, or behind the marker that is to come there
abbrev pub EndsWithin : ℕ → List Section → Position → Type 0
EndsWithin id old at =
    (at.id < id)
    ⊎ ((at.id ≡ id) × (at.offset ≤ last_until header_size old + marker_size))

-- it goes on where the last file of its table ended
abbrev pub GoesOn : List PutFile → PutFile → Type 0
GoesOn files put = (put.lower ≡ upper_from put.table 0 files) × (put.lower ≤ put.upper)

-- ---- segments that go

-- these are dropped too, and archived where a segment that is dropped is
abbrev pub with_gone : Deeds → List ℕ → Deeds
with_gone deeds ordinals = record deeds {
  dropped = deeds.dropped ++ ordinals;
  archived = if deeds.archives then deeds.archived ++ ordinals else deeds.archived;
}

-- the next one is archived, where it has got its archive name
abbrev pub with_next : Deeds → Bool → List ℕ → Deeds
with_next deeds is_named [] = deeds
with_next deeds false (o ∷ ordinals) = deeds
with_next deeds true (o ∷ ordinals) = record deeds { archived = deeds.archived ++ o ∷ [] }

-- so many of these are dropped, and the next one has perhaps its archive name
abbrev pub with_first_gone : Deeds → List ℕ → ℕ → Bool → Deeds
with_first_gone deeds ordinals n is_named =
    with_next (with_gone deeds (take n ordinals)) is_named (drop n ordinals)

-- Earlier segments that were not dropped, in the order of their ids; table files stand for all that
-- was logged in them.
pub record MayBeDropped (log : StoreLog) (deeds : Deeds) (ordinals : List ℕ) : Type 0 where
  pub past : (o : ℕ) → Contains ordinals o → IsPast log o
  pub stays : (o : ℕ) → Contains ordinals o → Contains deeds.dropped o → ⊥
  pub filed : (o : ℕ) → Contains ordinals o → (n : EntryNote) → Contains log.logged n
      → ordinal_of n.start.0 ≡ o → IsFiledByAll deeds.files n
  pub ascending : AllPairs (λ (a b : ℕ). a < b) ordinals
