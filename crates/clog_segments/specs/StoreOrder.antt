-- The order of a store's changes: a table file comes behind the log up to its end, and a segment
-- goes behind the table files that stand for it, under its archive name first.
use Rattle.std.specs.Prelude.{
  ◌≡◌,
  ℕ,
  ◌+◌,
  ◌≤◌,
  true,
  List,
  [],
  ◌∷◌,
  ◌++◌,
  length,
  map,
  IsTrue,
  Contains,
  ⊤,
}
use Rattle.clog_spec.specs.Names.{IsTableName, archive_name_of, segment_name_of}
use Rattle.clog_base.specs.Positions.{offset_of, ordinal_of}
use Rattle.clog_cells.specs.Merge.{IsMergeOf}
use Rattle.clog_disk.specs.declared.change.Change.{Change}
use Rattle.clog_disk.specs.declared.change.Change.TheVariants as change
use Rattle.clog_table.specs.Refusals.{IsFileOf}
use Rattle.clog_crash.specs.Grown.{appends_of, grown}
use Rattle.clog_crash.specs.Log.{Write}
use Rattle.clog_crash.specs.Sections.{segment_bytes}
use Rattle.path_core.specs.declared.note.EntryNote.{EntryNote}
use Rattle.path_core.specs.Droppable.{is_of}
use Rattle.path_core.specs.Keeper.{Holding, IsFiledIn, IsLoggedCell, PutFile}
use Rattle.path_core.specs.Keys.{after}
use Rattle.clog_segments.specs.NoteLog.{HasLog, NoteState}
use Rattle.clog_segments.specs.OnDisk.{file_on}
use Rattle.clog_segments.specs.StoreFolder.{Deeds, IsPast, PlacedFile, StoreLog, name_of}

-- ---- table files that changes have put

abbrev pub publish_of : PlacedFile → Change
publish_of p = change.Publish (name_of p) p.bytes

-- those of the changes that put a file in place
abbrev pub publishes_of : List Change → List Change
publishes_of [] = []
publishes_of (change.Publish name bytes ∷ more) =
    change.Publish name bytes ∷ publishes_of more
publishes_of (other ∷ more) = publishes_of more

-- It says what was put, under a name of its table.
pub record IsSpelled (base : ℕ) (p : PlacedFile) : Type 0 where
  pub named : IsTableName (name_of p) p.put.table p.sequence
  pub spelled : IsFileOf (file_on base p.put).table p.bytes (file_on base p.put)

-- The changes have put just these files, in this order.
pub record ArePutBy (base : ℕ) (changes : List Change) (files : List PutFile) : Type 0 where
  pub placed : List PlacedFile
  pub are : map (λ (p : PlacedFile). p.put) placed ≡ files
  pub each : (p : PlacedFile) → Contains placed p → IsSpelled base p
  pub put : publishes_of changes ≡ map publish_of placed

-- ---- what stands in front of a change

-- the entry of the note is among what was appended to its segment
abbrev pub IsAppendedIn : ℕ → List Change → EntryNote → Type 0
IsAppendedIn base front n =
    offset_of n.end.0
    ≤ length (grown (appends_of front) (segment_name_of 6 (base + ordinal_of n.start.0)))

-- all bytes of the segment were appended
abbrev pub IsWholeIn : List Change → Write → Type 0
IsWholeIn front w =
    grown (appends_of front) (segment_name_of 6 w.id) ≡ segment_bytes w.id w.sections

-- for each table, each key from one to another of the ends of the segment's notes that touch the
-- table lies in the table's files
abbrev pub IsFiledWhole : List EntryNote → List PutFile → ℕ → Type 0
IsFiledWhole notes files o = (t : ℕ) (a b : EntryNote) → Contains notes a → Contains notes b
    → IsTrue (is_of o t a) → IsTrue (is_of o t b)
    → (key : ℕ) → a.end.0 ≤ key → key ≤ b.end.0 → IsFiledIn files t key

-- A file that was put comes behind the appends of all notes up to its end.
pub record ComesBehind (log : StoreLog) (deeds : Deeds) (front : List Change) (name bytes : List ℕ)
    : Type 0 where
  pub file : PlacedFile
  pub was_put : Contains deeds.files file.put
  pub is_spelled : IsSpelled log.base file
  pub name_is : name ≡ name_of file
  pub bytes_are : bytes ≡ file.bytes
  pub behind : (n : EntryNote) → Contains log.logged n → n.end.0 ≤ file.put.upper
      → IsAppendedIn log.base front n

-- An earlier segment, all of which was appended, gets its archive name.
pub record GetsArchiveName (log : StoreLog) (deeds : Deeds) (front : List Change)
    (old new : List ℕ) : Type 0 where
  pub ordinal : ℕ
  pub listed : Contains deeds.archived ordinal
  pub past : IsPast log ordinal
  pub old_is : old ≡ segment_name_of 6 past.segment.id
  pub new_is : new ≡ archive_name_of past.segment.id
  pub whole : IsWholeIn front past.segment

-- A segment that was dropped goes behind the appends of all its bytes, its archive name where it
-- gets one, and the first of the table files, which stand for each table's part of it.
pub record GoesBehind (log : StoreLog) (deeds : Deeds) (front : List Change) (name : List ℕ)
    : Type 0 where
  pub ordinal : ℕ
  pub listed : Contains deeds.dropped ordinal
  pub past : IsPast log ordinal
  pub name_is : name ≡ segment_name_of 6 past.segment.id
  pub whole : IsWholeIn front past.segment
  pub archived : deeds.archives ≡ true
      → Contains front (change.Link name (archive_name_of past.segment.id))
  pub put : List PutFile
  pub later : List PutFile
  pub files_are : deeds.files ≡ put ++ later
  pub put_by : ArePutBy log.base front put
  pub filed : IsFiledWhole log.logged put ordinal

-- What stands in front of a change. Of an append nothing is asked: that all of them have brought
-- just the log's sections is said of the store besides.
abbrev pub StandsBehind : StoreLog → Deeds → List Change → Change → Type 0
StandsBehind log deeds front (change.Append name bytes) = ⊤
StandsBehind log deeds front (change.Publish name bytes) = ComesBehind log deeds front name bytes
StandsBehind log deeds front (change.Link old new) = GetsArchiveName log deeds front old new
StandsBehind log deeds front (change.Remove name) = GoesBehind log deeds front name

-- A store's changes since its opening, which its log and its deeds have made: wherever they are
-- cut, and they have put its files.
pub record AreOrdered (log : StoreLog) (deeds : Deeds) (changes : List Change) : Type 0 where
  pub each : (front rest : List Change) (c : Change) → changes ≡ front ++ c ∷ rest
      → StandsBehind log deeds front c
  pub files : ArePutBy log.base changes deeds.files

-- ---- what stays true of files that were put

-- The log is lasting up to the file's end, and its cells are the merge of what its interval holds.
pub record IsSettled (h : Holding) (put : PutFile) : Type 0 where
  pub lasting : put.upper ≤ after h.sizes.capacity h.synced
  pub merged : IsMergeOf (IsLoggedCell h put) put.cells

-- So it is with each of these, whatever else a keeper with the log holds.
abbrev pub AreSettled : {D : Type 0} → NoteState D → List PutFile → Type 0
AreSettled s files =
    (h : Holding) → HasLog s h → (put : PutFile) → Contains files put → IsSettled h put
