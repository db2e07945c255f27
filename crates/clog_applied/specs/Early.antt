-- The order of a run's changes: none of its table files before the log behind it, and none of its
-- segments gone before table files hold it.
use Rattle.std.specs.Prelude.{
  ◌≡◌,
  ℕ,
  ◌≤◌,
  Bool,
  true,
  List,
  ◌∷◌,
  ◌++◌,
  length,
  Contains,
}
use Rattle.clog_spec.specs.Names.{archive_name_of, segment_name_of, IsTableName}
use Rattle.clog_base.specs.Positions.{IsUpTo}
use Rattle.clog_disk.specs.declared.change.Change.{Change}
use Rattle.clog_disk.specs.declared.change.Change.TheVariants as change
use Rattle.clog_disk.specs.Files.{Files}
use Rattle.clog_scan.specs.Segment.{Entry}
use Rattle.clog_table.specs.declared.table_file.TableFile.{TableFile}
use Rattle.clog_table.specs.Refusals.{IsFileOf}
use Rattle.clog_crash.specs.Droppable.{IsDroppable, Touches}
use Rattle.clog_crash.specs.Folder.{IsHeld}
use Rattle.clog_applied.specs.Appended.{IsSegmentOf, appended, entries_in}
use Rattle.clog_applied.specs.Filed.{BringsNoOther, IsAbove, KeepsOthers}
use Rattle.clog_applied.specs.History.{LoggedLine, entry_of, logged_at}

-- a name and bytes are those of a table file that says this
pub record SaysFile (name bytes : List ℕ) (file : TableFile) : Type 0 where
  pub sequence : ℕ
  pub named : IsTableName name file.table.0 sequence
  pub spelled : IsFileOf file.table bytes file

-- one of the changes put the file in place
pub record IsPublishedIn (changes : List Change) (file : TableFile) : Type 0 where
  pub name : List ℕ
  pub bytes : List ℕ
  pub listed : Contains changes (change.Publish name bytes)
  pub says : SaysFile name bytes file

-- the file ends above all ids of before
abbrev pub EndsAbove : Files → TableFile → Type 0
EndsAbove before file = IsAbove before file.upper.id

-- each entry of the file's table up to the file's end is among what was appended
abbrev pub IsLoggedBehind : List LoggedLine → List Change → TableFile → Type 0
IsLoggedBehind history front file = (w : LoggedLine) → Contains history w
    → Touches (entry_of w) file.table → IsUpTo (logged_at w) file.upper
    → w.end ≤ length (appended front w.id)

-- A segment with these entries may go by table files that the changes have put in place, out of
-- these.
pub record MayGoBehind (files : List TableFile) (front : List Change) (id : ℕ)
    (entries : List Entry) : Type 0 where
  pub put : List TableFile
  pub each : (file : TableFile) → Contains put file
      → Contains files file × IsPublishedIn front file
  pub droppable : IsDroppable put id entries

-- Where changes are cut at the coming of a new table file, the log behind the file is appended in
-- front; where they are cut at the removal of a segment of the run, all its bytes are, and it may
-- go by the table files that are in place. Where archives are kept it has its archive name by then,
-- which it gets once all its bytes are appended.
pub record AreInOrder (IsNew : TableFile → Type 0) (archive : Bool) (changes : List Change)
    (ids : List ℕ) (history : List LoggedLine) (files : List TableFile) : Type 0 where
  pub published : (front rest : List Change) (name bytes : List ℕ) (file : TableFile)
      → changes ≡ front ++ change.Publish name bytes ∷ rest → SaysFile name bytes file
      → IsNew file → IsLoggedBehind history front file
  pub removed_whole : (front rest : List Change) (id : ℕ) → Contains ids id
      → changes ≡ front ++ change.Remove (segment_name_of 6 id) ∷ rest
      → appended front id ≡ appended changes id
  pub removed_filed : (front rest : List Change) (id : ℕ) → Contains ids id
      → changes ≡ front ++ change.Remove (segment_name_of 6 id) ∷ rest
      → MayGoBehind files front id (entries_in id history)
  pub removed_archived : archive ≡ true → (front rest : List Change) (id : ℕ) → Contains ids id
      → changes ≡ front ++ change.Remove (segment_name_of 6 id) ∷ rest
      → Contains front (change.Link (segment_name_of 6 id) (archive_name_of id))
  pub archived_whole : (front rest : List Change) (id : ℕ) (name : List ℕ) → Contains ids id
      → changes ≡ front ++ change.Link (segment_name_of 6 id) name ∷ rest
      → (name ≡ archive_name_of id) × (appended front id ≡ appended changes id)

-- the archive name of one of these segments is given to it
pub record IsNamedFor (ids : List ℕ) (old new : List ℕ) : Type 0 where
  pub segment : IsSegmentOf ids old
  pub new_is : new ≡ archive_name_of segment.id

-- A change that a run makes behind its opening: bytes for one of its segments, one of its table
-- files, the archive name of such a segment where archives are kept, or its removal.
abbrev pub IsRunChange : Bool → List ℕ → List TableFile → Change → Type 0
IsRunChange archive ids files (change.Append name bytes) = IsSegmentOf ids name
IsRunChange archive ids files (change.Publish name bytes) =
    (file : TableFile) × Contains files file × SaysFile name bytes file
IsRunChange archive ids files (change.Link old new) = (archive ≡ true) × IsNamedFor ids old new
IsRunChange archive ids files (change.Remove name) = IsSegmentOf ids name

-- each of these changes is such a one
abbrev pub AreRunChanges : Bool → List ℕ → List TableFile → List Change → Type 0
AreRunChanges archive ids files changes =
    (c : Change) → Contains changes c → IsRunChange archive ids files c

-- all entries of the history are among what was appended
abbrev pub HoldsAll : List LoggedLine → List Change → Type 0
HoldsAll history front =
    (w : LoggedLine) → Contains history w → w.end ≤ length (appended front w.id)

-- Wherever changes are cut at the coming of a file or at a removal, all entries are in front.
pub record ComeLast (changes : List Change) (history : List LoggedLine) : Type 0 where
  pub published : (front rest : List Change) (name bytes : List ℕ)
      → changes ≡ front ++ change.Publish name bytes ∷ rest → HoldsAll history front
  pub removed : (front rest : List Change) (name : List ℕ)
      → changes ≡ front ++ change.Remove name ∷ rest → HoldsAll history front

-- The run's changes stand in order. No segment of the run is left that may go, the last one among
-- them, and none at all behind a drain. Of before nothing else has gone or changed but segments,
-- and nothing else has come but the run's segments, their archive names and table files.
pub record NothingGoesEarly (archive drain : Bool) (before after : Files) (changes : List Change)
    (ids : List ℕ) (history : List LoggedLine) (files : List TableFile) : Type 0 where
  pub order : AreInOrder (EndsAbove before) archive changes ids history files
  pub gone : (id : ℕ) → Contains ids id → IsHeld after (segment_name_of 6 id)
      → ¬ IsDroppable files id (entries_in id history)
  pub drained : drain ≡ true → (id : ℕ) → Contains ids id → ¬ IsHeld after (segment_name_of 6 id)
  pub others : KeepsOthers before after
  pub no_stray : BringsNoOther ids before after
