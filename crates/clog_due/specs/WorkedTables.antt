-- A worked row of dropping: the first segment has an entry of table 0 and one of table 1, and the
-- log has gone on in the next. It goes once table files of both stand.
use Rattle.std.specs.Prelude.{◌≡◌, ℕ, Bool, if◌then◌else◌, List, [], ◌∷◌}
use Rattle.path_core.specs.declared.note.EntryNote.{EntryNote}
use Rattle.path_core.specs.Keeper.{Holding, PutFile}
use Rattle.clog_segments.specs.Notes.{note_at}

-- an entry of these tables, as bits
abbrev pub note_of : ℕ → ℕ → EntryNote
note_of tables start = record (note_at start) { tables = tables }

-- they end at 60 and at 92; the third is of the segment of ordinal 1
abbrev pub the_entries : List EntryNote
the_entries = note_of 1 28 ∷ note_of 2 60 ∷ note_of 1 2147483676 ∷ []

-- A keeper has made these lasting, and has put just these files.
pub record HasPut (h : Holding) (files : List PutFile) : Type 0 where
  pub logged_are : h.logged ≡ the_entries
  pub none_kept : h.kept ≡ []
  pub files_are : h.files ≡ files
  pub none_dropped : h.dropped ≡ []
  pub none_archived : h.archived ≡ []

-- A file of the table for all of its log up to the end of the second entry.
pub record IsUpToSecond (table : ℕ) (put : PutFile) : Type 0 where
  pub table_is : put.table ≡ table
  pub lower_is : put.lower ≡ 0
  pub upper_is : put.upper ≡ 92

-- So many segments went, and these are those that did and have their archive names.
pub record HasGone (now : Holding) (count answered : ℕ) (dropped archived : List ℕ) : Type 0 where
  pub count_is : answered ≡ count
  pub dropped_are : now.dropped ≡ dropped
  pub archived_are : now.archived ≡ archived

-- none
abbrev pub NoneHasGone : Holding → ℕ → Type 0
NoneHasGone now answered = HasGone now 0 answered [] []

-- the first, under its archive name where segments get one
abbrev pub FirstHasGone : Bool → Holding → ℕ → Type 0
FirstHasGone archives now answered =
    HasGone now 1 answered (0 ∷ []) (if archives then 0 ∷ [] else [])
