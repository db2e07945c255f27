-- What a keeper has done beside its log: table files that were put one behind the other, and
-- segments that went since files hold them.
use Rattle.std.specs.Prelude.{◌≡◌, ℕ, ◌<◌, ◌≤◌, Bool, true, false, [], IsTrue}
use Rattle.std.specs.List.{Contains}
use Rattle.clog_spec.specs.Sizes.{most_segments, most_tables}
use Rattle.clog_cells.specs.Merge.{IsMergeOf}
use Rattle.path_core.specs.declared.note.EntryNote.{EntryNote}
use Rattle.path_core.specs.Keeper.{Holding, IsFiledIn, IsLoggedCell, MayDrop, PutFile}
use Rattle.path_core.specs.Keys.{after}
use Rattle.path_core.specs.Parts.{touches}
use Rattle.clog_closing.specs.Sequence.{AreInSequence}

-- An entry that is lasting touches the file's table, and ends within its interval.
pub record HoldsNote (h : Holding) (f : PutFile) : Type 0 where
  pub note : EntryNote
  pub among : Contains h.logged note
  pub bit : IsTrue (touches note.tables f.table)
  pub above : f.lower < note.end.0
  pub up_to : note.end.0 ≤ f.upper

-- Its table files follow one another. The log is lasting up to the end of each, which has the merge
-- of what its interval holds, and that is something. What it dropped, or gave an archive name, may
-- go, and it has given one to each segment that it dropped exactly where it archives.
pub record HasGoodDeeds (h : Holding) : Type 0 where
  pub in_sequence : AreInSequence h.files
  pub lasting : (f : PutFile) → Contains h.files f → f.upper ≤ after h.sizes.capacity h.synced
  pub merged : (f : PutFile) → Contains h.files f → IsMergeOf (IsLoggedCell h f) f.cells
  pub for_some : (f : PutFile) → Contains h.files f → HoldsNote h f
  pub droppable : (o : ℕ) → Contains h.dropped o → MayDrop h o
  pub archivable : (o : ℕ) → Contains h.archived o → MayDrop h o
  pub all_archived : h.opening.archives ≡ true → (o : ℕ) → Contains h.dropped o
      → Contains h.archived o
  pub none_archived : h.opening.archives ≡ false → h.archived ≡ []

-- each entry that is lasting lies in a file of each table that it touches
abbrev pub AreAllFiled : Holding → Type 0
AreAllFiled h = (n : EntryNote) → Contains h.logged n → (t : ℕ) → t < most_tables
    → IsTrue (touches n.tables t) → IsFiledIn h.files t n.end.0

-- At the end of a run no segment is left that may go, and behind a drain no entry that lies in no
-- file.
pub record HasFinished (drain : Bool) (h : Holding) : Type 0 where
  pub good : HasGoodDeeds h
  pub gone : (o : ℕ) → o < most_segments → MayDrop h o → Contains h.dropped o
  pub filed : drain ≡ true → AreAllFiled h
