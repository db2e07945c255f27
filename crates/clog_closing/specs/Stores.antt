-- A store that has put table files and dropped segments, where its run has ended.
use Rattle.std.specs.Prelude.{◌≡◌, ℕ, ◌+◌, ◌<◌, List, map, Contains}
use Rattle.clog_base.specs.declared.sizes.Sizes.{Sizes}
use Rattle.clog_base.specs.Positions.{ordinal_of}
use Rattle.clog_disk.specs.declared.change.Change.{Change}
use Rattle.clog_disk.specs.Files.{Files}
use Rattle.clog_table.specs.declared.table_file.TableFile.{TableFile}
use Rattle.clog_crash.specs.Grown.{appends_of}
use Rattle.clog_crash.specs.Log.{Write}
use Rattle.clog_crash.specs.Runs.{placed_log}
use Rattle.path_core.specs.declared.note.EntryNote.{EntryNote}
use Rattle.path_core.specs.History.{IsHistory}
use Rattle.path_core.specs.Keeper.{PutFile}
use Rattle.clog_segments.specs.Grows.{IsGrown, segments_with}
use Rattle.clog_segments.specs.Notes.{places_of}
use Rattle.clog_segments.specs.OnDisk.{file_on}
use Rattle.clog_segments.specs.StoreFolder.{Deeds, HoldsStore, StoreLog}
use Rattle.clog_segments.specs.StoreOrder.{AreOrdered, IsFiledWhole}
use Rattle.clog_applied.specs.History.{LoggedLine}
use Rattle.clog_layout.specs.Logged.{AreNotesOf}
use Rattle.clog_closing.specs.Logs.{AreStoredInOrder, written_ids}
use Rattle.clog_closing.specs.Sequence.{AreInSequence}

-- ---- in the words of a run

-- its segments, the earlier ones and the one at hand
abbrev pub segments_in : StoreLog → List Write
segments_in log = segments_with log.past log.id log.sections

-- the ids of those to which a section was written
abbrev pub ids_in : StoreLog → List ℕ
ids_in log = written_ids (segments_in log)

-- the ids of those that were dropped
abbrev pub dropped_ids : StoreLog → Deeds → List ℕ
dropped_ids log deeds = map (λ (o : ℕ). log.base + o) deeds.dropped

-- the table files that were put
abbrev pub files_by : StoreLog → Deeds → List TableFile
files_by log deeds = map (file_on log.base) deeds.files

-- ---- what a path has done with it

-- A segment has an entry, and table files stand for each table's part of it.
pub record MayGo (log : StoreLog) (deeds : Deeds) (o : ℕ) : Type 0 where
  pub note : EntryNote
  pub among : Contains log.logged note
  pub here : ordinal_of note.start.0 ≡ o
  pub filed : IsFiledWhole log.logged deeds.files o

-- Table files were put one behind the other, none of them for nothing; and just the segments that
-- may go were dropped, of which no other got its archive name.
pub record AreWholeDeeds (log : StoreLog) (deeds : Deeds) : Type 0 where
  pub in_sequence : AreInSequence deeds.files
  pub some : (put : PutFile) → Contains deeds.files put → put.lower < put.upper
  pub archived : (o : ℕ) → Contains deeds.archived o → Contains deeds.dropped o
  pub exactly : (o : ℕ) → MayGo log deeds o → Contains deeds.dropped o

-- ---- what it has come to

-- Its changes since the opening have brought just its log and stand in order. Its log holds just
-- the entries of notes, which are those of a history.
pub record GoesInOrder (sizes : Sizes) (later : List Change) (log : StoreLog) (deeds : Deeds)
    (history : List LoggedLine) : Type 0 where
  pub grown : IsGrown (appends_of later) log.past log.id log.sections
  pub ordered : AreOrdered log deeds later
  pub stored : AreStoredInOrder (segments_in log)
  pub places : placed_log log.past log.id log.sections ≡ places_of log.base log.logged
  pub in_log : IsHistory sizes.capacity log.logged
  pub notes : AreNotesOf log.base log.logged history

-- ---- its end

-- The folder is the store's, which has gone in order. A path has done all with it.
pub record HasEnded (sizes : Sizes) (opened after : Files) (later : List Change) (log : StoreLog)
    (deeds : Deeds) (history : List LoggedLine) : Type 0 where
  pub folder : HoldsStore opened log deeds after
  pub goes : GoesInOrder sizes later log deeds history
  pub whole : AreWholeDeeds log deeds
