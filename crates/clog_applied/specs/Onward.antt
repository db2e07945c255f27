-- How far a run reaches: what it leaves to a later run of ids, of a segment's bytes and of
-- positions.
use Rattle.std.specs.Prelude.{
  ◌≡◌,
  ℕ,
  ◌+◌,
  ◌≤◌,
  true,
  List,
  [],
  ◌∷◌,
  ◌++◌,
  length,
  Contains,
  None,
}
use Rattle.std.specs.List.{range_with_len}
use Rattle.clog_disk.specs.declared.change.Change.{Change}
use Rattle.clog_table.specs.declared.table_file.TableFile.{TableFile}
use Rattle.clog_words.specs.declared.request.ApplyOptions.{ApplyOptions}
use Rattle.clog_applied.specs.Appended.{appended}
use Rattle.clog_applied.specs.Asked.{capacity_of}
use Rattle.clog_applied.specs.Filed.{first_of}
use Rattle.clog_applied.specs.History.{LoggedLine, logged_at}

-- the file ends at most one segment behind that of an entry
pub record EndsNear (history : List LoggedLine) (file : TableFile) : Type 0 where
  pub line : LoggedLine
  pub listed : Contains history line
  pub near : file.upper.id ≤ line.id + 1

-- The file has the whole log in its interval: from the base to the end of the last entry.
pub record HasWholeLog (base : ℕ) (history : List LoggedLine) (file : TableFile) : Type 0 where
  pub begins : file.lower ≡ first_of base
  pub front : List LoggedLine
  pub last : LoggedLine
  pub parts : history ≡ front ++ last ∷ []
  pub ends : file.upper ≡ logged_at last

-- The run's segments have the ids from the base on, and none is passed over; none is longer than
-- its capacity. No table file ends further than the beginning of the segment behind an entry, and
-- where all is flushed at the end alone, each has the whole log.
pub record ReachesNoFurther (options : ApplyOptions) (base : ℕ) (later : List Change)
    (ids : List ℕ) (history : List LoggedLine) (files : List TableFile) : Type 0 where
  pub follow : ids ≡ range_with_len base (length ids)
  pub fit : (id : ℕ) → Contains ids id → length (appended later id) ≤ capacity_of options
  pub near : (file : TableFile) → Contains files file → EndsNear history file
  pub whole : options.drain ≡ true → options.flush_at ≡ None → (file : TableFile)
      → Contains files file → HasWholeLog base history file
