-- What a folder restores to, and its counts.
use Rattle.std.specs.Prelude.{◌≡◌, ℕ, List, ◌++◌, length, map, Bool, Option, IfSome, Result}
use Rattle.std.specs.declared.result.Result.TheVariants as result
use Rattle.std.specs.List.{flat_map}
use Rattle.clog_cells.specs.Merge.{IsMerge}
use Rattle.clog_disk.specs.Files.{Files}
use Rattle.clog_crash.specs.Counts.{AreCounts, LoggedMutation}
use Rattle.clog_crash.specs.Folder.{cells_of_tables}
use Rattle.clog_crash.specs.Restore.{IsRestored}
use Rattle.clog_folder.specs.declared.fault.OpenFault.{OpenFault}
use Rattle.clog_folder.specs.declared.tables.TableHeld.{TableHeld}
use Rattle.clog_folder.specs.Folder.{CanBeRead, FolderRefused, Say}
use Rattle.clog_folder.specs.Listing.{Picks}
use Rattle.clog_folder.specs.Tables.{read_of}
use Rattle.replay_merge.specs.declared.merged.Merged.{Merged}
use Rattle.replay_merge.specs.Entries.{Entry as Item}
use Rattle.replay_merge.specs.declared.restoring.Restored.{Restored}
use Rattle.replay_merge.specs.Merged.{IsMergedOf, updates_of}
use Rattle.replay_merge.specs.Piped.{IsGood, placed_of}

-- What was merged of entries, and of the table files: for private clauses.
pub record IsRestoredOf (tables : List TableHeld) (items : List Item)
    (segment_names table_names : ℕ) (restored : Restored) : Type 0 where
  pub good : List Item
  pub picks : Picks IsGood items good
  pub log : List LoggedMutation
  pub say : Say (map placed_of good) log
  pub merged : Merged
  pub taken : IsMergedOf tables (flat_map updates_of log) merged
  pub cells : IsMerge (merged.cells ++ cells_of_tables (map read_of tables)) restored.cells
  pub segments : restored.counts.segments ≡ segment_names
  pub tables_are : restored.counts.tables ≡ table_names
  pub entries : restored.counts.entries ≡ length good
  pub updates : restored.counts.updates ≡ merged.updates
  pub skipped : restored.counts.skipped ≡ merged.skipped

-- The files could be read, the cells are what they restore to, and the counts are theirs.
pub record IsReplayOf (ignore : Bool) (files : Files) (restored : Restored) : Type 0 where
  pub readable : CanBeRead ignore files
  pub cells : IsRestored files restored.cells
  pub counts :
      AreCounts files restored.counts.segments restored.counts.tables restored.counts.entries
      restored.counts.updates restored.counts.skipped

-- what a folder restores to, or why it is not read
abbrev pub Replays : Bool → Option Files → ℕ → ℕ → Result Restored OpenFault → Type 0
Replays ignore files faults now (result.Ok restored) =
    IfSome files (λ held. IsReplayOf ignore held restored)
Replays ignore files faults now (result.Err refusal) = FolderRefused ignore files faults now refusal
