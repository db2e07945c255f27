-- What the steps of merging a log answer: for private clauses.
use Rattle.std.specs.Prelude.{List}
use Rattle.std.specs.List.{flat_map}
use Rattle.clog_crash.specs.Counts.{LoggedMutation}
use Rattle.clog_folder.specs.declared.tables.TableHeld.{TableHeld}
use Rattle.clog_folder.specs.Folder.{PlacedPayload, Say}
use Rattle.replay_merge.specs.declared.merged.Merged.{Merged}
use Rattle.replay_merge.specs.Merged.{IsMergedOf, Takes, updates_of}

-- The mutations of these payloads are taken in.
pub record TakesLog (tables : List TableHeld) (ps : List PlacedPayload) (old new : Merged) : Type 0
  where
    pub log : List LoggedMutation
    pub say : Say ps log
    pub takes : Takes tables (flat_map updates_of log) old new

-- The mutations of these payloads are merged, and nothing else is.
pub record IsTakenOf (tables : List TableHeld) (ps : List PlacedPayload) (merged : Merged) : Type 0
  where
    pub log : List LoggedMutation
    pub say : Say ps log
    pub taken : IsMergedOf tables (flat_map updates_of log) merged
