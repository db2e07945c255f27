-- Worked rows of what a close tells of a flush: steps of seat 0 at table 0, the newest first, and
-- the keeper's files.
use Rattle.std.specs.Prelude.{ℕ, List, [], ◌∷◌, Some}
use Rattle.path_core.specs.declared.event.Cursor.TheVariants.{OldestLive}
use Rattle.path_core.specs.declared.event.Event.TheVariants.{Put}
use Rattle.path_core.specs.Keeper.{PutFile}
use Rattle.path_rule.specs.declared.view.OwnStep.{OwnStep}
use Rattle.write_path.specs.SwitchedRows.{switched_at}

-- it retired memtable 0 with a table file that begins above key 0
abbrev pub retired_filed : OwnStep
retired_filed = record {
  event = Put 0 (OldestLive (record { 0 = 0 })) 1;
  found = 1;
  filed = Some 0;
}

-- behind a switch that made the memtable final at a key
abbrev pub flushed_at : ℕ → List OwnStep
flushed_at key = retired_filed ∷ switched_at 0 key

-- one file of the table, which holds no cell, from one key to another
abbrev pub file_between : ℕ → ℕ → List PutFile
file_between lower upper = record { table = 0; lower = lower; upper = upper; cells = [] } ∷ []

-- from key 0
abbrev pub file_to : ℕ → List PutFile
file_to upper = file_between 0 upper
