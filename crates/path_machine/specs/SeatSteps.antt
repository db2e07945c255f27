-- What a step's functions on a seat are told.
use Rattle.std.specs.Prelude.{◌<◌}
use Rattle.path_core.specs.declared.event.Cursor.TheVariants.{OldestLive}
use Rattle.path_core.specs.declared.event.Place.{Place}
use Rattle.path_core.specs.declared.event.Place.TheVariants.{Newest, Bound, CursorWord}
use Rattle.path_core.specs.declared.event.Turn.{Turn}
use Rattle.path_core.specs.declared.event.Turn.TheVariants.{Sync, Flush}
use Rattle.path_core.specs.declared.seat.FoundGroups.{FoundGroups}
use Rattle.path_core.specs.SeatParts.{current_found, oldest_found, finished_found}
use Rattle.path_machine.specs.declared.groups_known.GroupWord.{GroupWord}
use Rattle.path_machine.specs.declared.groups_known.GroupWord.TheVariants.{
  Current,
  Oldest,
  Finished,
}

-- a word of an order's groups, found
abbrev pub word_found : GroupWord → FoundGroups → FoundGroups
word_found (Current n) groups = current_found n groups
word_found (Oldest n) groups = oldest_found n groups
word_found (Finished n) groups = finished_found n groups

-- a table that a place names is one of sixteen
abbrev pub NamesTable : Place → Type 0
NamesTable (Newest t) = t.0 < 16
NamesTable (Bound t m) = (t.0 < 16) × (m < 18446744073709551615)
NamesTable (CursorWord (OldestLive t)) = t.0 < 16
NamesTable _ = Unit {0}

abbrev pub TurnTable : Turn → Type 0
TurnTable Sync = Unit {0}
TurnTable (Flush t) = t.0 < 16
