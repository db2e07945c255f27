-- The words that steps act on: what stands at a place, and which seat and place a step is of.
use Rattle.std.specs.Prelude.{ℕ, ◌<◌, length, if◌then◌else◌}
use Rattle.std.specs.List.{list_any}
use Rattle.path_core.specs.declared.event.Cursor.TheVariants.{Synced, OldestLive, Stopped}
use Rattle.path_core.specs.declared.event.Event.{Event}
use Rattle.path_core.specs.declared.event.Event.TheVariants.{
  Look,
  Register,
  Close,
  OpenGroup,
  MoveCurrent,
  Expire,
  Advance,
  Claim,
  Switch,
  Raise,
  Finalise,
  TakeTurn,
  GiveTurn,
  Put,
}
use Rattle.path_core.specs.declared.event.Place.{Place}
use Rattle.path_core.specs.declared.event.Place.TheVariants.{
  Count,
  Current,
  Oldest,
  Log,
  Newest,
  Bound,
  TurnWord,
  CursorWord,
}
use Rattle.path_core.specs.declared.event.Reading.{Reading}
use Rattle.path_core.specs.declared.event.Reading.TheVariants.{Operations, Number, Limit}
use Rattle.path_core.specs.declared.event.SwitchPart.TheVariants.{Clear, Open, Mark}
use Rattle.path_core.specs.declared.event.Turn.{Turn}
use Rattle.path_core.specs.declared.event.Turn.TheVariants.{Sync, Flush}
use Rattle.path_core.specs.declared.seat.Seat.{Seat}
use Rattle.path_core.specs.declared.state.PathState.{PathState}
use Rattle.path_core.specs.Parts.{groups_of, tally_of, table_of, memtable_of, holds_turn}

-- what stands at a place
abbrev pub reading : PathState → Place → Reading
reading x (Count order group) = Operations (tally_of x order group)
reading x (Current order) = Number (groups_of x order).current
reading x (Oldest order) = Number (groups_of x order).oldest
reading x Log = Number x.log
reading x (Newest t) = Number (table_of x t.0).newest
reading x (Bound t m) = Limit (memtable_of x t.0 m).bound
reading x (TurnWord turn) =
    Number (if list_any (λ (s : Seat). holds_turn s turn) x.seats then 1 else 0)
reading x (CursorWord Synced) = Number x.synced
reading x (CursorWord (OldestLive t)) = Number (table_of x t.0).oldest_live
reading x (CursorWord Stopped) = Number x.stopped

-- There is such a turn.
abbrev pub IsTurn : PathState → Turn → Type 0
IsTurn x Sync = Unit {0}
IsTurn x (Flush t) = t.0 < length x.tables

-- There is such a place.
abbrev pub IsPlace : PathState → Place → Type 0
IsPlace x (Count order group) = group < length (groups_of x order).tallies
IsPlace x (Current order) = Unit {0}
IsPlace x (Oldest order) = Unit {0}
IsPlace x Log = Unit {0}
IsPlace x (Newest t) = t.0 < length x.tables
IsPlace x (Bound t m) = (t.0 < length x.tables) × (m < length (table_of x t.0).memtables)
IsPlace x (TurnWord turn) = IsTurn x turn
IsPlace x (CursorWord Synced) = Unit {0}
IsPlace x (CursorWord (OldestLive t)) = t.0 < length x.tables
IsPlace x (CursorWord Stopped) = Unit {0}

-- the seat of a step, the only one whose part changes
abbrev pub by_of : Event → ℕ
by_of (Look by at) = by
by_of (Register by order group) = by
by_of (Close by order group carried) = by
by_of (OpenGroup by order group) = by
by_of (MoveCurrent by order group) = by
by_of (Expire by order group) = by
by_of (Advance by order group) = by
by_of (Claim by from to what) = by
by_of (Switch by table memtable part) = by
by_of (Raise by table memtable to) = by
by_of (Finalise by table memtable) = by
by_of (TakeTurn by turn) = by
by_of (GiveTurn by turn) = by
by_of (Put by cursor value) = by

-- the place that a step acts on
abbrev pub place_of : Event → Place
place_of (Look by at) = at
place_of (Register by order group) = Count order group
place_of (Close by order group carried) = Count order group
place_of (OpenGroup by order group) = Count order group
place_of (MoveCurrent by order group) = Current order
place_of (Expire by order group) = Count order group
place_of (Advance by order group) = Oldest order
place_of (Claim by from to what) = Log
place_of (Switch by table memtable Clear) = Bound table memtable
place_of (Switch by table memtable Open) = Newest table
place_of (Switch by table memtable Mark) = Bound table memtable
place_of (Raise by table memtable to) = Bound table memtable
place_of (Finalise by table memtable) = Bound table memtable
place_of (TakeTurn by turn) = TurnWord turn
place_of (GiveTurn by turn) = TurnWord turn
place_of (Put by cursor value) = CursorWord cursor
