-- A seat's part after its own step.
--
-- It is told what stood at the step's place, and what else a step tells. A seat keeps what it found
-- at its place, and what it put there itself. While it holds a turn it keeps these apart from what
-- it found before: taking a turn begins with nothing but the last marker, which the turn hands on.
use Rattle.std.specs.Prelude.{
  ℕ,
  ◌==◌,
  Bool,
  true,
  false,
  ◌&&◌,
  ◌||◌,
  List,
  map,
  Option,
  Some,
  None,
  is_some,
  is_none,
  if◌then◌else◌,
}
use Rattle.std.specs.Option.{option_map}
use Rattle.op_core.specs.declared.count.Order.{Order}
use Rattle.op_core.specs.declared.count.Order.TheVariants.{Write, Append}
use Rattle.path_core.specs.declared.event.Carried.{Carried}
use Rattle.path_core.specs.declared.event.Carried.TheVariants.{Nothing, Deposit, Applied}
use Rattle.path_core.specs.declared.event.ClaimKind.TheVariants.{Entry, Marker}
use Rattle.path_core.specs.declared.event.Cursor.TheVariants.{Synced, OldestLive, Stopped}
use Rattle.path_core.specs.declared.event.Event.{Event}
use Rattle.path_core.specs.declared.event.Event.TheVariants.{
  Look,
  Register,
  Close,
  OpenGroup,
  MoveCurrent,
  Expire,
  Advance,
  Claim,
  Switch,
  Raise,
  Finalise,
  TakeTurn,
  GiveTurn,
  Put,
}
use Rattle.path_core.specs.declared.event.Place.{Place}
use Rattle.path_core.specs.declared.event.Place.TheVariants.{
  Count,
  Current,
  Oldest,
  Log,
  Newest,
  Bound as BoundOf,
  TurnWord,
  CursorWord,
}
use Rattle.path_core.specs.declared.event.Reading.{Reading}
use Rattle.path_core.specs.declared.event.Reading.TheVariants.{Operations, Number, Limit}
use Rattle.path_core.specs.declared.event.SwitchPart.TheVariants.{Clear, Open as OpenPart, Mark}
use Rattle.path_core.specs.declared.event.Turn.TheVariants.{Sync, Flush}
use Rattle.path_core.specs.declared.seat.FlushTurn.{FlushTurn}
use Rattle.path_core.specs.declared.seat.Issue.TheVariants.{Rest, Opened, Moved}
use Rattle.path_core.specs.declared.seat.LastMarker.{LastMarker}
use Rattle.path_core.specs.declared.seat.Seat.{Seat}
use Rattle.path_core.specs.declared.seat.SeatTable.{SeatTable}
use Rattle.path_core.specs.declared.seat.Switching.{Switching}
use Rattle.path_core.specs.declared.seat.Switching.TheVariants.{
  Settled,
  Begun,
  Marked as MarkedStage,
  Waiting,
  WithBarrier,
}
use Rattle.path_core.specs.declared.seat.SyncTurn.{SyncTurn}
use Rattle.path_core.specs.declared.state.Bound.{Bound}
use Rattle.path_core.specs.declared.state.Bound.TheVariants.{Raising}
use Rattle.path_core.specs.Keys.{claim_start}
use Rattle.path_core.specs.Parts.{nothing_found, is_at}
use Rattle.op_core.specs.Tallies.{is_finished}
use Rattle.path_core.specs.SeatParts.{
  raised_to,
  made_final,
  is_raising,
  in_turn_groups,
  in_sync,
  at_table,
  in_flush,
  with_issue,
  current_found,
  oldest_found,
  finished_found,
  keeps,
  bound_found,
  reaches,
  log_found,
  barrier_issued,
  deposited_end,
  tries_bound,
  begins_at,
  has_note_of,
}

-- What a step tells its seat besides what stood at its place.
pub record Told : Type 0 where
  -- whether it gives a file
  pub files : Bool
  -- the last marker of the log
  pub marker : Option LastMarker

-- After a Look that found this.
abbrev pub looked : Seat → Place → Reading → Seat
looked s (Count order group) (Operations k) =
    if is_finished k then keeps order (finished_found group) s else s
looked s (Current order) (Number n) = keeps order (current_found n) s
looked s (Oldest order) (Number n) = keeps order (oldest_found n) s
looked s Log (Number n) =
    record s { found = record s.found { log = Some n }; tables = map (log_found n) s.tables }
looked s (Newest t) (Number n) =
    at_table t.0 (in_flush (λ (turn : FlushTurn). record turn { newest = Some n })) s
looked s (BoundOf t m) (Limit b) =
    at_table t.0 (λ (st : SeatTable). tries_bound (deposited_end s) m b (bound_found m b st)) s
looked s (TurnWord turn) (Number n) = s
looked s (CursorWord Synced) (Number n) =
    in_sync (λ (turn : SyncTurn). record turn { synced = Some n })
    (record s { found = record s.found { synced = Some n } })
looked s (CursorWord (OldestLive t)) (Number n) =
    at_table t.0 (λ (st : SeatTable). begins_at (has_note_of s t.0) n
    (in_flush (λ (turn : FlushTurn). record turn { oldest_live = Some n }) st)) s
looked s (CursorWord Stopped) (Number n) =
    in_sync (λ (turn : SyncTurn). record turn { stopped = Some n })
    (record s { found = record s.found { stopped = Some n } })
looked s _ _ = s

abbrev pub registered : Order → ℕ → Seat → Seat
registered Write group s = record s { write = Some group }
registered Append group s = record s { append = Some group }

-- An idle seat keeps its turns and what it found.
abbrev pub left_table : SeatTable → SeatTable
left_table st = record st { trying = None; place = None }

abbrev pub closed : Order → Carried → Seat → Seat
closed Append (Deposit note) s = record s { append = None; note = Some note.tables }
closed Append Nothing s = record s { append = None }
closed Append (Applied places) s = record s { append = None }
closed Write carried s =
    record s { write = None; claim = None; note = None; tables = map left_table s.tables }

-- A writer that found the bound of its try raising has its place.
abbrev pub raised_as_writer : Bool → ℕ → Bound → SeatTable → SeatTable
raised_as_writer deposited m b st =
    if deposited && is_at st.trying m && is_raising b then record st { place = Some m } else st

-- The turn's holder has raised the memtable that it marked.
abbrev pub raised_stage : ℕ → ℕ → Switching → Switching
raised_stage m to Settled = Settled
raised_stage m to (Begun n) = Begun n
raised_stage m to (MarkedStage k) =
    MarkedStage (record k { raised = k.raised || ((k.memtable == m) && is_at k.key to) })
raised_stage m to (Waiting n) = Waiting n
raised_stage m to (WithBarrier n group) = WithBarrier n group

abbrev pub raised_as_holder : ℕ → ℕ → SeatTable → SeatTable
raised_as_holder m to st =
    in_flush (λ (turn : FlushTurn). record turn { stage = raised_stage m to turn.stage }) st

-- The last marker, as the holder of the Sync turn claims it and issues its barrier.

abbrev pub marker_claimed : ℕ → ℕ → SyncTurn → SyncTurn
marker_claimed by start turn =
    let marker : LastMarker = record { by = by; start = start; barrier = None } in
    record turn { marker = Some marker }

-- A barrier is for the seat's own markers.
abbrev pub marker_barrier : ℕ → ℕ → LastMarker → LastMarker
marker_barrier by group k =
    if (k.by == by) && is_none k.barrier then record k { barrier = Some group } else k

abbrev pub marker_after : Order → ℕ → ℕ → Option LastMarker → Option LastMarker
marker_after Write by group marker = marker
marker_after Append by group marker = option_map (marker_barrier by group) marker

-- All of the seat's markers have their barrier then.
abbrev pub waits_after : Order → Bool → Bool
waits_after Write waits = waits
waits_after Append waits = false

-- The tables' switches after a barrier of an order was issued.
abbrev pub stages_after : Order → ℕ → List SeatTable → List SeatTable
stages_after Write group tables = map (barrier_issued group) tables
stages_after Append group tables = tables

-- A new group is current: the one before it is the barrier of what waited for one.
abbrev pub moved_turn : Order → ℕ → ℕ → ℕ → SyncTurn → SyncTurn
moved_turn order by before group turn =
    record (in_turn_groups order (current_found group) turn) {
      issue = Moved order;
      marker = marker_after order by before turn.marker;
    }

abbrev pub moved : Order → ℕ → ℕ → ℕ → Seat → Seat
moved order by before group s = record s {
  sync = option_map (moved_turn order by before group) s.sync;
  tables = stages_after order before s.tables;
  marker_waits = waits_after order s.marker_waits;
}

-- A turn that was just taken.

abbrev pub new_sync : Option LastMarker → SyncTurn
new_sync marker = record {
  issue = Rest;
  filed = false;
  marker = marker;
  write = nothing_found;
  append = nothing_found;
  synced = None;
  stopped = None;
}

abbrev pub new_flush : FlushTurn
new_flush = record {
  stage = Settled;
  newest = None;
  oldest_live = None;
  bound = None;
  cleared = None;
}

-- The place of the memtable to come is cleared, and then this memtable is made.

abbrev pub place_cleared : ℕ → SeatTable → SeatTable
place_cleared m st = in_flush (λ (turn : FlushTurn). record turn { cleared = Some m }) st

abbrev pub newest_made : ℕ → SeatTable → SeatTable
newest_made m st =
    in_flush (λ (turn : FlushTurn). record turn { newest = Some m; cleared = None }) st

-- the number that stood at a place, 0 where that is no number
abbrev pub number_read : Reading → ℕ
number_read (Operations k) = 0
number_read (Number n) = n
number_read (Limit b) = 0

-- The seat after its step, at whose place `found` stood.
abbrev pub seat_after : Seat → Event → Reading → Told → Seat
seat_after s (Look by at) found told = looked s at found
seat_after s (Register by order group) found told = registered order group s
seat_after s (Close by order group carried) found told = closed order carried s
seat_after s (OpenGroup by order group) found told = in_sync (with_issue (Opened order)) s
seat_after s (MoveCurrent by order group) found told = moved order by (number_read found) group s
seat_after s (Expire by order group) found told = in_sync (with_issue Rest) s
seat_after s (Advance by order group) found told = keeps order (oldest_found group) s
seat_after s (Claim by from to Entry) found told =
    record s {
      claim = Some (record { start = claim_start Entry from.0 to.0; end = to.0 });
      found = record s.found { log = Some to.0 };
    }
seat_after s (Claim by from to Marker) found told =
    in_sync (marker_claimed by (claim_start Marker from.0 to.0))
    (record s { found = record s.found { log = Some to.0 }; marker_waits = true })
seat_after s (Switch by table memtable Clear) found told =
    at_table table.0 (place_cleared memtable) s
seat_after s (Switch by table memtable OpenPart) found told =
    at_table table.0 (λ (st : SeatTable). reaches (Begun memtable) (newest_made memtable st)) s
seat_after s (Switch by table memtable Mark) found told =
    at_table table.0 (λ (st : SeatTable).
    reaches (MarkedStage (record { memtable = memtable; key = None; raised = false }))
    (bound_found memtable (Raising (record { 0 = 0 })) st)) s
seat_after s (Raise by table memtable to) (Limit b) files =
    at_table table.0 (λ (st : SeatTable). raised_as_holder memtable to.0
    (raised_as_writer (is_some s.note) memtable b
    (bound_found memtable (raised_to to.0 b) st))) s
seat_after s (Finalise by table memtable) (Limit b) files =
    at_table table.0 (λ (st : SeatTable).
    reaches (Waiting memtable) (bound_found memtable (made_final b) st)) s
seat_after s (TakeTurn by Sync) found told = record s { sync = Some (new_sync told.marker) }
seat_after s (TakeTurn by (Flush table)) found told =
    at_table table.0 (λ (st : SeatTable). record st { flush = Some new_flush }) s
seat_after s (GiveTurn by Sync) found told = record s { sync = None }
seat_after s (GiveTurn by (Flush table)) found told =
    at_table table.0 (λ (st : SeatTable). record st { flush = None }) s
seat_after s (Put by Synced value) found told =
    in_sync (λ (turn : SyncTurn). record turn { synced = Some value })
    (record s { found = record s.found { synced = Some value } })
seat_after s (Put by (OldestLive table) value) found told =
    in_sync (λ (turn : SyncTurn). record turn { filed = turn.filed || told.files })
    (at_table table.0 (in_flush (λ (turn : FlushTurn).
    record turn { oldest_live = Some value })) s)
seat_after s (Put by Stopped value) found told =
    in_sync (λ (turn : SyncTurn). record turn { stopped = Some value })
    (record s { found = record s.found { stopped = Some value } })
seat_after s _ _ _ = s
