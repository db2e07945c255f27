-- Parts of a seat, and how each changes.
use Rattle.std.specs.Prelude.{
  ℕ,
  ◌+◌,
  max,
  nat_le,
  Bool,
  true,
  false,
  set,
  Option,
  Some,
  None,
  is_some,
  if◌then◌else◌,
}
use Rattle.std.specs.Option.{option_map, option_map_or}
use Rattle.op_core.specs.declared.count.Order.{Order}
use Rattle.op_core.specs.declared.count.Order.TheVariants.{Write, Append}
use Rattle.path_core.specs.declared.seat.FlushTurn.{FlushTurn}
use Rattle.path_core.specs.declared.seat.FoundBound.{FoundBound}
use Rattle.path_core.specs.declared.seat.FoundGroups.{FoundGroups}
use Rattle.path_core.specs.declared.seat.Issue.{Issue}
use Rattle.path_core.specs.declared.seat.Range.{Range}
use Rattle.path_core.specs.declared.seat.Seat.{Seat}
use Rattle.path_core.specs.declared.seat.SeatTable.{SeatTable}
use Rattle.path_core.specs.declared.seat.Switching.{Switching}
use Rattle.path_core.specs.declared.seat.Switching.TheVariants.{
  Settled,
  Begun,
  Marked as MarkedStage,
  Waiting,
  WithBarrier,
}
use Rattle.path_core.specs.declared.seat.SyncTurn.{SyncTurn}
use Rattle.path_core.specs.declared.state.Bound.{Bound}
use Rattle.path_core.specs.declared.state.Bound.TheVariants.{Live, Raising, Final}
use Rattle.path_core.specs.Parts.{is_at, seat_table, touches}

-- A bound after a Raise, and after it was made final.

abbrev pub raised_to : ℕ → Bound → Bound
raised_to to Live = Live
raised_to to (Raising k) = Raising (record { 0 = max k.0 to })
raised_to to (Final k) = Final k

abbrev pub made_final : Bound → Bound
made_final Live = Live
made_final (Raising k) = Final k
made_final (Final k) = Final k

abbrev pub is_raising : Bound → Bool
is_raising Live = false
is_raising (Raising k) = true
is_raising (Final k) = false

-- live, or final at or above the end of a claim
abbrev pub takes : ℕ → Bound → Bool
takes end Live = true
takes end (Raising k) = false
takes end (Final k) = nat_le end k.0

-- final below the end of a claim
abbrev pub is_final_below : ℕ → Bound → Bool
is_final_below end Live = false
is_final_below end (Raising k) = false
is_final_below end (Final k) = if nat_le end k.0 then false else true

-- Parts of a seat, changed.

abbrev pub in_found : Order → (FoundGroups → FoundGroups) → Seat → Seat
in_found Write f s = record s { found = record s.found { write = f s.found.write } }
in_found Append f s = record s { found = record s.found { append = f s.found.append } }

abbrev pub in_turn_groups : Order → (FoundGroups → FoundGroups) → SyncTurn → SyncTurn
in_turn_groups Write f turn = record turn { write = f turn.write }
in_turn_groups Append f turn = record turn { append = f turn.append }

abbrev pub in_sync : (SyncTurn → SyncTurn) → Seat → Seat
in_sync f s = record s { sync = option_map f s.sync }

abbrev pub at_table : ℕ → (SeatTable → SeatTable) → Seat → Seat
at_table t f s = record s { tables = set s.tables t (f (seat_table s t)) }

abbrev pub in_flush : (FlushTurn → FlushTurn) → SeatTable → SeatTable
in_flush f st = record st { flush = option_map f st.flush }

abbrev pub with_issue : Issue → SyncTurn → SyncTurn
with_issue issue turn = record turn { issue = issue }

-- What it found of an order's groups, also under the Sync turn where it holds it.

abbrev pub current_found : ℕ → FoundGroups → FoundGroups
current_found n groups = record groups { current = Some n }

abbrev pub oldest_found : ℕ → FoundGroups → FoundGroups
oldest_found n groups = record groups { oldest = Some n }

abbrev pub finished_found : ℕ → FoundGroups → FoundGroups
finished_found g groups = record groups { finished = Some g }

abbrev pub keeps : Order → (FoundGroups → FoundGroups) → Seat → Seat
keeps order f s = in_sync (in_turn_groups order f) (in_found order f s)

-- The bound of a memtable, as it was found or put.

abbrev pub bound_found : ℕ → Bound → SeatTable → SeatTable
bound_found m b st =
    let found : FoundBound = record { memtable = m; bound = b } in
    in_flush (λ (turn : FlushTurn). record turn { bound = Some found })
    (record st { bound = Some found })

-- How far the holder of a table's turn has got with a switch.

-- A stage that is reached.
abbrev pub reaches : Switching → SeatTable → SeatTable
reaches stage st = in_flush (λ (turn : FlushTurn). record turn { stage = stage }) st

-- The log key, found since a memtable was marked.
abbrev pub key_found : ℕ → Switching → Switching
key_found n Settled = Settled
key_found n (Begun m) = Begun m
key_found n (MarkedStage k) = MarkedStage (record k { key = Some n })
key_found n (Waiting m) = Waiting m
key_found n (WithBarrier m group) = WithBarrier m group

abbrev pub log_found : ℕ → SeatTable → SeatTable
log_found n st =
    in_flush (λ (turn : FlushTurn). record turn { stage = key_found n turn.stage }) st

-- The barrier of a memtable that waited for one, once it is issued.
abbrev pub with_barrier : ℕ → Switching → Switching
with_barrier group Settled = Settled
with_barrier group (Begun m) = Begun m
with_barrier group (MarkedStage k) = MarkedStage k
with_barrier group (Waiting m) = WithBarrier m group
with_barrier group (WithBarrier m g) = WithBarrier m g

abbrev pub barrier_issued : ℕ → SeatTable → SeatTable
barrier_issued group st =
    in_flush (λ (turn : FlushTurn). record turn { stage = with_barrier group turn.stage }) st

-- The bound of the memtable that a deposited write tries: one that takes it is its place, after one
-- that is final below its end the next is tried.
abbrev pub tried : ℕ → ℕ → Bound → SeatTable → SeatTable
tried end m b st =
    if takes end b then record st { place = Some m }
    else (if is_final_below end b then record st { trying = Some (m + 1) } else st)

-- The end of the claim of a seat that has deposited its note, if it has.
abbrev pub deposited_end : Seat → Option ℕ
deposited_end s =
    if is_some s.note then option_map (λ (r : Range). r.end) s.claim else None

abbrev pub tries_bound : Option ℕ → ℕ → Bound → SeatTable → SeatTable
tries_bound None m b st = st
tries_bound (Some end) m b st = if is_at st.trying m then tried end m b st else st

-- The oldest live memtable is the first that a deposited write of the table tries.
abbrev pub begins_at : Bool → ℕ → SeatTable → SeatTable
begins_at true n st = if is_some st.trying then st else record st { trying = Some n }
begins_at false n st = st

-- whether the seat has deposited a note that touches the table
abbrev pub has_note_of : Seat → ℕ → Bool
has_note_of s t = option_map_or (λ (tables : ℕ). touches tables t) s.note false
