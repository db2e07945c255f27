-- The parts of the state, read with a default where there is none, and what they are asked.
use Rattle.std.specs.Prelude.{
  ◌≡◌,
  ℕ,
  ◌==◌,
  Bool,
  true,
  false,
  not,
  ◌&&◌,
  IsTrue,
  List,
  [],
  ◌∷◌,
  get_or,
  replicate,
  Option,
  Some,
  None,
  is_some,
  if◌then◌else◌,
}
use Rattle.std.specs.List.{list_any, fold}
use Rattle.std.specs.Option.{option_map, option_map_or, option_and_then}
use Rattle.std.specs.Int.{bit_at}
use Rattle.op_core.specs.declared.count.Order.{Order}
use Rattle.op_core.specs.declared.count.Order.TheVariants.{Write, Append}
use Rattle.op_core.specs.declared.count.Tally.{Tally}
use Rattle.op_core.specs.Tallies.{tally_at, IsPassed}
use Rattle.path_core.specs.declared.event.ClaimKind.{ClaimKind}
use Rattle.path_core.specs.declared.event.ClaimKind.TheVariants.{Entry, Marker}
use Rattle.path_core.specs.declared.event.Turn.{Turn}
use Rattle.path_core.specs.declared.event.Turn.TheVariants.{Sync, Flush}
use Rattle.path_core.specs.declared.seat.Seat.{Seat}
use Rattle.path_core.specs.declared.seat.SeatTable.{SeatTable}
use Rattle.path_core.specs.declared.seat.FoundGroups.{FoundGroups}
use Rattle.path_core.specs.declared.seat.Found.{Found}
use Rattle.path_core.specs.declared.seat.FlushTurn.{FlushTurn}
use Rattle.path_core.specs.declared.seat.Marked.{Marked}
use Rattle.path_core.specs.declared.seat.Issue.{Issue}
use Rattle.path_core.specs.declared.seat.Issue.TheVariants.{Rest}
use Rattle.path_core.specs.declared.seat.LastMarker.{LastMarker}
use Rattle.path_core.specs.declared.seat.Switching.{Switching}
use Rattle.path_core.specs.declared.seat.Switching.TheVariants.{
  Settled,
  Begun,
  Marked as MarkedStage,
  Waiting,
  WithBarrier,
}
use Rattle.path_core.specs.declared.seat.SyncTurn.{SyncTurn}
use Rattle.path_core.specs.declared.state.Bound.{Bound}
use Rattle.path_core.specs.declared.state.Bound.TheVariants.{Live, Raising, Final}
use Rattle.path_core.specs.declared.state.Claim.{Claim}
use Rattle.path_core.specs.declared.state.Memtable.{Memtable}
use Rattle.path_core.specs.declared.state.OrderGroups.{OrderGroups}
use Rattle.path_core.specs.declared.state.PathState.{PathState}
use Rattle.path_core.specs.declared.state.Placed.{Placed}
use Rattle.path_core.specs.declared.state.TableState.{TableState}
use Rattle.path_core.specs.declared.state.WrittenFile.{WrittenFile}
use Rattle.path_core.specs.Keys.{ordinal_of}

-- Defaults: a seat that never did anything, and the like.

abbrev pub nothing_found : FoundGroups
nothing_found = record { current = None; oldest = None; finished = None }

abbrev pub found_at_first : Found
found_at_first = record {
  write = nothing_found;
  append = nothing_found;
  log = None;
  synced = None;
  stopped = None;
}

abbrev pub untouched : SeatTable
untouched = record { trying = None; place = None; bound = None; flush = None }

abbrev pub fresh_seat : Seat
fresh_seat = record {
  write = None;
  append = None;
  claim = None;
  note = None;
  tables = replicate 16 untouched;
  marker_waits = false;
  sync = None;
  found = found_at_first;
}

abbrev pub fresh_memtable : Memtable
fresh_memtable = record { bound = Live; mark = None; barrier = None }

abbrev pub fresh_table : TableState
fresh_table = record { newest = 0; oldest_live = 0; memtables = fresh_memtable ∷ [] }

abbrev pub no_claim : Claim
no_claim = record { by = 0; start = 0; end = 0; what = Marker; barrier = None }

-- Reading a part.

abbrev pub groups_of : PathState → Order → OrderGroups
groups_of x Write = x.write
groups_of x Append = x.append

abbrev pub tally_of : PathState → Order → ℕ → Tally
tally_of x order group = tally_at (groups_of x order).tallies group

abbrev pub seat_of : PathState → ℕ → Seat
seat_of x w = get_or x.seats w fresh_seat

abbrev pub seat_table : Seat → ℕ → SeatTable
seat_table s t = get_or s.tables t untouched

abbrev pub table_of : PathState → ℕ → TableState
table_of x t = get_or x.tables t fresh_table

abbrev pub memtable_at : TableState → ℕ → Memtable
memtable_at table m = get_or table.memtables m fresh_memtable

abbrev pub memtable_of : PathState → ℕ → ℕ → Memtable
memtable_of x t m = memtable_at (table_of x t) m

abbrev pub claim_at : PathState → ℕ → Claim
claim_at x i = get_or x.claims i no_claim

-- the group of an order that a seat is in
abbrev pub group_in : Order → Seat → Option ℕ
group_in Write s = s.write
group_in Append s = s.append

-- what a seat found of an order's groups
abbrev pub found_of : Order → Seat → FoundGroups
found_of Write s = s.found.write
found_of Append s = s.found.append

-- the issue of a barrier that a seat is at
abbrev pub issue_of : Seat → Issue
issue_of s = option_map_or (λ (turn : SyncTurn). turn.issue) s.sync Rest

-- the last marker of the log, as the holder of the Sync turn keeps it
abbrev pub marker_of : Seat → Option LastMarker
marker_of s = option_and_then (λ (turn : SyncTurn). turn.marker) s.sync

-- how far the holder of a table's turn has got with a switch
abbrev pub stage_of : Seat → ℕ → Option Switching
stage_of s t = option_map (λ (turn : FlushTurn). turn.stage) (seat_table s t).flush

-- the memtable that is marked at a stage of a switch
abbrev pub marked_in : Switching → Option Marked
marked_in Settled = None
marked_in (Begun m) = None
marked_in (MarkedStage k) = Some k
marked_in (Waiting m) = None
marked_in (WithBarrier m group) = None

-- the memtable that the holder of a table's turn has marked
abbrev pub marked_of : Seat → ℕ → Option Marked
marked_of s t = option_and_then (λ (turn : FlushTurn). marked_in turn.stage) (seat_table s t).flush

-- the memtable to come whose place the holder of a table's turn has cleared
abbrev pub cleared_of : Seat → ℕ → Option ℕ
cleared_of s t = option_and_then (λ (turn : FlushTurn). turn.cleared) (seat_table s t).flush

-- Asking a part.

abbrev pub is_at : Option ℕ → ℕ → Bool
is_at None n = false
is_at (Some m) n = m == n

abbrev pub is_marker_kind : ClaimKind → Bool
is_marker_kind Entry = false
is_marker_kind Marker = true

abbrev pub is_marker : Claim → Bool
is_marker c = is_marker_kind c.what

abbrev pub is_entry : Claim → Bool
is_entry c = not (is_marker c)

-- an entry of the segment of an ordinal
abbrev pub is_entry_in : ℕ → Claim → Bool
is_entry_in o c = is_entry c && (ordinal_of c.start == o)

-- the last marker among claims, if there is one
abbrev pub last_among : List Claim → Option Claim
last_among claims =
    fold (λ (o : Option Claim) (c : Claim). if is_marker c then Some c else o) None claims

-- the last marker of the log
abbrev pub last_marker : PathState → Option Claim
last_marker x = last_among x.claims

-- the last marker among claims, as it is kept
abbrev pub kept_of : Claim → LastMarker
kept_of c = record { by = c.by; start = c.start; barrier = c.barrier }

abbrev pub last_kept : List Claim → Option LastMarker
last_kept claims = option_map kept_of (last_among claims)

-- whether a set of tables, bit t for table t, holds a table
abbrev pub touches : ℕ → ℕ → Bool
touches tables t = bit_at tables t == 1

abbrev pub holds_turn : Seat → Turn → Bool
holds_turn s Sync = is_some s.sync
holds_turn s (Flush t) = is_some (seat_table s t.0).flush

abbrev pub HoldsTurn : Seat → Turn → Type 0
HoldsTurn s turn = IsTrue (holds_turn s turn)

pub record HoldsNoTurn (s : Seat) : Type 0 where
  pub sync : s.sync ≡ None
  pub flush : (t : ℕ) → (seat_table s t).flush ≡ None

-- in no group
pub record IsIdle (s : Seat) : Type 0 where
  pub write : s.write ≡ None
  pub append : s.append ≡ None

abbrev pub IsFinal : Bound → Type 0
IsFinal Live = ⊥
IsFinal (Raising k) = ⊥
IsFinal (Final k) = Unit {0}

abbrev pub is_final : Bound → Bool
is_final Live = false
is_final (Raising k) = false
is_final (Final k) = true

-- the key of a bound, 0 where it is live
abbrev pub key_of_bound : Bound → ℕ
key_of_bound Live = 0
key_of_bound (Raising k) = k.0
key_of_bound (Final k) = k.0

-- The barrier that was issued for a memtable is passed.
pub record HasPassedBarrier (x : PathState) (t m : ℕ) : Type 0 where
  pub group : ℕ
  pub issued : (memtable_of x t m).barrier ≡ Some group
  pub passed : IsPassed x.write.tallies group

-- an entry of a closed write was placed in a memtable
abbrev pub is_placed_in : ℕ → ℕ → Placed → Bool
is_placed_in t m p = (p.table == t) && (p.memtable == m)

-- a running write has its place there
abbrev pub has_place : ℕ → ℕ → Seat → Bool
has_place t m s = is_at (seat_table s t).place m

-- no write was placed there; a running one counts as placed where its seat has a place
abbrev pub is_empty : PathState → ℕ → ℕ → Bool
is_empty x t m =
    not (list_any (is_placed_in t m) x.placed) && not (list_any (has_place t m) x.seats)

-- the upper bound of a table's last file, key 0 where there is none
abbrev pub last_upper : List WrittenFile → ℕ → ℕ
last_upper files t = fold (λ (k : ℕ) (f : WrittenFile). if f.table == t then f.upper else k) 0 files
