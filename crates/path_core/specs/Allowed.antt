-- Which step is allowed in a state: a row for each kind.
--
-- A step that names a seat, table, memtable or group that there is not is not allowed; only the new
-- group and the new memtable that a row names need not be there.
use Rattle.std.specs.Prelude.{
  ◌≡◌,
  ◌≢◌,
  ℕ,
  suc,
  ◌+◌,
  ◌-◌,
  ◌^◌,
  ◌<◌,
  ◌≤◌,
  ◌==◌,
  Bool,
  true,
  false,
  ◌&&◌,
  ◌⊎◌,
  length,
  List,
  Option,
  Some,
  None,
  is_none,
  IsSome,
  IsTrue,
  count_ones,
}
use Rattle.std.specs.List.{list_any, Contains}
use Rattle.clog_base.specs.declared.cell.Table.{Table}
use Rattle.op_core.specs.declared.count.Order.{Order}
use Rattle.op_core.specs.declared.count.Order.TheVariants.{Write, Append}
use Rattle.op_core.specs.declared.count.Tally.TheVariants.{Expired}
use Rattle.op_core.specs.Tallies.{IsOpen, IsPassed}
use Rattle.path_core.specs.declared.event.Carried.{Carried}
use Rattle.path_core.specs.declared.event.Carried.TheVariants.{Nothing, Deposit, Applied}
use Rattle.path_core.specs.declared.event.ClaimKind.TheVariants.{Entry, Marker}
use Rattle.path_core.specs.declared.event.Cursor.TheVariants.{Synced, OldestLive, Stopped}
use Rattle.path_core.specs.declared.event.Event.{Event}
use Rattle.path_core.specs.declared.event.Event.TheVariants.{
  Look,
  Register,
  Close,
  OpenGroup,
  MoveCurrent,
  Expire,
  Advance,
  Claim,
  Switch,
  Raise,
  Finalise,
  TakeTurn,
  GiveTurn,
  Put,
}
use Rattle.path_core.specs.declared.event.Place.TheVariants.{Count, Bound, CursorWord}
use Rattle.path_core.specs.declared.event.SwitchPart.TheVariants.{Clear, Open, Mark}
use Rattle.path_core.specs.declared.event.Turn.{Turn}
use Rattle.path_core.specs.declared.event.Turn.TheVariants.{Sync, Flush}
use Rattle.path_core.specs.declared.note.EntryNote.{EntryNote}
use Rattle.path_core.specs.declared.seat.Issue.TheVariants.{Rest, Opened, Moved}
use Rattle.path_core.specs.declared.seat.Seat.{Seat}
use Rattle.path_core.specs.declared.state.Bound.TheVariants.{Live, Final}
use Rattle.path_core.specs.declared.state.Claim.{Claim as ClaimOf}
use Rattle.path_core.specs.declared.state.Memtable.{Memtable}
use Rattle.path_core.specs.declared.state.PathState.{PathState}
use Rattle.path_core.specs.Keys.{MovesLog, after}
use Rattle.path_core.specs.Parts.{
  groups_of,
  tally_of,
  seat_of,
  seat_table,
  table_of,
  memtable_of,
  claim_at,
  group_in,
  found_of,
  issue_of,
  marked_of,
  cleared_of,
  is_marker,
  is_entry,
  touches,
  holds_turn,
  HoldsTurn,
  HoldsNoTurn,
  IsIdle,
  is_final,
  HasPassedBarrier,
  is_empty,
}
use Rattle.path_core.specs.Words.{IsTurn, IsPlace, by_of}

-- What the step names is there.
abbrev pub IsThere : PathState → Event → Type 0
IsThere x (Look by at) = IsPlace x at
IsThere x (Register by order group) = IsPlace x (Count order group)
IsThere x (Close by order group carried) = IsPlace x (Count order group)
IsThere x (OpenGroup by order group) = Unit {0}
IsThere x (MoveCurrent by order group) = IsPlace x (Count order group)
IsThere x (Expire by order group) = IsPlace x (Count order group)
IsThere x (Advance by order group) = IsPlace x (Count order group)
IsThere x (Claim by from to what) = Unit {0}
IsThere x (Switch by table memtable Clear) = table.0 < length x.tables
IsThere x (Switch by table memtable Open) = table.0 < length x.tables
IsThere x (Switch by table memtable Mark) = IsPlace x (Bound table memtable)
IsThere x (Raise by table memtable to) = IsPlace x (Bound table memtable)
IsThere x (Finalise by table memtable) = IsPlace x (Bound table memtable)
IsThere x (TakeTurn by turn) = IsTurn x turn
IsThere x (GiveTurn by turn) = IsTurn x turn
IsThere x (Put by cursor value) = IsPlace x (CursorWord cursor)

-- Register: an idle seat in the write order; one that is in the write order only and has claimed
-- nothing, in the append order.
abbrev pub IsReadyFor : Order → Seat → Type 0
IsReadyFor Write s = IsIdle s
IsReadyFor Append s = IsSome s.write × (s.append ≡ None) × (s.claim ≡ None)

-- Close, Append: the note is of the seat's claim, and of tables that there are.
pub record IsOwnNote (by tables : ℕ) (s : Seat) (note : EntryNote) : Type 0 where
  pub range : s.claim ≡ Some (record { start = note.start.0; end = note.end.0 })
  pub writer : note.writer.0 ≡ by
  pub tables_are_there : note.tables < 2 ^ tables

-- Close, Write: these are exactly the seat's places, one for each table of its note.
pub record IsItsPlaces (s : Seat) (places : List (Table × ℕ)) : Type 0 where
  pub tables : ℕ
  pub deposited : s.note ≡ Some tables
  pub one_each : length places ≡ count_ones tables
  pub each : (t : ℕ) → IsTrue (touches tables t)
      → (m : ℕ) × ((seat_table s t).place ≡ Some m) × Contains places (record { 0 = t }, m)

-- Close: what the seat carries.
abbrev pub MayCarry : Order → ℕ → ℕ → Seat → Carried → Type 0
MayCarry Append by tables s Nothing = s.claim ≡ None
MayCarry Append by tables s (Deposit note) = IsOwnNote by tables s note
MayCarry Append by tables s (Applied places) = ⊥
MayCarry Write by tables s Nothing = (s.append ≡ None) × (s.claim ≡ None)
MayCarry Write by tables s (Deposit note) = ⊥
MayCarry Write by tables s (Applied places) = (s.append ≡ None) × IsItsPlaces s places

-- a memtable that waits for its barrier
abbrev pub is_unbarred : Memtable → Bool
is_unbarred m = is_final m.bound && is_none m.barrier

-- a marker of the seat that waits for its barrier
abbrev pub is_unbarred_marker : ℕ → ClaimOf → Bool
is_unbarred_marker by c = is_marker c && (c.by == by) && is_none c.barrier

-- A final memtable of a table whose turn the seat holds has no barrier.
pub record HasUnbarredMemtable (x : PathState) (by : ℕ) : Type 0 where
  pub table : ℕ
  pub is_there : table < length x.tables
  pub held : IsSome (seat_table (seat_of x by) table).flush
  pub unbarred : IsTrue (list_any is_unbarred (table_of x table).memtables)

-- OpenGroup: something waits for a barrier of the order.
abbrev pub WantsBarrier : Order → PathState → ℕ → Type 0
WantsBarrier Write x by = HasUnbarredMemtable x by
WantsBarrier Append x by = IsTrue (list_any (is_unbarred_marker by) x.claims)

-- an entry was claimed since the last marker
abbrev pub is_entry_last : PathState → Bool
is_entry_last x = is_entry (claim_at x (length x.claims - 1))

-- Raise: by a writer to the end of its claim, at the memtable that it tries.
pub record RaisesAsWriter (s : Seat) (t m to : ℕ) : Type 0 where
  pub deposited : IsSome s.note
  pub trying : (seat_table s t).trying ≡ Some m
  pub start : ℕ
  pub end : s.claim ≡ Some (record { start = start; end = to })

-- Raise: by the holder of the table's turn to a log key that it found after it marked the memtable.
pub record RaisesAsHolder (s : Seat) (t m to : ℕ) : Type 0 where
  pub raised : Bool
  pub marked : marked_of s t ≡ Some (record { memtable = m; key = Some to; raised = raised })

-- Finalise: the holder of the table's turn has raised the memtable that it marked.
pub record HasRaised (s : Seat) (t m : ℕ) : Type 0 where
  pub key : Option ℕ
  pub marked : marked_of s t ≡ Some (record { memtable = m; key = key; raised = true })

-- The newest switch of a table is through: the memtable below the newest has a passed barrier.
abbrev pub IsSettled : PathState → ℕ → Type 0
IsSettled x t =
    let newest = (table_of x t).newest in 0 < newest → HasPassedBarrier x t (newest - 1)

-- GiveTurn: nothing is left undone.
abbrev pub IsDone : PathState → ℕ → Turn → Type 0
IsDone x by Sync = issue_of (seat_of x by) ≡ Rest
IsDone x by (Flush t) = IsSettled x t.0

-- Put, Synced: the key is the start of a marker, and that one or one above it has a passed barrier.
pub record IsSyncPoint (x : PathState) (key : ℕ) : Type 0 where
  pub marker : ClaimOf
  pub claimed : Contains x.claims marker
  pub is : IsTrue (is_marker marker)
  pub start : marker.start ≡ key
  pub above : ClaimOf
  pub above_claimed : Contains x.claims above
  pub above_is : IsTrue (is_marker above)
  pub above_start : key ≤ above.start
  pub group : ℕ
  pub issued : above.barrier ≡ Some group
  pub passed : IsPassed x.append.tallies group

-- Put, OldestLive: a memtable that is not empty is filed, with the log lasting up to its bound.
pub record MayFile (x : PathState) (by t m : ℕ) : Type 0 where
  pub holds : HoldsTurn (seat_of x by) Sync
  pub runs : x.stopped ≡ 0
  pub bound : ℕ
  pub final : (memtable_of x t m).bound ≡ Final (record { 0 = bound })
  pub lasting : bound ≤ after x.capacity x.synced

-- OpenGroup: the holder of the Sync turn, while no barrier is being issued, makes the next group,
-- where a word is free for it: of 32 groups that follow one another each has its own.
abbrev pub MayOpenGroup : PathState → ℕ → Order → ℕ → Type 0
MayOpenGroup x by order group =
    let s = seat_of x by in
    HoldsTurn s Sync × (issue_of s ≡ Rest) × (group ≡ suc (groups_of x order).current)
    × (group ≤ (groups_of x order).oldest + 31)

-- The row of the step's kind.
abbrev pub Row : PathState → Event → Type 0
Row x (Look by at) = Unit {0}
Row x (Register by order group) =
    let s = seat_of x by in
    HoldsNoTurn s × IsReadyFor order s × ((found_of order s).current ≡ Some group)
    × IsOpen (tally_of x order group)
Row x (Close by order group carried) =
    let s = seat_of x by in
    (group_in order s ≡ Some group) × MayCarry order by (length x.tables) s carried
Row x (OpenGroup by order group) = MayOpenGroup x by order group × WantsBarrier order x by
Row x (MoveCurrent by order group) =
    (issue_of (seat_of x by) ≡ Opened order) × (group ≡ suc (groups_of x order).current)
Row x (Expire by order group) =
    (issue_of (seat_of x by) ≡ Moved order) × (suc group ≡ (groups_of x order).current)
    × IsOpen (tally_of x order group)
Row x (Advance by order group) =
    let groups = groups_of x order in
    HoldsTurn (seat_of x by) Sync × (group ≡ suc groups.oldest) × (group ≤ groups.current)
    × (tally_of x order groups.oldest ≡ Expired 0)
Row x (Claim by from to Entry) =
    let s = seat_of x by in
    IsSome s.write × IsSome s.append × (s.claim ≡ None) × (from.0 ≡ x.log)
    × MovesLog Entry x.capacity x.ordinals from.0 to.0
Row x (Claim by from to Marker) =
    HoldsTurn (seat_of x by) Sync × IsTrue (is_entry_last x) × (from.0 ≡ x.log)
    × MovesLog Marker x.capacity x.ordinals from.0 to.0
Row x (Switch by table memtable Clear) =
    let t = table_of x table.0 in
    HoldsTurn (seat_of x by) (Flush table) × (t.oldest_live ≡ t.newest) × (memtable ≡ suc t.newest)
Row x (Switch by table memtable Open) =
    let t = table_of x table.0 in
    HoldsTurn (seat_of x by) (Flush table) × (t.oldest_live ≡ t.newest) × (memtable ≡ suc t.newest)
    × (cleared_of (seat_of x by) table.0 ≡ Some memtable)
Row x (Switch by table memtable Mark) =
    HoldsTurn (seat_of x by) (Flush table) × (suc memtable ≡ (table_of x table.0).newest)
    × ((memtable_of x table.0 memtable).bound ≡ Live)
Row x (Raise by table memtable to) =
    let s = seat_of x by in
    ((memtable_of x table.0 memtable).bound ≢ Live)
    × (RaisesAsWriter s table.0 memtable to.0 ⊎ RaisesAsHolder s table.0 memtable to.0)
Row x (Finalise by table memtable) = HasRaised (seat_of x by) table.0 memtable
Row x (TakeTurn by turn) =
    IsIdle (seat_of x by) × ((w : ℕ) → holds_turn (seat_of x w) turn ≡ false)
Row x (GiveTurn by turn) = HoldsTurn (seat_of x by) turn × IsDone x by turn
Row x (Put by Synced value) =
    HoldsTurn (seat_of x by) Sync × (x.stopped ≡ 0) × (x.synced < value) × IsSyncPoint x value
Row x (Put by (OldestLive table) value) =
    let m = (table_of x table.0).oldest_live in
    HoldsTurn (seat_of x by) (Flush table) × (value ≡ suc m) × HasPassedBarrier x table.0 m
    × (IsTrue (is_empty x table.0 m) ⊎ MayFile x by table.0 m)
Row x (Put by Stopped value) =
    HoldsTurn (seat_of x by) Sync × (0 < value) × (x.stopped ≡ 0)

-- The step is allowed.
pub record IsAllowed (x : PathState) (e : Event) : Type 0 where
  pub seat : by_of e < length x.seats
  pub is_there : IsThere x e
  pub row : Row x e

-- The same, where a barrier may also be issued for nothing.
abbrev pub StepRow : PathState → Event → Type 0
StepRow x (OpenGroup by order group) = MayOpenGroup x by order group
StepRow x e = Row x e

-- What the law of the path needs of a step: that it is allowed, but for what a barrier is for.
pub record IsStep (x : PathState) (e : Event) : Type 0 where
  pub seat : by_of e < length x.seats
  pub is_there : IsThere x e
  pub row : StepRow x e
