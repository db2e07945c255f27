-- What a seat found or put still stands, as far as a running seat relies on it.
use Rattle.std.specs.Prelude.{◌≡◌, ℕ, suc, ◌<◌, ◌≤◌, length, Some, None}
use Rattle.std.specs.List.{list_any}
use Rattle.op_core.specs.declared.count.Order.{Order}
use Rattle.op_core.specs.declared.count.Order.TheVariants.{Write, Append}
use Rattle.op_core.specs.declared.count.Tally.TheVariants.{Expired}
use Rattle.path_core.specs.declared.seat.FlushTurn.{FlushTurn}
use Rattle.path_core.specs.declared.seat.Found.{Found}
use Rattle.path_core.specs.declared.seat.FoundBound.{FoundBound}
use Rattle.path_core.specs.declared.seat.FoundGroups.{FoundGroups}
use Rattle.path_core.specs.declared.seat.Switching.{Switching}
use Rattle.path_core.specs.declared.seat.Switching.TheVariants.{
  Settled,
  Begun,
  Marked as MarkedStage,
  Waiting,
  WithBarrier,
}
use Rattle.path_core.specs.declared.seat.SyncTurn.{SyncTurn}
use Rattle.path_core.specs.declared.state.Bound.{Bound}
use Rattle.path_core.specs.declared.state.Bound.TheVariants.{Live, Raising, Final}
use Rattle.path_core.specs.declared.state.PathState.{PathState}
use Rattle.path_core.specs.declared.state.TableState.{TableState}
use Rattle.path_core.specs.Parts.{
  groups_of,
  tally_of,
  seat_of,
  seat_table,
  table_of,
  memtable_at,
  memtable_of,
  last_kept,
  IsFinal,
}
use Rattle.path_core.specs.Allowed.{is_unbarred_marker, IsSettled}
use Rattle.path_core.specs.LawfulTables.{MarkedIsRaising}

-- What was found of an order's groups.
pub record GroupsKnown (x : PathState) (order : Order) (found : FoundGroups) : Type 0 where
  pub current : (g : ℕ) → found.current ≡ Some g → g ≤ (groups_of x order).current
  pub oldest : (g : ℕ) → found.oldest ≡ Some g → g ≤ (groups_of x order).oldest
  -- a count found finished stays so
  pub finished : (g : ℕ) → found.finished ≡ Some g → tally_of x order g ≡ Expired 0

-- What the holder of the Sync turn found of them, or put there, is exact.
pub record GroupsExact (x : PathState) (order : Order) (found : FoundGroups) : Type 0 where
  pub current : (g : ℕ) → found.current ≡ Some g → g ≡ (groups_of x order).current
  pub oldest : (g : ℕ) → found.oldest ≡ Some g → g ≡ (groups_of x order).oldest
  pub finished : (g : ℕ) → found.finished ≡ Some g → tally_of x order g ≡ Expired 0

-- What any seat found: the log and the synced key only grow, and a stopped log stays stopped.
pub record WordsKnown (x : PathState) (found : Found) : Type 0 where
  pub write : GroupsKnown x Write found.write
  pub append : GroupsKnown x Append found.append
  pub log : (key : ℕ) → found.log ≡ Some key → key ≤ x.log
  pub synced : (key : ℕ) → found.synced ≡ Some key → key ≤ x.synced
  pub stopped : (n : ℕ) → found.stopped ≡ Some n → 0 < n → n ≡ x.stopped

-- What the holder of the Sync turn found or put while it held it is exact, and so is what it keeps
-- of the last marker, whoever claimed it.
pub record SyncExact (x : PathState) (turn : SyncTurn) : Type 0 where
  pub write : GroupsExact x Write turn.write
  pub append : GroupsExact x Append turn.append
  pub synced : (key : ℕ) → turn.synced ≡ Some key → key ≡ x.synced
  pub stopped : (n : ℕ) → turn.stopped ≡ Some n → n ≡ x.stopped
  pub marker : turn.marker ≡ last_kept x.claims

-- A bound never goes back: from live to raising, up, to final.
abbrev pub IsAtLeast : ℕ → Bound → Type 0
IsAtLeast key Live = ⊥
IsAtLeast key (Raising k) = key ≤ k.0
IsAtLeast key (Final k) = key ≤ k.0

abbrev pub BoundStays : Bound → Bound → Type 0
BoundStays Live now = Unit {0}
BoundStays (Raising k) now = IsAtLeast k.0 now
BoundStays (Final k) now = now ≡ Final k

-- For the holder of the table's turn it is still live or raising.
abbrev pub IsRaisingFrom : ℕ → Bound → Type 0
IsRaisingFrom key Live = ⊥
IsRaisingFrom key (Raising k) = key ≤ k.0
IsRaisingFrom key (Final k) = ⊥

abbrev pub BoundExact : Bound → Bound → Type 0
BoundExact Live now = now ≡ Live
BoundExact (Raising k) now = IsRaisingFrom k.0 now
BoundExact (Final k) now = now ≡ Final k

-- What a seat found of a memtable's bound: the memtable is made.
pub record BoundKnown (x : PathState) (t : ℕ) (found : FoundBound) : Type 0 where
  pub made : found.memtable < length (table_of x t).memtables
  pub stays : BoundStays found.bound (memtable_of x t found.memtable).bound

-- How far a switch is, at each stage that the holder of a table's turn keeps of it.

-- A memtable is the newest, and the one below it is live.
pub record IsBegun (table : TableState) (m : ℕ) : Type 0 where
  pub newest : m ≡ table.newest
  pub below : ℕ
  pub before : m ≡ suc below
  pub live : (memtable_at table below).bound ≡ Live

-- The memtable below the newest is final, and waits for its barrier.
pub record IsWaiting (table : TableState) (m : ℕ) : Type 0 where
  pub below_newest : suc m ≡ table.newest
  pub final : IsFinal (memtable_at table m).bound
  pub no_barrier : (memtable_at table m).barrier ≡ None

-- The barrier of the memtable below the newest is issued.
pub record HasBarrier (table : TableState) (m group : ℕ) : Type 0 where
  pub below_newest : suc m ≡ table.newest
  pub issued : (memtable_at table m).barrier ≡ Some group

abbrev pub StageIs : PathState → ℕ → Switching → Type 0
StageIs x t Settled = IsSettled x t
StageIs x t (Begun m) = IsBegun (table_of x t) m
StageIs x t (MarkedStage k) = MarkedIsRaising x.log (table_of x t) k
StageIs x t (Waiting m) = IsWaiting (table_of x t) m
StageIs x t (WithBarrier m group) = HasBarrier (table_of x t) m group

-- What the holder of a table's turn found or put while it held it is exact, and so is the stage of
-- its switch.
pub record FlushExact (x : PathState) (t : ℕ) (turn : FlushTurn) : Type 0 where
  pub newest : (n : ℕ) → turn.newest ≡ Some n → n ≡ (table_of x t).newest
  pub oldest_live : (n : ℕ) → turn.oldest_live ≡ Some n → n ≡ (table_of x t).oldest_live
  pub bound : (found : FoundBound) → turn.bound ≡ Some found
      → BoundExact found.bound (memtable_of x t found.memtable).bound
  -- the place is cleared for the memtable to come
  pub cleared : (m : ℕ) → turn.cleared ≡ Some m → m ≡ suc (table_of x t).newest
  pub stage : StageIs x t turn.stage

-- What a seat knows.
pub record SeatKnows (x : PathState) (w : ℕ) : Type 0 where
  pub words : WordsKnown x (seat_of x w).found
  pub sync : (turn : SyncTurn) → (seat_of x w).sync ≡ Some turn → SyncExact x turn
  pub bounds : (t : ℕ) (found : FoundBound) → (seat_table (seat_of x w) t).bound ≡ Some found
      → BoundKnown x t found
  pub flush : (t : ℕ) (turn : FlushTurn) → (seat_table (seat_of x w) t).flush ≡ Some turn
      → FlushExact x t turn
  -- whether one of its markers has no barrier
  pub marker_waits : (seat_of x w).marker_waits ≡ list_any (is_unbarred_marker w) x.claims
