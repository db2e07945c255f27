-- What is true of the groups of an order in each state, and of the turns.
use Rattle.std.specs.Prelude.{◌≡◌, ℕ, suc, ◌+◌, ◌<◌, ◌≤◌, Bool, ◌⊎◌, List, length, get_or, Some}
use Rattle.std.specs.Prelude.{None, IsSome}
use Rattle.std.specs.List.{count_by}
use Rattle.op_core.specs.declared.count.Order.{Order}
use Rattle.op_core.specs.declared.count.Order.TheVariants.{Write, Append}
use Rattle.op_core.specs.declared.count.Tally.{Tally}
use Rattle.op_core.specs.declared.count.Tally.TheVariants.{Open, Expired}
use Rattle.op_core.specs.Tallies.{running_of, IsOpen, tally_at}
use Rattle.path_core.specs.declared.event.Turn.{Turn}
use Rattle.path_core.specs.declared.seat.Issue.{Issue}
use Rattle.path_core.specs.declared.seat.Issue.TheVariants.{Rest, Opened, Moved}
use Rattle.path_core.specs.declared.seat.Range.{Range}
use Rattle.path_core.specs.declared.seat.Seat.{Seat}
use Rattle.path_core.specs.declared.seat.SyncTurn.{SyncTurn}
use Rattle.path_core.specs.declared.state.OrderGroups.{OrderGroups}
use Rattle.path_core.specs.declared.state.PathState.{PathState}
use Rattle.path_core.specs.Parts.{fresh_seat, groups_of, seat_of, seat_table, group_in, found_of}
use Rattle.path_core.specs.Parts.{is_at, HoldsTurn}
use Rattle.path_core.specs.Allowed.{IsSettled}

abbrev pub seat_in : List Seat → ℕ → Seat
seat_in seats w = get_or seats w fresh_seat

abbrev pub is_in : Order → ℕ → Seat → Bool
is_in order group s = is_at (group_in order s) group

-- What is true of the count of a group.
pub record GroupIs (issue : Issue) (order : Order) (current oldest group : ℕ) (count : Tally) :
    Type 0 where
  -- below the current one it is expired, but the one that is being replaced
  pub below_current : group < current → IsOpen count → (suc group ≡ current) × (issue ≡ Moved order)
  pub replaced : issue ≡ Moved order → suc group ≡ current → IsOpen count
  pub below_oldest : group < oldest → count ≡ Expired 0
  pub now : group ≡ current → IsOpen count
  -- the group that an issue has made is open and empty until it is current
  pub opened : issue ≡ Opened order → group ≡ suc current → count ≡ Open 0

-- An order's counts stand for the seats in its groups.
pub record CountsOf (issue : Issue) (order : Order) (groups : OrderGroups) (seats : List Seat) :
    Type 0 where
  pub counted : (g : ℕ) → running_of (tally_at groups.tallies g) ≡ count_by (is_in order g) seats
  pub each : (g : ℕ) → GroupIs issue order groups.current groups.oldest g
      (tally_at groups.tallies g)
  pub nobody_below : (w g : ℕ) → group_in order (seat_in seats w) ≡ Some g → groups.oldest ≤ g

abbrev pub CountsStand : Issue → PathState → Order → Type 0
CountsStand issue x order = CountsOf issue order (groups_of x order) x.seats

-- how many groups of an order were made
abbrev pub made_at : Issue → Order → ℕ → ℕ
made_at Rest order current = suc current
made_at (Moved o) order current = suc current
made_at (Opened Write) Write current = suc (suc current)
made_at (Opened Write) Append current = suc current
made_at (Opened Append) Write current = suc current
made_at (Opened Append) Append current = suc (suc current)

-- The groups made are those to the current one, and the next one while an issue is about to move.
pub record MadeOf (issue : Issue) (order : Order) (groups : OrderGroups) (seats : List Seat) :
    Type 0 where
  pub made : length groups.tallies ≡ made_at issue order groups.current
  pub oldest : groups.oldest ≤ groups.current
  -- the group that a seat found as current is made
  pub found : (w g : ℕ) → (found_of order (seat_in seats w)).current ≡ Some g
      → g ≤ groups.current

abbrev pub GroupsMade : Issue → PathState → Order → Type 0
GroupsMade issue x order = MadeOf issue order (groups_of x order) x.seats

-- Of an order at most 32 groups were made from the oldest on, so that each of them may have one of
-- 32 words for itself.
abbrev pub GroupsAreFew : PathState → Type 0
GroupsAreFew x =
    (order : Order) → length (groups_of x order).tallies ≤ (groups_of x order).oldest + 32

-- Each turn has at most one holder, and an issue that is unfinished has one.
pub record TurnsHeld (issue : Issue) (seats : List Seat) : Type 0 where
  pub one : (turn : Turn) (v w : ℕ) → HoldsTurn (seat_in seats v) turn
      → HoldsTurn (seat_in seats w) turn → v ≡ w
  -- the issue that stands is the Sync turn's holder's
  pub issue_is : (w : ℕ) (turn : SyncTurn) → (seat_in seats w).sync ≡ Some turn
      → turn.issue ≡ issue
  pub no_issue : ((w : ℕ) → (seat_in seats w).sync ≡ None) → issue ≡ Rest
  -- a holder is in no group
  pub holder_is_idle : (turn : Turn) (w : ℕ) → HoldsTurn (seat_in seats w) turn
      → ((seat_in seats w).write ≡ None) × ((seat_in seats w).append ≡ None)

-- A switch that is not through has a holder of the table's turn.
abbrev pub SwitchesHeld : PathState → Type 0
SwitchesHeld x = (t : ℕ) → t < length x.tables
    → IsSettled x t ⊎ ((w : ℕ) × IsSome (seat_table (seat_of x w) t).flush)

-- How the orders nest in a seat: in the append order only within the write order; with a claim in
-- the write order, and in the append order exactly until it is deposited.
pub record OrdersNest (s : Seat) : Type 0 where
  pub append : (g : ℕ) → s.append ≡ Some g → IsSome s.write
  pub claim : (r : Range) → s.claim ≡ Some r → IsSome s.write
  pub undeposited : (r : Range) → s.claim ≡ Some r → s.note ≡ None → IsSome s.append
  pub deposited : (tables : ℕ) → s.note ≡ Some tables → (s.append ≡ None) × IsSome s.claim

-- What is true of groups and turns.
pub record IsOrderly (x : PathState) : Type 0 where
  -- the unfinished issue of a barrier
  pub issue : Issue
  pub counts_stand_for_seats : (order : Order) → CountsStand issue x order
  pub made_groups : (order : Order) → GroupsMade issue x order
  pub one_holder_a_turn : TurnsHeld issue x.seats
  pub orders_nest : (w : ℕ) → OrdersNest (seat_of x w)
