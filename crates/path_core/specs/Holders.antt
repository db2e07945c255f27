-- What the part of a turn's holder tells of its next steps, in each lawful state.
use Rattle.std.specs.Prelude.{◌≡◌, ℕ, suc, List, Option, Some, None}
use Rattle.op_core.specs.declared.count.Tally.{Tally}
use Rattle.op_core.specs.Tallies.{IsPassed}
use Rattle.op_core.specs.declared.count.Order.TheVariants.{Append}
use Rattle.path_core.specs.declared.event.ClaimKind.TheVariants.{Marker}
use Rattle.path_core.specs.declared.event.Event.{Event}
use Rattle.path_core.specs.declared.event.Event.TheVariants.{MoveCurrent, Claim}
use Rattle.path_core.specs.declared.seat.LastMarker.{LastMarker}
use Rattle.path_core.specs.declared.seat.Seat.{Seat}
use Rattle.path_core.specs.declared.seat.Switching.{Switching}
use Rattle.path_core.specs.declared.seat.Switching.TheVariants.{
  Settled,
  Begun,
  Marked as MarkedStage,
  Waiting,
  WithBarrier,
}
use Rattle.path_core.specs.declared.state.TableState.{TableState}
use Rattle.path_core.specs.Keys.{first_offset, behind_marker}
use Rattle.path_core.specs.Parts.{stage_of}

-- The newest switch is through: at rest it is, between its steps it is not, and with its barrier
-- once that is passed. The counts are those of the write order.
abbrev pub IsThrough : List Tally → Switching → Type 0
IsThrough tallies Settled = Unit {0}
IsThrough tallies (Begun m) = ⊥
IsThrough tallies (MarkedStage k) = ⊥
IsThrough tallies (Waiting m) = ⊥
IsThrough tallies (WithBarrier m group) = IsPassed tallies group

-- The oldest live memtable may be retired: it is the one below the newest, and its switch is
-- through.
pub record MayRetire (tallies : List Tally) (table : TableState) (stage : Switching) : Type 0 where
  pub below_newest : suc table.oldest_live ≡ table.newest
  pub through : IsThrough tallies stage

-- At a table whose turn the seat holds a final memtable waits for its barrier.
pub record HasWaiting (s : Seat) : Type 0 where
  pub table : ℕ
  pub memtable : ℕ
  pub waits : stage_of s table ≡ Some (Waiting memtable)

-- A marker's barrier is issued and passed. The counts are those of the append order.
abbrev pub IsPassedBarrier : List Tally → Option ℕ → Type 0
IsPassedBarrier tallies None = ⊥
IsPassedBarrier tallies (Some group) = IsPassed tallies group

-- where the log stood behind the last marker, or at first
abbrev pub behind_last : ℕ → Option LastMarker → ℕ
behind_last capacity None = first_offset
behind_last capacity (Some kept) = behind_marker capacity kept.start

-- Steps that change the last marker: the claim of one, and the move of the append order's current
-- group, which issues its barrier.
abbrev pub ChangesLastMarker : Event → Type 0
ChangesLastMarker (Claim by from to Marker) = Unit {0}
ChangesLastMarker (MoveCurrent by Append group) = Unit {0}
ChangesLastMarker _ = ⊥
