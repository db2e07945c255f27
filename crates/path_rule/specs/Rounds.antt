-- The steps of barriers and of syncs, and what a seat keeps that makes no others.
use Rattle.std.specs.Prelude.{◌≡◌, ℕ, ◌≤◌, false, List, [], ◌∷◌, ◌++◌, Some, None}
use Rattle.path_core.specs.declared.event.Carried.TheVariants.{Deposit}
use Rattle.path_core.specs.declared.event.ClaimKind.TheVariants.{Marker}
use Rattle.path_core.specs.declared.event.Cursor.TheVariants.{Synced, Stopped}
use Rattle.path_core.specs.declared.event.Event.{Event}
use Rattle.path_core.specs.declared.event.Event.TheVariants.{Look, Close, OpenGroup, MoveCurrent}
use Rattle.path_core.specs.declared.event.Event.TheVariants.{Expire, Advance, Claim, TakeTurn}
use Rattle.path_core.specs.declared.event.Event.TheVariants.{GiveTurn, Put}
use Rattle.path_core.specs.declared.event.Place.TheVariants.{Count, Current, Oldest, Log, TurnWord}
use Rattle.path_core.specs.declared.event.Place.TheVariants.{CursorWord}
use Rattle.path_core.specs.declared.event.Turn.TheVariants.{Sync}
use Rattle.path_core.specs.declared.seat.FlushTurn.{FlushTurn}
use Rattle.path_core.specs.declared.seat.Seat.{Seat}
use Rattle.path_core.specs.declared.seat.SeatTable.{SeatTable}
use Rattle.path_core.specs.declared.seat.Switching.{Switching}
use Rattle.path_core.specs.declared.seat.Switching.TheVariants.{Begun, Marked, Settled, Waiting}
use Rattle.path_core.specs.declared.seat.Switching.TheVariants.{WithBarrier}
use Rattle.path_core.specs.Next.{has_filed}
use Rattle.path_core.specs.Parts.{IsIdle, seat_table}
use Rattle.path_rule.specs.declared.view.OwnStep.{OwnStep}
use Rattle.path_rule.specs.declared.view.View.{View}
use Rattle.path_rule.specs.Issued.{issued_in}

-- seat w makes the step for a barrier or a sync
abbrev pub IsRoundStep : ℕ → Event → Type 0
IsRoundStep w (Look by (Count order g)) = by ≡ w
IsRoundStep w (Look by (Current order)) = by ≡ w
IsRoundStep w (Look by (Oldest order)) = by ≡ w
IsRoundStep w (Look by Log) = by ≡ w
IsRoundStep w (Look by (TurnWord Sync)) = by ≡ w
IsRoundStep w (Look by (CursorWord Synced)) = by ≡ w
IsRoundStep w (Look by (CursorWord Stopped)) = by ≡ w
IsRoundStep w (OpenGroup by order g) = by ≡ w
IsRoundStep w (MoveCurrent by order g) = by ≡ w
IsRoundStep w (Expire by order g) = by ≡ w
IsRoundStep w (Advance by order g) = by ≡ w
IsRoundStep w (Claim by from to Marker) = by ≡ w
IsRoundStep w (TakeTurn by Sync) = by ≡ w
IsRoundStep w (GiveTurn by Sync) = by ≡ w
IsRoundStep w (Put by Synced value) = by ≡ w
IsRoundStep w (Put by Stopped value) = by ≡ w
IsRoundStep w _ = ⊥

-- each of these is such a step
abbrev pub AreRoundSteps : ℕ → List OwnStep → Type 0
AreRoundSteps w [] = Unit {0}
AreRoundSteps w (t ∷ ts) = IsRoundStep w t.event × AreRoundSteps w ts

-- those that put a cursor
abbrev pub with_put : Event → List Event → List Event
with_put (Put by cursor value) puts = Put by cursor value ∷ puts
with_put _ puts = puts

abbrev pub puts_of : List OwnStep → List Event
puts_of [] = []
puts_of (t ∷ ts) = with_put t.event (puts_of ts)

-- The seat runs no write, and has no table's turn.
pub record IsAtRest (p : Seat) : Type 0 where
  pub idle : IsIdle p
  pub unclaimed : p.claim ≡ None
  pub flush : (t : ℕ) → (seat_table p t).flush ≡ None

-- No log key and no barrier changes what the holder of a table's turn knows of its switch: none is
-- marked, and none waits for its barrier.
abbrev pub IsQuietStage : Switching → Type 0
IsQuietStage Settled = Unit {0}
IsQuietStage (Begun m) = Unit {0}
IsQuietStage (Marked k) = ⊥
IsQuietStage (Waiting m) = ⊥
IsQuietStage (WithBarrier m group) = Unit {0}

abbrev pub IsQuiet : SeatTable → Type 0
IsQuiet st = (turn : FlushTurn) → st.flush ≡ Some turn → IsQuietStage turn.stage

-- Seat w went from one view to another by such steps alone, of which at most n issued a barrier,
-- and these put a cursor, the newest first. Where it ran no write it runs none, and it filed
-- nothing with the turn in hand.
pub record RoundSteps (w n : ℕ) (puts : List Event) (v after : View) : Type 0 where
  pub steps : List OwnStep
  pub trail : after.trail ≡ steps ++ v.trail
  pub are : AreRoundSteps w steps
  pub issues : issued_in steps ≤ n
  pub puts_are : puts_of steps ≡ puts
  pub rests : IsAtRest v.part → IsAtRest after.part
  pub idles : IsIdle v.part → v.part.claim ≡ None → IsIdle after.part × (after.part.claim ≡ None)
  pub tables : (t : ℕ) → IsQuiet (seat_table v.part t)
      → seat_table after.part t ≡ seat_table v.part t
  pub reading : after.hands.reading ≡ v.hands.reading
  pub unfiled : has_filed v.part ≡ false → has_filed after.part ≡ false
  pub returned : after.returned ≡ v.returned
  pub size : after.size ≡ v.size

-- Each note that the seat deposited ends at or below a key.
abbrev pub EndsBelow : ℕ → Event → Type 0
EndsBelow key (Close by order g (Deposit note)) = note.end.0 ≤ key
EndsBelow key _ = Unit {0}

abbrev pub WroteBelow : ℕ → List OwnStep → Type 0
WroteBelow key [] = Unit {0}
WroteBelow key (t ∷ ts) = EndsBelow key t.event × WroteBelow key ts
