-- What a sync answers, and what is so then of its seat.
use Rattle.std.specs.Prelude.{◌≡◌, ◌⊎◌, ℕ, ◌<◌, ◌≤◌, List, [], ◌∷◌, Option, Some, None, Result, Ok}
use Rattle.std.specs.Prelude.{Err}
use Rattle.std.specs.Option.{option_map_or}
use Rattle.path_core.specs.declared.event.Cursor.TheVariants.{Synced, Stopped as StoppedCursor}
use Rattle.path_core.specs.declared.event.Event.{Event}
use Rattle.path_core.specs.declared.event.Event.TheVariants.{Put}
use Rattle.path_core.specs.declared.event.Place.TheVariants.{CursorWord}
use Rattle.path_core.specs.declared.keeper.KeeperFault.{KeeperFault}
use Rattle.path_core.specs.declared.keeper.KeeperFault.TheVariants.{Stopped as KeeperStopped}
use Rattle.path_core.specs.declared.keeper.KeeperFault.TheVariants.{
  OutOfMemory as KeeperOutOfMemory,
}
use Rattle.path_core.specs.declared.seat.LastMarker.{LastMarker}
use Rattle.path_core.specs.declared.seat.SyncTurn.{SyncTurn}
use Rattle.path_core.specs.Keeper.{HasRisen}
use Rattle.path_rule.specs.declared.answer.SyncAnswer.{SyncAnswer}
use Rattle.path_rule.specs.declared.answer.SyncAnswer.TheVariants.{Done, Stopped, OutOfMemory}
use Rattle.path_rule.specs.declared.view.OwnStep.{OwnStep}
use Rattle.path_rule.specs.declared.view.View.{View}
use Rattle.path_rule.specs.Finds.{Finds}
use Rattle.path_rule.specs.Rounds.{RoundSteps, WroteBelow}

-- The last marker that the holder of the Sync turn keeps is the one that the desk tells.
abbrev pub KnowsMarker : View → Type 0
KnowsMarker v = (t : SyncTurn) × (v.part.sync ≡ Some t) × (t.marker ≡ v.hands.progress.marker)

-- where the last marker starts, 0 before the first
abbrev pub marker_start : Option LastMarker → ℕ
marker_start kept = option_map_or (λ (k : LastMarker). k.start) kept 0

-- the end of a sync as an answer
abbrev pub said_by : Result ℕ KeeperFault → SyncAnswer
said_by (Ok synced) = Done synced
said_by (Err (KeeperStopped at_open now)) = Stopped at_open now
said_by (Err KeeperOutOfMemory) = OutOfMemory

-- at most this one
abbrev pub AtMost : Event → List Event → Type 0
AtMost e puts = (puts ≡ []) ⊎ (puts ≡ e ∷ [])

-- What is so behind an answer, where `opened` is the count of faults at the keeper's opening, and
-- the seat put these cursors. Done: all that the seat wrote ends at or below the synced key that it
-- found or put. Stopped: it found or put this count. Else it put nothing, so all is pending still.
abbrev pub IsAnswer : ℕ → ℕ → SyncAnswer → List Event → View → Type 0
IsAnswer w opened (Done s) puts v =
    (v.part.found.synced ≡ Some s) × WroteBelow s v.trail × AtMost (Put w Synced s) puts
IsAnswer w opened (Stopped at_open now) puts v =
    (at_open ≡ opened) × HasRisen at_open now × (v.part.found.stopped ≡ Some now)
    × AtMost (Put w StoppedCursor now) puts
IsAnswer w opened OutOfMemory puts v = puts ≡ []

-- What is answered was found, or put, at one of these steps.
abbrev pub FoundNow : SyncAnswer → List OwnStep → Type 0
FoundNow (Done s) steps = Finds (CursorWord Synced) s steps
FoundNow (Stopped at_open now) steps = Finds (CursorWord StoppedCursor) now steps
FoundNow OutOfMemory steps = Unit {0}

-- Seat w was answered this, and made steps of barriers and syncs alone, of which at most n issued a
-- barrier, and one tells what is answered.
pub record Answers (w n opened : ℕ) (v : View) (answer : SyncAnswer) (after : View) : Type 0 where
  pub puts : List Event
  pub steps : RoundSteps w n puts v after
  pub is : IsAnswer w opened answer puts after
  pub now : FoundNow answer steps.steps

-- It was, or it was not and put nothing.
abbrev pub MayAnswer : ℕ → ℕ → ℕ → View → Option SyncAnswer → View → Type 0
MayAnswer w n opened v (Some answer) after = Answers w n opened v answer after
MayAnswer w n opened v None after = RoundSteps w 0 [] v after

-- A synced key that was found answers a sync up to another key: Done where it is not below that
-- one, and else nothing yet.
abbrev pub IsDoneBy : ℕ → ℕ → Option SyncAnswer → Type 0
IsDoneBy upto found (Some answer) = (upto ≤ found) × (answer ≡ Done found)
IsDoneBy upto found None = found < upto

-- The count with which the log is stopped answers a sync: Stopped where it has risen above the one
-- at the keeper's opening, and else, where it is 0, nothing yet.
abbrev pub IsHaltedBy : ℕ → ℕ → Option SyncAnswer → Type 0
IsHaltedBy opened now (Some answer) = (answer ≡ Stopped opened now) × HasRisen opened now
IsHaltedBy opened now None = now ≡ 0
