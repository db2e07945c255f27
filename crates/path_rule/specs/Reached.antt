-- How far the log is lasting behind the answer of a sync.
use Rattle.std.specs.Prelude.{ℕ, ◌≤◌, List, Option, Some, None}
use Rattle.path_core.specs.declared.event.Place.TheVariants.{Log}
use Rattle.path_core.specs.Keys.{after}
use Rattle.path_rule.specs.declared.answer.SyncAnswer.{SyncAnswer}
use Rattle.path_rule.specs.declared.answer.SyncAnswer.TheVariants.{Done, Stopped, OutOfMemory}
use Rattle.path_rule.specs.declared.view.OwnStep.{OwnStep}
use Rattle.path_rule.specs.Finds.{Finds}

-- Done: the log goes on behind the synced key at or above this key, so no entry in front of the one
-- lies behind the other.
abbrev pub Reaches : ℕ → ℕ → SyncAnswer → Type 0
Reaches capacity key (Done s) = key ≤ after capacity s
Reaches capacity key (Stopped at_open now) = Unit {0}
Reaches capacity key OutOfMemory = Unit {0}

-- the same of an answer, if there was one
abbrev pub MayReach : ℕ → ℕ → Option SyncAnswer → Type 0
MayReach capacity key (Some answer) = Reaches capacity key answer
MayReach capacity key None = Unit {0}

-- It reaches each log key that was found at these steps.
abbrev pub ReachesFound : ℕ → List OwnStep → Option SyncAnswer → Type 0
ReachesFound capacity steps answer =
    (key : ℕ) → Finds Log key steps → MayReach capacity key answer
