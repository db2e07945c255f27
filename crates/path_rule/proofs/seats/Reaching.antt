-- How far the log is lasting behind the answer of a sync.
use Rattle.std.proofs.Common.{ℕ, ◌≤◌, List, Option, Some, None, Result, Ok, Err, sym, subst, arith}
use Rattle.std.specs.Prelude.{IfOk}
use Rattle.path_core.specs.declared.event.Event.{Event}
use Rattle.path_core.specs.declared.event.Place.{Place}
use Rattle.path_core.specs.declared.keeper.KeeperFault.{KeeperFault}
use Rattle.path_core.specs.declared.keeper.KeeperFault.TheVariants.{Stopped as KeeperStopped}
use Rattle.path_core.specs.declared.keeper.KeeperFault.TheVariants.{
  OutOfMemory as KeeperOutOfMemory,
}
use Rattle.path_core.specs.Keys.{after}
use Rattle.path_rule.specs.declared.answer.SyncAnswer.{SyncAnswer}
use Rattle.path_rule.specs.declared.answer.SyncAnswer.TheVariants.{Done, Stopped, OutOfMemory}
use Rattle.path_rule.specs.declared.view.OwnStep.{OwnStep}
use Rattle.path_rule.specs.declared.view.View.{View}
use Rattle.path_rule.specs.Finds.{Finds}
use Rattle.path_rule.specs.Reached.{MayReach, Reaches}
use Rattle.path_rule.specs.Rounds.{RoundSteps}
use Rattle.path_rule.specs.SyncAnswers.{IsDoneBy, IsHaltedBy, said_by}
use Rattle.path_rule.proofs.log.Behind.{above_after}
use Rattle.path_rule.proofs.seats.Answering.{found_before}

-- what was found is found still behind further steps
pub found_on : {k : ℕ} (w : ℕ) (puts : List Event) (v after : View) (at : Place) (n : ℕ)
    → RoundSteps w k puts v after → Finds at n v.trail → Finds at n after.trail
found_on w puts v after at n S F = subst (λ (l : List OwnStep). Finds at n l) (sym S.trail)
    (found_before at n S.steps v.trail F)

-- an answer that reaches a key reaches each one below it
pub reaches_less : (capacity low high : ℕ) (a : SyncAnswer) → low ≤ high
    → Reaches capacity high a → Reaches capacity low a
reaches_less capacity low high (Done s) le R = omega (arith, le, R)
reaches_less capacity low high (Stopped at_open now) le R = tt
reaches_less capacity low high OutOfMemory le R = tt

pub may_less : (capacity low high : ℕ) (a : Option SyncAnswer) → low ≤ high
    → MayReach capacity high a → MayReach capacity low a
may_less capacity low high None le R = tt
may_less capacity low high (Some a) le R = reaches_less capacity low high a le R

-- a keeper's answer
pub said_reaches : (capacity key : ℕ) (r : Result ℕ KeeperFault)
    → IfOk r (λ s. key ≤ after capacity s) → Reaches capacity key (said_by r)
said_reaches capacity key (Ok s) R = R
said_reaches capacity key (Err (KeeperStopped at_open now)) R = tt
said_reaches capacity key (Err KeeperOutOfMemory) R = tt

-- a synced key that was found
pub done_reaches : (capacity upto found : ℕ) (a : Option SyncAnswer) → IsDoneBy upto found a
    → MayReach capacity upto a
done_reaches capacity upto found None is = tt
done_reaches capacity upto found (Some a) is = subst (Reaches capacity upto) (sym is.1)
    (let up = is.0 in let above = above_after capacity found in omega (arith, up, above))

-- answers that are not Done
pub halted_reaches : (capacity key opened now : ℕ) (a : Option SyncAnswer)
    → IsHaltedBy opened now a → MayReach capacity key a
halted_reaches capacity key opened now None is = tt
halted_reaches capacity key opened now (Some a) is =
    subst (Reaches capacity key) (sym is.0) tt
