-- What a flush answers, and what is so then of its seat and the seat's list.
use Rattle.std.specs.Prelude.{◌≡◌, ◌⊎◌, ℕ, ◌≤◌, List, length}
use Rattle.path_core.specs.declared.event.Cursor.TheVariants.{Stopped as StoppedCursor}
use Rattle.path_core.specs.declared.event.Place.TheVariants.{CursorWord, TurnWord}
use Rattle.path_core.specs.declared.event.Turn.TheVariants.{Flush as FlushTurn}
use Rattle.path_core.specs.Keeper.{HasRisen}
use Rattle.path_rule.specs.declared.view.OwnStep.{OwnStep}
use Rattle.path_rule.specs.declared.view.View.{View}
use Rattle.path_rule.specs.Calls.{FoundSince, acts}
use Rattle.path_rule.specs.Finds.{Finds}
use Rattle.path_flush.specs.declared.flush_answer.Flush.{Flush}
use Rattle.path_flush.specs.declared.flush_answer.Flush.TheVariants.{Flushed, Empty, Busy, Stopped}
use Rattle.path_flush.specs.declared.flush_answer.Flush.TheVariants.{OutOfMemory}
use Rattle.path_flush.specs.OwnWrites.{writes_of}
use Rattle.path_flush.specs.FlushSteps.{FilesOne, FlushSteps, RetiresEmpty, RetiresFiled}
use Rattle.path_flush.specs.FlushSteps.{SwitchesAlone, WaitsStill}
use Rattle.path_flush.specs.Opens.{opens}
use Rattle.path_flush.specs.Switched.{SetsBound}

-- What is so behind an answer to seat w, which made these steps, for a table t. Flushed, Empty: the
-- upper key was set in this call as the memtable's final bound, at or above each write of the
-- seat's list, and the seat saw the boxes of all seats and retired the memtable. Flushed: something
-- was in them, and it gave a table file with the interval. Busy: the seat only looked, and found
-- the turn's word so. Stopped: the word was found so, or put so, in this call. Stopped,
-- OutOfMemory: a memtable that was made final in this call waits still, or, where Stopped, it was
-- retired with a table file, behind which the keeper stopped.
abbrev pub IsFlush : ℕ → ℕ → View → Flush → List OwnStep → View → Type 0
IsFlush w t v (Flushed lower upper) steps after =
    (m : ℕ) × SetsBound w t m upper.0 steps after × RetiresFiled w t m lower.0 upper.0 v after
IsFlush w t v (Empty key) steps after =
    (m : ℕ) × SetsBound w t m key.0 steps after × RetiresEmpty w t m v after
IsFlush w t v (Busy found) steps after = (found ≡ 1)
    × FoundSince (length v.trail) (TurnWord (FlushTurn (record { 0 = t }))) found after.trail
    × (acts after.trail ≡ acts v.trail)
IsFlush w t v (Stopped at_open now) steps after =
    (at_open ≡ v.size.at_open) × HasRisen at_open now
    × Finds (CursorWord StoppedCursor) now steps
    × (WaitsStill w t steps ⊎ FilesOne w t steps)
IsFlush w t v OutOfMemory steps after = WaitsStill w t steps

-- How many memtables were opened at most behind an answer: none where the seat only looked, else
-- one.
abbrev pub opened_by : Flush → ℕ
opened_by (Flushed lower upper) = 1
opened_by (Empty key) = 1
opened_by (Busy found) = 0
opened_by (Stopped at_open now) = 1
opened_by OutOfMemory = 1

-- How many barriers were issued at most behind an answer: none where the seat only looked, else
-- that of the memtable that was switched, and one of a sync for each of two memtables, of which an
-- earlier call left the first.
abbrev pub barriers_by : Flush → ℕ
barriers_by (Flushed lower upper) = 3
barriers_by (Empty key) = 3
barriers_by (Busy found) = 0
barriers_by (Stopped at_open now) = 3
barriers_by OutOfMemory = 3

-- A flush of table t by seat w answered this. The seat made steps of a flush of that table alone,
-- by which it opened at most one memtable of it and issued at most n barriers, and its list is as
-- it was. What it switched it had found alone: a memtable that an earlier call left has gone
-- before.
pub record FlushesBy (w t n : ℕ) (v : View) (answer : Flush) (after : View) : Type 0 where
  pub steps : FlushSteps w t n v after
  pub opened : opens t steps.steps ≤ opened_by answer
  pub alone : SwitchesAlone t steps.steps
  pub list : writes_of after.trail ≡ writes_of v.trail
  pub is : IsFlush w t v answer steps.steps after

-- The same with as many barriers as a flush issues at most.
abbrev pub Flushes : ℕ → ℕ → View → Flush → View → Type 0
Flushes w t v answer after = FlushesBy w t (barriers_by answer) v answer after

-- It was not found that another seat has the turn.
abbrev pub GotTurn : Flush → Type 0
GotTurn (Busy found) = ⊥
GotTurn _ = Unit {0}
