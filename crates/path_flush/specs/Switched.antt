-- What a switch answers, and what is so then of its seat and the seat's list.
use Rattle.std.specs.Prelude.{◌≡◌, ◌≢◌, ℕ, ◌≤◌, List, length}
use Rattle.std.specs.List.{Contains}
use Rattle.path_core.specs.declared.event.Cursor.TheVariants.{OldestLive}
use Rattle.path_core.specs.declared.event.Place.TheVariants.{CursorWord, Newest, TurnWord}
use Rattle.path_core.specs.declared.event.Turn.TheVariants.{Flush}
use Rattle.path_core.specs.declared.note.EntryNote.{EntryNote}
use Rattle.path_rule.specs.declared.view.OwnStep.{OwnStep}
use Rattle.path_rule.specs.declared.view.View.{View}
use Rattle.path_rule.specs.Calls.{FoundSince, acts}
use Rattle.path_rule.specs.Finds.{Finds}
use Rattle.path_flush.specs.declared.switch_answer.Switch.{Switch}
use Rattle.path_flush.specs.declared.switch_answer.Switch.TheVariants.{Empty, Left, Waits, Busy}
use Rattle.path_flush.specs.OwnWrites.{writes_of}
use Rattle.path_flush.specs.FlushSteps.{FlushSteps, Finalises, RetiresEmpty, SwitchesNone}
use Rattle.path_flush.specs.Opens.{opens}

-- Seat w made memtable m of table t final at this key at one of these steps, and each write of the
-- seat's list ends at or below it.
pub record SetsBound (w t m key : ℕ) (steps : List OwnStep) (v : View) : Type 0 where
  pub set : Finalises w t m key steps
  pub covers : (n : EntryNote) → Contains (writes_of v.trail) n → n.end.0 ≤ key

-- At these steps, which switch nothing, m was found as the least memtable of table t that is not
-- retired, and another one as the newest.
abbrev pub FindsLeft : ℕ → ℕ → List OwnStep → Type 0
FindsLeft t m steps = SwitchesNone steps
    × Finds (CursorWord (OldestLive (record { 0 = t }))) m steps
    × ((n : ℕ) × Finds (Newest (record { 0 = t })) n steps × (m ≢ n))

-- What is so behind an answer to seat w, which made these steps, for a table t. Empty and Left: the
-- bound was set in this call, at or above each write of the seat's list; where Empty, the seat saw
-- the boxes of all seats and nothing of the memtable in them, and retired it. Busy: the seat only
-- looked, and found the turn's word so.
abbrev pub IsSwitch : ℕ → ℕ → View → Switch → List OwnStep → View → Type 0
IsSwitch w t v (Empty key) steps after =
    (m : ℕ) × SetsBound w t m key.0 steps after × RetiresEmpty w t m v after
IsSwitch w t v (Left key) steps after = (m : ℕ) × SetsBound w t m key.0 steps after
IsSwitch w t v (Waits m) steps after = FindsLeft t m steps
IsSwitch w t v (Busy found) steps after = (found ≡ 1)
    × FoundSince (length v.trail) (TurnWord (Flush (record { 0 = t }))) found after.trail
    × (acts after.trail ≡ acts v.trail)

-- How many memtables were opened at most behind an answer: one where the newest was switched, else
-- none.
abbrev pub most_opened : Switch → ℕ
most_opened (Empty key) = 1
most_opened (Left key) = 1
most_opened (Waits m) = 0
most_opened (Busy found) = 0

-- How many barriers were issued at most behind an answer: that of the memtable that was switched.
abbrev pub most_barriers : Switch → ℕ
most_barriers (Empty key) = 1
most_barriers (Left key) = 1
most_barriers (Waits m) = 0
most_barriers (Busy found) = 0

-- A switch of table t by seat w answered this. The seat made steps of a flush of that table alone,
-- by which it opened at most one memtable of it and issued at most one barrier, and its list is as
-- it was.
pub record Switches (w t : ℕ) (v : View) (answer : Switch) (after : View) : Type 0 where
  pub steps : FlushSteps w t (most_barriers answer) v after
  pub opened : opens t steps.steps ≤ most_opened answer
  pub list : writes_of after.trail ≡ writes_of v.trail
  pub is : IsSwitch w t v answer steps.steps after

-- It was not found that another seat has the turn.
abbrev pub HadTurn : Switch → Type 0
HadTurn (Busy found) = ⊥
HadTurn _ = Unit {0}

-- What is so of a memtable whose barrier is passed, and which was made final at the key: it is
-- retired where nothing was seen in it.
abbrev pub IsSettled : ℕ → ℕ → ℕ → ℕ → View → Switch → View → Type 0
IsSettled w t m key v (Empty found) after = (found.0 ≡ key) × RetiresEmpty w t m v after
IsSettled w t m key v (Left found) after = found.0 ≡ key
IsSettled w t m key v _ after = ⊥
