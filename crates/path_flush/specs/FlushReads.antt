-- What a flush has read of a memtable, and what its steps leave.
use Rattle.std.specs.Prelude.{◌≡◌, ℕ, Bool, Some, None}
use Rattle.path_core.specs.Parts.{stage_of}
use Rattle.path_rule.specs.declared.view.FlushRead.{FlushRead}
use Rattle.path_rule.specs.declared.view.Hands.{Hands}
use Rattle.path_rule.specs.declared.view.View.{View}
use Rattle.path_rule.specs.HandsAfter.{with_reading}
use Rattle.path_rule.specs.Switches.{FlushOldest}
use Rattle.path_flush.specs.FlushSteps.{FlushSteps, RetiresNone, SwitchesNone}
use Rattle.path_flush.specs.FlushTurns.{IsHolder}

-- It reads memtable m of table t, which is retired or not, has seen the boxes of the first seats,
-- so many, and has none of them in hand.
pub record HasRead (t m : ℕ) (retired : Bool) (count : ℕ) (h : Hands) : Type 0 where
  pub read : FlushRead
  pub reads : h.reading ≡ Some read
  pub of_table : read.table ≡ t
  pub of_memtable : read.memtable ≡ m
  pub kind : read.retired ≡ retired
  pub none_taken : read.taken ≡ None
  pub seen_to : read.seen_to ≡ count

-- Seat w, which has the turn of table t, made steps that change what it has read alone, and issued
-- no barrier.
pub record ReadSteps (w t : ℕ) (v after : View) : Type 0 where
  pub made : FlushSteps w t 0 v after
  pub none : SwitchesNone made.steps
  pub kept : RetiresNone made.steps
  pub sync : after.part.sync ≡ v.part.sync
  pub holder : IsHolder t v → IsHolder t after
  pub stage : stage_of after.part t ≡ stage_of v.part t
  pub oldest : (m : ℕ) → FlushOldest t v.part m → FlushOldest t after.part m
  pub hands : after.hands ≡ with_reading after.hands.reading v.hands
