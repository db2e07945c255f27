-- What a flush's switch of its table's memtables leaves.
use Rattle.std.specs.Prelude.{◌≡◌, ℕ, suc, ◌≤◌, Some}
use Rattle.path_core.specs.declared.seat.Switching.TheVariants.{Waiting}
use Rattle.path_core.specs.declared.state.Bound.TheVariants.{Final}
use Rattle.path_core.specs.Parts.{seat_table, stage_of}
use Rattle.path_rule.specs.declared.view.View.{View}
use Rattle.path_rule.specs.Issued.{issued_in, opened_in}
use Rattle.path_rule.specs.Rounds.{WroteBelow}
use Rattle.path_rule.specs.Switches.{FlushOldest}
use Rattle.path_flush.specs.FlushSteps.{FlushSteps, Finalises, FinalisesOnly, RetiresNone}
use Rattle.path_flush.specs.FlushTurns.{IsDrained, IsHolder}
use Rattle.path_flush.specs.Opens.{opens}

-- Seat w made memtable m of table t final at a key, at or above which it wrote nothing, and no
-- other one, and opened one memtable at most. It issued no barrier. What it knows of its boxes, and
-- of the Sync turn, is what it knew.
pub record MadeFinal (w t m key : ℕ) (v after : View) : Type 0 where
  pub made : FlushSteps w t 0 v after
  pub set : Finalises w t m key made.steps
  pub only : FinalisesOnly t m made.steps
  pub kept : RetiresNone made.steps
  pub opened : opens t made.steps ≤ 1
  pub counts : opened_in after.trail ≤ suc (opened_in v.trail)
  pub wrote : WroteBelow key after.trail
  pub holder : IsHolder t after
  pub sync : after.part.sync ≡ v.part.sync
  pub hands : after.hands ≡ v.hands
  pub stage : stage_of after.part t ≡ Some (Waiting m)
  pub bound : (seat_table after.part t).bound
      ≡ Some (record { memtable = m; bound = Final (record { 0 = key }) })
  pub oldest : FlushOldest t after.part m

-- The one barrier that it issued, that of this group, is passed since: it has issued one for each
-- memtable that it made. It reads what it read.
pub record SwitchedTo (w t m key group : ℕ) (v after : View) : Type 0 where
  pub made : FlushSteps w t 1 v after
  pub set : Finalises w t m key made.steps
  pub only : FinalisesOnly t m made.steps
  pub kept : RetiresNone made.steps
  pub opened : opens t made.steps ≤ 1
  pub wrote : WroteBelow key after.trail
  pub reading : after.hands.reading ≡ v.hands.reading
  pub drained : IsDrained t m group after
  pub paid : opened_in after.trail ≤ issued_in after.trail
