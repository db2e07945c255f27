use Rattle.std.proofs.Common.{◌≡◌, ℕ, ◌+◌, ◌-◌, ◌<◌, ◌≤◌, true, List}
use Rattle.path_core.specs.declared.state.WrittenFile.{WrittenFile}
use Rattle.path_core.specs.Droppable.{is_filed}
use Rattle.path_machine.proofs.table_files.are_filed.Given as goal

pub record Behind (files : List WrittenFile) (t from key : ℕ) : Type 0 where
  pub ahead : from ≤ key
  pub each : (k : ℕ) → from ≤ k → k < key → is_filed files t k ≡ true

abbrev pub invariant-loop-key : goal.invariant-loop-key
invariant-loop-key l = Behind l.files l.table l.from l.key

abbrev pub decreases-loop-key : goal.decreases-loop-key
decreases-loop-key l = l.to + 1 - l.key
