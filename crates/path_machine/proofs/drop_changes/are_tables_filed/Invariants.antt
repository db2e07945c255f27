use Rattle.std.proofs.Common.{◌≡◌, ℕ, ◌<◌, true}
use Rattle.path_core.specs.Droppable.{is_table_filed}
use Rattle.path_machine.proofs.drop_changes.are_tables_filed.Given as goal

abbrev pub invariant-loop-table : goal.invariant-loop-table
invariant-loop-table l = (t : ℕ) → t < l.table → is_table_filed l.state l.segment t ≡ true
