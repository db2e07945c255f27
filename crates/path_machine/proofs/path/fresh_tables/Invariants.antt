use Rattle.std.proofs.Common.{◌≡◌, replicate}
use Rattle.path_core.specs.Parts.{fresh_table}
use Rattle.path_machine.proofs.path.fresh_tables.Given as goal

abbrev pub invariant-loop-i : goal.invariant-loop-i
invariant-loop-i l = l.tables.items ≡ replicate l.i fresh_table
