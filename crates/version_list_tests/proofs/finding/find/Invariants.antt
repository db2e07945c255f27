use Rattle.std.proofs.Common.{◌≡◌, drop}
use Rattle.version_list_tests.specs.Values.{value_of, value_after}
use Rattle.version_list_tests.proofs.finding.find.Given as goal

abbrev pub invariant-loop-row : goal.invariant-loop-row
invariant-loop-row l = value_after l.key l.value (drop l.row-index l.rows) ≡ value_of l.key l.rows
