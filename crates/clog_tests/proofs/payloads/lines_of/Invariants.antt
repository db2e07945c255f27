use Rattle.std.specs.List.{AllByRecursion}
use Rattle.clog_mutation.specs.Limits.{IsWithinLimits}
use Rattle.clog_tests.proofs.payloads.lines_of.Given as goal

abbrev pub invariant-loop-payload : goal.invariant-loop-payload
invariant-loop-payload l = AllByRecursion IsWithinLimits l.lines.items
