use Rattle.std.proofs.Common.{[]}
use Rattle.clog_due.specs.Counting.{AreTables}
use Rattle.clog_due.proofs.table_log.no_tables.Given as goal

-- those below this one
abbrev pub invariant-loop-number : goal.invariant-loop-number
invariant-loop-number l = AreTables 0 l.number [] [] l.tables.items
