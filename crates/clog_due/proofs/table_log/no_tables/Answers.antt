use Rattle.std.proofs.Common.{◌+◌, [], sym, subst}
use Rattle.clog_due.specs.Counting.{AreTables}
use Rattle.clog_due.proofs.TableLogs.{table_more}
use Rattle.clog_due.proofs.table_log.no_tables.Goals as goal

pub loop-number-preserved : goal.loop-number-preserved
loop-number-preserved c =
    subst (AreTables 0 (c.loop-number.number + 1) [] []) (sym c.in_ok-push.ensures.items)
    (table_more 0 c.loop-number.number [] [] c.loop-number.tables.items c.empty.result
    c.loop-number.invariant c.empty.ensures)
