use Rattle.clog_applied.proofs.rows.Synced.{both_applied, each_applied}
use Rattle.clog_applied.proofs.worked.lines_are_synced_once_or_each.Goals as goal

pub returns-clause-once : goal.returns-clause-once
returns-clause-once c = both_applied

pub returns-clause-each : goal.returns-clause-each
returns-clause-each c = each_applied
