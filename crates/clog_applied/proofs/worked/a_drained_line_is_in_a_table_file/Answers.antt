use Rattle.clog_applied.proofs.rows.FiledRuns.{
  archived_applied,
  drained_applied,
  flushed_applied,
}
use Rattle.clog_applied.proofs.worked.a_drained_line_is_in_a_table_file.Goals as goal

pub returns-clause-applied : goal.returns-clause-applied
returns-clause-applied c = drained_applied

pub returns-clause-archived : goal.returns-clause-archived
returns-clause-archived c = archived_applied

pub returns-clause-flushed : goal.returns-clause-flushed
returns-clause-flushed c = flushed_applied
