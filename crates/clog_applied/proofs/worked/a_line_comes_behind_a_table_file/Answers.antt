use Rattle.clog_applied.proofs.rows.NextRun.{next_applied}
use Rattle.clog_applied.proofs.worked.a_line_comes_behind_a_table_file.Goals as goal

pub returns : goal.returns
returns c = next_applied
