use Rattle.clog_crash.proofs.counts.OneCount.{one_count, one_log}
use Rattle.clog_crash.proofs.counting.a_folder_has_one_count.Goals as goal

pub returns-clause-log : goal.returns-clause-log
returns-clause-log c = one_log

pub returns-clause-counts : goal.returns-clause-counts
returns-clause-counts c = one_count
