use Rattle.clog_crash.proofs.Good.{table_is_good}
use Rattle.clog_crash.proofs.laws.each_table_file_is_good.Goals as goal

pub returns : goal.returns
returns c = table_is_good
