use Rattle.clog_scan.proofs.Written.{written}
use Rattle.clog_scan.proofs.laws.what_was_written_is_held.Goals as goal

pub returns : goal.returns
returns c = written
