use Rattle.clog_scan.proofs.Behind.{same_in_front}
use Rattle.clog_scan.proofs.laws.bytes_behind_the_end.Goals as goal

pub returns : goal.returns
returns c = same_in_front
