use Rattle.clog_scan.specs.declared.answer.End.TheVariants.{Torn}
use Rattle.clog_crash.proofs.Good.{may_end_so}
use Rattle.clog_crash.proofs.laws.only_the_last_segment_may_be_torn.Goals as goal

pub returns : goal.returns
returns c files name bytes id entries at cause undamaged named there file holds =
    may_end_so files name bytes id entries (Torn at cause) undamaged named there file holds
