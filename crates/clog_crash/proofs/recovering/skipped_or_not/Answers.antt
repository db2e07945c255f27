use Rattle.clog_crash.proofs.recovery.Decided.{skipped_or_not}
use Rattle.clog_crash.proofs.recovering.skipped_or_not.Goals as goal

pub returns : goal.returns
returns c = skipped_or_not
