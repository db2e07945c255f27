use Rattle.clog_crash.proofs.counts.WorkedGrown.{kept}
use Rattle.clog_crash.proofs.counting.appended_sections_are_a_log.Goals as goal

pub returns : goal.returns
returns c = kept
