use Rattle.clog_crash.proofs.life.Cutting.{cut}
use Rattle.clog_crash.proofs.placing.entries_that_follow_are_runs.Goals as goal

pub returns : goal.returns
returns c = cut
