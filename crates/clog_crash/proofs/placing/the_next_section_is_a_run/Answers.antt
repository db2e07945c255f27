use Rattle.clog_crash.proofs.life.RunLog.{log_more, log_rolled}
use Rattle.clog_crash.proofs.placing.the_next_section_is_a_run.Goals as goal

pub returns-clause-more : goal.returns-clause-more
returns-clause-more c = log_more

pub returns-clause-rolled : goal.returns-clause-rolled
returns-clause-rolled c = log_rolled
