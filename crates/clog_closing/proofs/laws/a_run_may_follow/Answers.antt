use Rattle.clog_closing.proofs.Followed.{opens_again}
use Rattle.clog_closing.proofs.laws.a_run_may_follow.Goals as goal

pub returns : goal.returns
returns c = opens_again
