use Rattle.clog_crash.proofs.changes.Came.{came}
use Rattle.clog_crash.proofs.changing.true_files_may_come.Goals as goal

pub returns : goal.returns
returns c = came
