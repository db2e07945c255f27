use Rattle.clog_crash.proofs.changes.Covering.{merges_are_true}
use Rattle.clog_crash.proofs.changing.merges_make_true_files.Goals as goal

pub returns : goal.returns
returns c = merges_are_true
