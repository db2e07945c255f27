use Rattle.clog_crash.proofs.Folders.{one_restored}
use Rattle.clog_crash.proofs.laws.folders_restore_to_one_list.Goals as goal

pub returns : goal.returns
returns c = one_restored
