use Rattle.clog_due.proofs.FolderDue.{true_here}
use Rattle.clog_store.proofs.folder_laws.what_a_store_may_publish_is_true.Goals as goal

pub returns : goal.returns
returns g c first f s h put sequence holds sound is has may free within =
    true_here first f s h holds sound is has put sequence may free within
