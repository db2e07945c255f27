use Rattle.clog_store.proofs.FolderEnds.{ends_within}
use Rattle.clog_store.proofs.folder_laws.a_store_has_gone_on_far_enough.Goals as goal

pub returns : goal.returns
returns g c s upper sound reaches most near =
    ends_within s sound upper reaches most near
