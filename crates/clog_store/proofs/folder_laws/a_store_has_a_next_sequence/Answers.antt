use Rattle.clog_store.proofs.FolderPuts.{next_limit}
use Rattle.clog_store.proofs.folder_laws.a_store_has_a_next_sequence.Goals as goal

pub returns : goal.returns
returns c first f log deeds table sequence holds low fits next few =
    next_limit first f log deeds holds low fits table sequence next few
