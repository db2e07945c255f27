use Rattle.clog_store.proofs.FolderPuts.{holds_next}
use Rattle.clog_store.proofs.folder_laws.a_folder_with_a_put_file_is_a_stores.Goals as goal

pub returns : goal.returns
returns c first f log deeds file holds low fits is goes_on =
    holds_next first f log deeds holds low fits file is goes_on
