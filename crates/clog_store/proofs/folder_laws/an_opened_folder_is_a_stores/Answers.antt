use Rattle.clog_store.proofs.FolderBegins.{holds_opened}
use Rattle.clog_store.proofs.folder_laws.an_opened_folder_is_a_stores.Goals as goal

pub returns : goal.returns
returns c before now moment base archives opened =
    holds_opened before now base moment opened archives
