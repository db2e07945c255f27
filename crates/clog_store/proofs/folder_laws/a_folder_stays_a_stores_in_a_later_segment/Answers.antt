use Rattle.clog_store.proofs.FolderSyncs.{holds_rolled}
use Rattle.clog_store.proofs.folder_laws.a_folder_stays_a_stores_in_a_later_segment.Goals as goal

pub returns : goal.returns
returns c first f log deeds next holds low above fits reads =
    holds_rolled first f log deeds holds low next above fits reads
