use Rattle.clog_store.proofs.FolderSyncs.{holds_notes_synced}
use Rattle.clog_store.proofs.folder_laws.a_folder_after_a_sync_is_a_stores.Goals as goal

pub returns : goal.returns
returns g c = holds_notes_synced
