use Rattle.clog_store.proofs.FolderEnds.{due_at_hand}
use Rattle.clog_store.proofs.folder_laws.a_due_segment_at_hand_lasts.Goals as goal

pub returns : goal.returns
returns g c s h closed sound is held has o due at_hand =
    due_at_hand s h closed sound is held has o due at_hand
