use Rattle.clog_due.proofs.FolderGoes.{holds_all_gone}
use Rattle.clog_due.proofs.going_laws.a_folder_without_dropped_segments_is_a_stores.Goals as goal

pub returns : goal.returns
returns c first f log deeds ordinals holds low fits may =
    holds_all_gone first log low fits ordinals f deeds holds may
