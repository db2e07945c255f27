use Rattle.clog_due.proofs.FolderGoes.{holds_first_gone}
use Rattle.clog_due.proofs.going_laws.a_folder_with_some_dropped_is_a_stores.Goals as
    goal

pub returns : goal.returns
returns c first f log deeds ordinals n is_named holds low fits may archives =
    holds_first_gone first log low fits ordinals n is_named f deeds holds may archives
