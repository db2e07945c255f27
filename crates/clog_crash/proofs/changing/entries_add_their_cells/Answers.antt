use Rattle.clog_crash.proofs.changes.Gained.{gained}
use Rattle.clog_crash.proofs.changing.entries_add_their_cells.Goals as goal

pub returns : goal.returns
returns c = gained
