use Rattle.clog_due.proofs.FolderDue.{covered_due}
use Rattle.clog_due.proofs.going_laws.due_segments_of_a_store_are_covered.Goals as goal

pub returns : goal.returns
returns g c first f s h closed o holds sound is has due low =
    covered_due first f s h holds sound is has closed o due low
