use Rattle.clog_due.proofs.FolderDue.{may_be_dropped}
use Rattle.clog_due.proofs.going_laws.due_segments_of_a_store_may_be_dropped.Goals as goal

pub returns : goal.returns
returns g c first f s h closed ordinals holds sound is has due low =
    may_be_dropped first f s h holds sound is has closed ordinals due low
