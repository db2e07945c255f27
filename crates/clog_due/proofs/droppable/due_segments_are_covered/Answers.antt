use Rattle.clog_segments.proofs.OnDisk.{due_is_covered}
use Rattle.clog_due.proofs.droppable.due_segments_are_covered.Goals as goal

pub returns : goal.returns
returns c = due_is_covered
