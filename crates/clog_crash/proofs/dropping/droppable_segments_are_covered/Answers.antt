use Rattle.clog_crash.proofs.flush.Dropped.{droppable_is_covered}
use Rattle.clog_crash.proofs.dropping.droppable_segments_are_covered.Goals as goal

pub returns : goal.returns
returns c = droppable_is_covered
