use Rattle.clog_writers.proofs.SegmentOrder.{lines_ascend}
use Rattle.clog_writers.proofs.laws.lines_stand_in_the_order_of_their_segments.Goals as goal

pub returns : goal.returns
returns g = λ writers ms log history. lines_ascend writers ms log history
