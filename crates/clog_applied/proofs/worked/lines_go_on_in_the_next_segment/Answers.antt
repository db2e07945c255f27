use Rattle.clog_applied.proofs.rows.LargeLine.{a_large_line}
use Rattle.clog_applied.proofs.rows.TwoSegments.{two_segments_applied}
use Rattle.clog_applied.proofs.worked.lines_go_on_in_the_next_segment.Goals as goal

pub returns-clause-applied : goal.returns-clause-applied
returns-clause-applied c = two_segments_applied

pub returns-clause-a_line : goal.returns-clause-a_line
returns-clause-a_line c = a_large_line
