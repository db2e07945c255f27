use Rattle.clog_segments.proofs.SegmentFiles.{of_coming}
use Rattle.clog_segments.proofs.laws.what_an_opening_leaves_is_bytes.Goals as goal

pub returns : goal.returns
returns c = of_coming
