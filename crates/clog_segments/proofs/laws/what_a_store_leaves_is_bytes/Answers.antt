use Rattle.clog_segments.proofs.SegmentFiles.{of_a_store}
use Rattle.clog_segments.proofs.laws.what_a_store_leaves_is_bytes.Goals as goal

pub returns : goal.returns
returns c = of_a_store
