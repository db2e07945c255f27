use Rattle.clog_segments.proofs.TornReads.{reads_torn}
use Rattle.clog_segments.proofs.failing_laws.a_torn_segment_at_hand_reads_as_a_first_part.Goals as goal

pub returns : goal.returns
returns c id count sections what stored stands chance =
    reads_torn id count what sections stored stands chance
