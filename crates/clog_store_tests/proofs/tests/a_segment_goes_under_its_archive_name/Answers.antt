use Rattle.std.proofs.Common.{arith}
use Rattle.clog_due.proofs.OneDroppable.{one_droppable}
use Rattle.clog_store_tests.proofs.tests.a_segment_goes_under_its_archive_name.Goals as goal

pub drop_segments-requires : goal.drop_segments-requires
drop_segments-requires g c =
    one_droppable _ _ _ 1000 _ c.in_ok-publish.ensures.puts c.segment_name.ensures (omega arith)
