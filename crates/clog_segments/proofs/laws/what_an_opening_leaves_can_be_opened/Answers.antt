use Rattle.clog_segments.proofs.ImagesOpen.{opens}
use Rattle.clog_segments.proofs.laws.what_an_opening_leaves_can_be_opened.Goals as goal

pub returns : goal.returns
returns c = opens
