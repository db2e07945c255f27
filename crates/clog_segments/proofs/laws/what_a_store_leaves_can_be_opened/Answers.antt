use Rattle.clog_segments.proofs.MostOpens.{most_opens}
use Rattle.clog_segments.proofs.laws.what_a_store_leaves_can_be_opened.Goals as goal

pub returns : goal.returns
returns c = most_opens
