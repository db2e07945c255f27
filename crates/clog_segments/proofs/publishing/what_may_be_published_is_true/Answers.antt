use Rattle.clog_segments.proofs.OnDisk.{published_is_true}
use Rattle.clog_segments.proofs.publishing.what_may_be_published_is_true.Goals as goal

pub returns : goal.returns
returns c = published_is_true
