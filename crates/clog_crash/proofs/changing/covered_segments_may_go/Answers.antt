use Rattle.clog_crash.proofs.changes.Lost.{lost}
use Rattle.clog_crash.proofs.changing.covered_segments_may_go.Goals as goal

pub returns : goal.returns
returns c = lost
