use Rattle.clog_applied.proofs.Merged.{added}
use Rattle.clog_applied.proofs.laws.kept_merges_are_added.Goals as goal

pub returns : goal.returns
returns c = added
