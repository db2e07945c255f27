use Rattle.clog_crash.specs.Readings.{RestoresIn}
use Rattle.clog_crash.proofs.changes.Covering.{merge_of_same, merge_of_more}
use Rattle.clog_crash.proofs.changing.merges_by_covering.Goals as goal

pub returns-clause-same : goal.returns-clause-same
returns-clause-same c r q = merge_of_same (RestoresIn r) (RestoresIn q)

pub returns-clause-more : goal.returns-clause-more
returns-clause-more c r = merge_of_more (RestoresIn r)
