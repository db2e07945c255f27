use Rattle.std.proofs.Common.{refl}
use Rattle.clog_crash.proofs.counts.Growing.{appends_of-append}
use Rattle.clog_crash.proofs.counting.appends_alone_bring_bytes.Goals as goal

pub returns-clause-appends : goal.returns-clause-appends
returns-clause-appends c name bytes = refl

pub returns-clause-publishes : goal.returns-clause-publishes
returns-clause-publishes c name bytes = refl

pub returns-clause-links : goal.returns-clause-links
returns-clause-links c old new = refl

pub returns-clause-removes : goal.returns-clause-removes
returns-clause-removes c name = refl

pub returns-clause-behind : goal.returns-clause-behind
returns-clause-behind c = appends_of-append
