use Rattle.clog_crash.proofs.counts.Growing.{grown-append, grown_elsewhere, grown_here}
use Rattle.clog_crash.proofs.counting.appends_grow_their_name.Goals as goal

pub returns-clause-here : goal.returns-clause-here
returns-clause-here c = grown_here

pub returns-clause-elsewhere : goal.returns-clause-elsewhere
returns-clause-elsewhere c = grown_elsewhere

pub returns-clause-behind : goal.returns-clause-behind
returns-clause-behind c = grown-append
