use Rattle.clog_store.proofs.NoteTakes.{takes_behind, takes_kept, takes_not}
use Rattle.clog_store.proofs.taking_laws.a_log_takes_what_comes_next.Goals as goal

pub returns-clause-kept : goal.returns-clause-kept
returns-clause-kept g c s dropped held few some = takes_kept s held few some dropped

pub returns-clause-behind : goal.returns-clause-behind
returns-clause-behind g c s dropped none low = takes_behind s none low dropped

pub returns-clause-further : goal.returns-clause-further
returns-clause-further g c s h n has none none_written writable start further takes =
    takes_not s h n has none none_written writable start further takes
