use Rattle.clog_crash.proofs.worked.Crash.{entry_or_nothing}
use Rattle.clog_crash.proofs.crashes.a_crash_leaves_the_entry_or_nothing.Goals as goal

pub returns : goal.returns
returns c = entry_or_nothing
