use Rattle.clog_crash.proofs.worked.Row.{skipped, kept, other_table}
use Rattle.clog_crash.proofs.laws.an_interval_skips_the_entry_that_ends_in_it.Goals as goal

pub returns-clause-skipped : goal.returns-clause-skipped
returns-clause-skipped c = skipped

pub returns-clause-kept : goal.returns-clause-kept
returns-clause-kept c = kept

pub returns-clause-other : goal.returns-clause-other
returns-clause-other c = other_table
