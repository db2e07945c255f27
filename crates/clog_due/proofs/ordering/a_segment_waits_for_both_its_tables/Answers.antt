use Rattle.clog_due.proofs.BothTables.{goes, waits}
use Rattle.clog_due.proofs.ordering.a_segment_waits_for_both_its_tables.Goals as goal

pub returns-clause-waits : goal.returns-clause-waits
returns-clause-waits c = waits

pub returns-clause-goes : goal.returns-clause-goes
returns-clause-goes c = goes
