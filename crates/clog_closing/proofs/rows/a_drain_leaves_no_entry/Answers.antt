use Rattle.clog_closing.proofs.WorkedEnds as worked
use Rattle.clog_closing.proofs.rows.a_drain_leaves_no_entry.Goals as goal

pub returns-clause-drained : goal.returns-clause-drained
returns-clause-drained g at = worked.drained at

pub returns-clause-left : goal.returns-clause-left
returns-clause-left g at = worked.left at

pub returns-clause-undrained : goal.returns-clause-undrained
returns-clause-undrained g at = worked.undrained at

pub returns-clause-stays : goal.returns-clause-stays
returns-clause-stays g at drain = worked.stays at drain
