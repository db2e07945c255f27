use Rattle.clog_crash.proofs.recovery.Below.{recovered_is_below}
use Rattle.clog_crash.proofs.recovery.Filed.{
  all_covered,
  filed_next,
  next_is_true,
  none_filed,
}
use Rattle.clog_crash.proofs.recovering.recovery_files_are_true.Goals as goal

pub returns-clause-begins : goal.returns-clause-begins
returns-clause-begins c = none_filed

pub returns-clause-is_true : goal.returns-clause-is_true
returns-clause-is_true c = next_is_true

pub returns-clause-next : goal.returns-clause-next
returns-clause-next c = filed_next

pub returns-clause-covered : goal.returns-clause-covered
returns-clause-covered c = all_covered

pub returns-clause-below : goal.returns-clause-below
returns-clause-below c = recovered_is_below
