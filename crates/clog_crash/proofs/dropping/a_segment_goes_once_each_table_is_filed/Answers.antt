use Rattle.clog_crash.proofs.flush.WorkedDrop.{both_are_enough, one_is_not_enough}
use Rattle.clog_crash.proofs.dropping.a_segment_goes_once_each_table_is_filed.Goals as goal

pub returns-clause-one : goal.returns-clause-one
returns-clause-one c = one_is_not_enough

pub returns-clause-both : goal.returns-clause-both
returns-clause-both c = both_are_enough
