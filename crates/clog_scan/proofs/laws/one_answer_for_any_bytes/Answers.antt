use Rattle.clog_scan.proofs.Theorems.{one_segment}
use Rattle.clog_scan.proofs.Total.{has_segment}
use Rattle.clog_scan.proofs.laws.one_answer_for_any_bytes.Goals as goal

pub returns-clause-some : goal.returns-clause-some
returns-clause-some c = has_segment

pub returns-clause-one : goal.returns-clause-one
returns-clause-one c = one_segment
