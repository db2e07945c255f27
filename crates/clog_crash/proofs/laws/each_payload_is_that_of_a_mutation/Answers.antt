use Rattle.clog_crash.proofs.Good.{payload_is_said}
use Rattle.clog_crash.proofs.laws.each_payload_is_that_of_a_mutation.Goals as goal

pub returns : goal.returns
returns c = payload_is_said
