use Rattle.clog_crash.proofs.damage.WorkedPayload.{first_is_the_payload, restored_past_it}
use Rattle.clog_crash.proofs.first_damage.a_bad_payload_is_damage.Goals as goal

pub returns-clause-first : goal.returns-clause-first
returns-clause-first c = first_is_the_payload

pub returns-clause-past : goal.returns-clause-past
returns-clause-past c = restored_past_it
