use Rattle.clog_crash.proofs.damage.WorkedTorn.{first_with_next, undamaged_alone}
use Rattle.clog_crash.proofs.first_damage.a_torn_segment_is_a_tail_or_damage.Goals as goal

pub returns-clause-alone : goal.returns-clause-alone
returns-clause-alone c = undamaged_alone

pub returns-clause-next : goal.returns-clause-next
returns-clause-next c = first_with_next
