use Rattle.write_path.proofs.NonePassed.{begins_first, logged_passes_none, second_alone}
use Rattle.write_path.proofs.laws.where_a_log_begins.Goals as goal

pub returns-clause-first : goal.returns-clause-first
returns-clause-first g c = begins_first

pub returns-clause-second : goal.returns-clause-second
returns-clause-second g c = second_alone

pub returns-clause-logged : goal.returns-clause-logged
returns-clause-logged g c = logged_passes_none
