use Rattle.clog_crash.proofs.damage.First.{first_damage_is_one, undamaged_has_none}
use Rattle.clog_crash.proofs.first_damage.a_folder_has_one_first_damage.Goals as goal

pub returns-clause-one : goal.returns-clause-one
returns-clause-one c = first_damage_is_one

pub returns-clause-undamaged : goal.returns-clause-undamaged
returns-clause-undamaged c = undamaged_has_none
