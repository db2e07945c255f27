use Rattle.clog_crash.proofs.damage.BadTables.{first_bad_is_one, good_has_none}
use Rattle.clog_crash.proofs.first_damage.a_folder_has_one_first_bad_table.Goals as goal

pub returns-clause-one : goal.returns-clause-one
returns-clause-one c = first_bad_is_one

pub returns-clause-good : goal.returns-clause-good
returns-clause-good c = good_has_none
