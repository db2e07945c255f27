use Rattle.clog_crash.proofs.UpTo.{of_the_log, up_to_it}
use Rattle.clog_crash.proofs.laws.the_log_up_to_damage_is_the_whole_log.Goals as goal

pub returns : goal.returns
returns c files id entry undamaged are =
    (up_to_it files id entry undamaged are, of_the_log files id entry)
