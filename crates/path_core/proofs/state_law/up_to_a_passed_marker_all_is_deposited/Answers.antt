use Rattle.path_core.proofs.runs.EveryRun.{log_of}
use Rattle.path_core.proofs.log.Deposited.{deposited_below}
use Rattle.path_core.proofs.state_law.up_to_a_passed_marker_all_is_deposited.Goals as goal

pub returns : goal.returns
returns c = λ x key claim L passed h entry low.
    deposited_below x (log_of x L) L.later_groups_log_above key passed claim h entry low
