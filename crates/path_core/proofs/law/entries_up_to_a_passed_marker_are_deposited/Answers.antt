use Rattle.path_core.proofs.runs.EveryRun.{log_of, from_opening}
use Rattle.path_core.proofs.log.Deposited.{deposited_below}
use Rattle.path_core.proofs.law.entries_up_to_a_passed_marker_are_deposited.Goals as goal

pub returns : goal.returns
returns c = λ x y events key claim start run passed h entry low.
    let L = from_opening x y events start run in
    deposited_below y (log_of y L) L.later_groups_log_above key passed claim h entry low
