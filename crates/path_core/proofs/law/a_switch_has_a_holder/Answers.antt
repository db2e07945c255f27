use Rattle.path_core.proofs.runs.EveryRun.{from_opening}
use Rattle.path_core.proofs.law.a_switch_has_a_holder.Goals as goal

pub returns : goal.returns
returns c = λ x y events start run. (from_opening x y events start run).a_switch_has_a_holder
