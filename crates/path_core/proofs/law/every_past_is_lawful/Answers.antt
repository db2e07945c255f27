use Rattle.path_core.proofs.runs.EveryRun.{past_from_opening}
use Rattle.path_core.proofs.law.every_past_is_lawful.Goals as goal

pub returns : goal.returns
returns c = λ x y events start past. past_from_opening x y events start past
