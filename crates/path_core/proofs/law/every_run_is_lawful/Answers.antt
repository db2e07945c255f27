use Rattle.path_core.proofs.runs.EveryRun.{from_opening}
use Rattle.path_core.proofs.law.every_run_is_lawful.Goals as goal

pub returns : goal.returns
returns c = λ x y events start run. from_opening x y events start run
