use Rattle.path_core.proofs.runs.EveryRun.{from_opening}
use Rattle.path_core.proofs.law.files_follow_one_another.Goals as goal

pub returns : goal.returns
returns c = λ x y events t start run.
    (from_opening x y events start run).retired_is_filed.follow t
