use Rattle.path_core.proofs.runs.EveryRun.{from_opening}
use Rattle.path_core.proofs.law.logged_is_the_synced_part.Goals as goal

pub returns : goal.returns
returns c = λ x y events start run.
    (from_opening x y events start run).logged_is_the_synced_part
