use Rattle.path_core.proofs.runs.EveryRun.{from_opening}
use Rattle.path_core.proofs.law.synced_is_the_start_of_a_marker.Goals as goal

pub returns : goal.returns
returns c = λ x y events start run.
    (from_opening x y events start run).synced_below_the_log
