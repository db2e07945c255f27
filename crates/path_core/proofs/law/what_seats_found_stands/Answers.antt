use Rattle.path_core.proofs.runs.EveryRun.{from_opening}
use Rattle.path_core.proofs.law.what_seats_found_stands.Goals as goal

pub returns : goal.returns
returns c = λ x y events w start run.
    (from_opening x y events start run).seats_know w
