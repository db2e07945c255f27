use Rattle.path_core.proofs.runs.EveryRun.{from_opening}
use Rattle.path_core.proofs.places.AtRest.{in_current}
use Rattle.path_core.proofs.law.operations_run_in_the_current_group.Goals as goal

pub returns : goal.returns
returns c = λ x y events order g w h start run passed next is.
    let L = from_opening x y events start run in
    in_current y L.sized L.orders order g w h passed next is
