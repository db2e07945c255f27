use Rattle.path_core.proofs.runs.EveryRun.{placing_of, from_opening}
use Rattle.path_core.proofs.places.KeepsOnce.{one_place}
use Rattle.path_core.proofs.law.closed_writes_are_placed_once.Goals as goal

pub returns : goal.returns
returns c = λ x y events n t start run h closed touched.
    let L = from_opening x y events start run in
    one_place y (placing_of y L) L.placed_once t n.end.0 (L.places.closed n t h closed touched)
