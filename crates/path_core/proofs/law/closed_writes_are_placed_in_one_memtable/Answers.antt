use Rattle.path_core.proofs.runs.EveryRun.{core_of, from_opening}
use Rattle.path_core.proofs.places.HoldsInterval.{placed_right}
use Rattle.path_core.proofs.law.closed_writes_are_placed_in_one_memtable.Goals as goal

pub returns : goal.returns
returns c = λ x y events n t start run h closed touched.
    let L = from_opening x y events start run in
    placed_right y (core_of y L) L.places n t h closed touched
