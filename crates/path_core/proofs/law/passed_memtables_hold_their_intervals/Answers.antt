use Rattle.path_core.proofs.runs.EveryRun.{core_of, from_opening}
use Rattle.path_core.proofs.places.HoldsInterval.{holds_interval}
use Rattle.path_core.proofs.law.passed_memtables_hold_their_intervals.Goals as goal

pub returns : goal.returns
returns c = λ x y events t m start run passed.
    let L = from_opening x y events start run in
    holds_interval y (core_of y L) L.places t m passed
