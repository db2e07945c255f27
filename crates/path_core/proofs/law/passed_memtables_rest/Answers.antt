use Rattle.path_core.proofs.runs.EveryRun.{placing_of, from_opening}
use Rattle.path_core.proofs.places.AtRest.{leaves_placed}
use Rattle.path_core.proofs.law.passed_memtables_rest.Goals as goal

pub returns : goal.returns
returns c = λ x y events e t m start run allowed passed.
    leaves_placed y (placing_of y (from_opening x y events start run)) t m passed e
