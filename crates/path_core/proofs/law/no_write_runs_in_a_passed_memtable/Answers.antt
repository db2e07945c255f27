use Rattle.path_core.proofs.runs.EveryRun.{placing_of, from_opening}
use Rattle.path_core.proofs.places.AtRest.{none_runs}
use Rattle.path_core.proofs.law.no_write_runs_in_a_passed_memtable.Goals as goal

pub returns : goal.returns
returns c = λ x y events t m start run passed.
    none_runs y (placing_of y (from_opening x y events start run)) t m passed
