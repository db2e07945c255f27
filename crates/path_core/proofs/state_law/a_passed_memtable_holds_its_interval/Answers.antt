use Rattle.path_core.proofs.runs.EveryRun.{core_of}
use Rattle.path_core.proofs.places.HoldsInterval.{holds_interval}
use Rattle.path_core.proofs.state_law.a_passed_memtable_holds_its_interval.Goals as goal

pub returns : goal.returns
returns c = λ x t m L passed. holds_interval x (core_of x L) L.places t m passed
