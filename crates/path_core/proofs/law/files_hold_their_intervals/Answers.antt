use Rattle.path_core.proofs.runs.EveryRun.{from_opening}
use Rattle.path_core.proofs.law.files_hold_their_intervals.Goals as goal

pub returns : goal.returns
returns c = λ x y events f start run h.
    (from_opening x y events start run).files_are_true f h
