use Rattle.path_core.proofs.runs.EveryRun.{from_opening}
use Rattle.path_core.proofs.law.dropped_was_droppable.Goals as goal

pub returns : goal.returns
returns c = λ x y events o start run h.
    (from_opening x y events start run).dropped_was_droppable.droppable o h
