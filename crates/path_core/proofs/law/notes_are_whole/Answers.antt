use Rattle.path_core.proofs.runs.EveryRun.{from_opening}
use Rattle.path_core.proofs.law.notes_are_whole.Goals as goal

pub returns : goal.returns
returns c = λ x y events n start run h.
    ((from_opening x y events start run).notes_are_claims.each n h).whole
