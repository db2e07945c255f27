use Rattle.std.proofs.Common.{[], refl}
use Rattle.path_core.proofs.runs.EveryRun.{told_back}
use Rattle.path_core.proofs.law.runs_are_told_from_their_end.Goals as goal

pub returns : goal.returns
returns c = λ x y events run. told_back events [] x x y refl run
