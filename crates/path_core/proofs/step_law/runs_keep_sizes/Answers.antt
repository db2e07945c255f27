use Rattle.path_core.proofs.frame.Runs.{past_sizes}
use Rattle.path_core.proofs.step_law.runs_keep_sizes.Goals as goal

pub returns : goal.returns
returns c = λ x y events past. past_sizes events x y past
