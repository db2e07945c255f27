use Rattle.path_core.proofs.log.MarkerSteps.{changes_by_holder}
use Rattle.path_core.proofs.holder_law.only_the_holder_changes_the_last_marker.Goals as goal

pub returns : goal.returns
returns c = λ x e step. changes_by_holder x e step
