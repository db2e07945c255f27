use Rattle.path_core.proofs.places.AtRest.{opens_new}
use Rattle.path_core.proofs.state_law.a_step_opens_a_new_group.Goals as goal

pub returns : goal.returns
returns c = λ x by group order L step. opens_new x L.sized L.orders by order group step
