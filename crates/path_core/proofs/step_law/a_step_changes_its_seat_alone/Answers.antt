use Rattle.path_core.proofs.frame.Words.{other_seat}
use Rattle.path_core.proofs.step_law.a_step_changes_its_seat_alone.Goals as goal

pub returns : goal.returns
returns c = λ x e w apart. other_seat x e w apart
