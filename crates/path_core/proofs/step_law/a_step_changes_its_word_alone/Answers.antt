use Rattle.path_core.proofs.frame.Words.{same_elsewhere, left_here}
use Rattle.path_core.proofs.step_law.a_step_changes_its_word_alone.Goals as goal

pub returns-clause-elsewhere : goal.returns-clause-elsewhere
returns-clause-elsewhere c = λ x e at lawful step apart. same_elsewhere x lawful e step at apart

pub returns-clause-there : goal.returns-clause-there
returns-clause-there c = λ x e lawful step. left_here x lawful e step
