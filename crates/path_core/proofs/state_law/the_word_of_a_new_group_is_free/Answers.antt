use Rattle.path_core.proofs.places.NearTries.{group_free, group_left}
use Rattle.path_core.proofs.state_law.the_word_of_a_new_group_is_free.Goals as goal

pub returns-clause-finished : goal.returns-clause-finished
returns-clause-finished c = λ x by g h order L step far. group_free x L by order g h step far

pub returns-clause-left : goal.returns-clause-left
returns-clause-left c = λ x by g h w order L step far is. group_left x L by order g h w step far is
