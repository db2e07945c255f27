use Rattle.path_core.proofs.places.NearTries.{near_newest}
use Rattle.path_core.proofs.state_law.a_write_tries_one_of_the_last_three.Goals as goal

pub returns : goal.returns
returns c = λ x w t k L try. near_newest x L w t k try
