use Rattle.path_core.proofs.places.AtRest.{in_current}
use Rattle.path_core.proofs.state_law.all_run_in_the_group_behind_a_barrier.Goals as goal

pub returns : goal.returns
returns c = λ x order g w h L passed next is.
    in_current x L.sized L.orders order g w h passed next is
