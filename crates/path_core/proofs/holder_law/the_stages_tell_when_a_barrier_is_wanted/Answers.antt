use Rattle.path_core.proofs.tables.BarrierTells.{wanted_by_stage}
use Rattle.path_core.proofs.holder_law.the_stages_tell_when_a_barrier_is_wanted.Goals as goal

pub returns : goal.returns
returns c = λ x w law. wanted_by_stage x law w
