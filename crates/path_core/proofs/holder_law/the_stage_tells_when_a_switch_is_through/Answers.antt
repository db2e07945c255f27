use Rattle.path_core.proofs.tables.StageTells.{through_by_stage}
use Rattle.path_core.proofs.holder_law.the_stage_tells_when_a_switch_is_through.Goals as goal

pub returns : goal.returns
returns c = λ x w t stage law h. through_by_stage x law w t stage h
