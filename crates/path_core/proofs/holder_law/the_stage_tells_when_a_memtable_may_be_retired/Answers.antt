use Rattle.path_core.proofs.tables.StageTells.{retires_by_stage}
use Rattle.path_core.proofs.holder_law.the_stage_tells_when_a_memtable_may_be_retired.Goals as goal

pub returns : goal.returns
returns c = λ x w t stage law h. retires_by_stage x law w t stage h
