use Rattle.path_core.proofs.places.AtRest.{opens_new_memtable}
use Rattle.path_core.proofs.state_law.a_step_opens_a_new_memtable.Goals as goal

pub returns : goal.returns
returns c = λ x by memtable table L step. opens_new_memtable x L.switches by table memtable step
