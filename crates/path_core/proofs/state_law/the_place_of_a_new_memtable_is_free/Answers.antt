use Rattle.path_core.proofs.places.NearTries.{clears_free, opens_free}
use Rattle.path_core.proofs.state_law.the_place_of_a_new_memtable_is_free.Goals as goal

pub returns-clause-cleared : goal.returns-clause-cleared
returns-clause-cleared c = λ x by n w k table L step try. clears_free x L by table n step w k try

pub returns-clause-opened : goal.returns-clause-opened
returns-clause-opened c = λ x by n w k table L step try. opens_free x L by table n step w k try
