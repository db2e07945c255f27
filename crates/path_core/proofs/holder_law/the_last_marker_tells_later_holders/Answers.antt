use Rattle.path_core.proofs.log.MarkerTells.{last_wants, last_synced}
use Rattle.path_core.proofs.holder_law.the_last_marker_tells_later_holders.Goals as goal

pub returns-clause-wanted : goal.returns-clause-wanted
returns-clause-wanted c = λ x claim last none. last_wants x claim last none

pub returns-clause-synced : goal.returns-clause-synced
returns-clause-synced c = λ x claim g last issued passed.
    last_synced x claim last g issued passed
