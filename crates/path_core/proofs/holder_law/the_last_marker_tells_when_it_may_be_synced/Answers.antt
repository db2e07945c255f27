use Rattle.path_core.proofs.log.MarkerTells.{synced_by_marker}
use Rattle.path_core.proofs.holder_law.the_last_marker_tells_when_it_may_be_synced.Goals as goal

pub returns : goal.returns
returns c = λ x w kept law h. synced_by_marker x law w kept h
