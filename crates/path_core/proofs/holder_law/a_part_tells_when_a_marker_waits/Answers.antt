use Rattle.path_core.proofs.log.MarkerTells.{wanted_by_seat}
use Rattle.path_core.proofs.holder_law.a_part_tells_when_a_marker_waits.Goals as goal

pub returns : goal.returns
returns c = λ x w law. wanted_by_seat x law w
