use Rattle.path_core.proofs.runs.EveryRun.{from_opening}
use Rattle.path_core.proofs.log.KeepsClaims.{are_apart}
use Rattle.path_core.proofs.law.claims_never_overlap.Goals as goal

pub returns : goal.returns
returns c = λ x y events start run.
    are_apart y.capacity y.ordinals y.log y.claims
    (from_opening x y events start run).claims_tile_the_log
