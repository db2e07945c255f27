use Rattle.path_core.proofs.runs.EveryRun.{from_opening}
use Rattle.path_core.proofs.log.History.{is_history}
use Rattle.path_core.proofs.law.notes_are_a_history.Goals as goal

pub returns : goal.returns
returns c = λ x y events start run.
    let L = from_opening x y events start run in
    is_history y L.claims_tile_the_log L.notes_are_claims
