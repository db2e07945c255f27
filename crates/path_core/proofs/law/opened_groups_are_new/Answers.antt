use Rattle.path_core.proofs.runs.EveryRun.{from_opening}
use Rattle.path_core.specs.declared.event.Event.TheVariants.{OpenGroup}
use Rattle.path_core.proofs.runs.Loosened.{loosened}
use Rattle.path_core.proofs.places.AtRest.{opens_new}
use Rattle.path_core.proofs.law.opened_groups_are_new.Goals as goal

pub returns : goal.returns
returns c = λ x y events by group order start run allowed.
    let L = from_opening x y events start run in
    opens_new y L.sized L.orders by order group (loosened y (OpenGroup by order group) allowed)
