-- Each allowed step is a step of the law.
use Rattle.path_core.specs.declared.event.Event.{Event}
use Rattle.path_core.specs.declared.event.Event.TheVariants.{OpenGroup}
use Rattle.path_core.specs.declared.state.PathState.{PathState}
use Rattle.path_core.specs.Allowed.{IsAllowed, IsStep, Row, StepRow}

-- the row without what a barrier is for
row_of : (x : PathState) (e : Event) → Row x e → StepRow x e
row_of x (OpenGroup by order group) r = r.0
row_of x e r = r

-- an allowed step, as the law sees it
pub loosened : (x : PathState) (e : Event) → IsAllowed x e → IsStep x e
loosened x e a = record { seat = a.seat; is_there = a.is_there; row = row_of x e a.row }
