-- An attempt at a step keeps the law, where it carries whole notes.
use Rattle.std.proofs.Common.{sym, subst, Ok, Err}
use Rattle.std.proofs.Math.Logic.{∥∥₁_map}
use Rattle.std.specs.declared.result.Result.{Result}
use Rattle.path_core.specs.declared.event.Event.{Event}
use Rattle.path_core.specs.declared.state.PathState.{PathState}
use Rattle.path_core.specs.Lawful.{IsLawfulPath}
use Rattle.path_core.specs.Whole.{CarriesWhole}
use Rattle.path_core.proofs.runs.EveryRun.{keeps_lawful}
use Rattle.path_core.proofs.runs.Loosened.{loosened}
use Rattle.path_machine.specs.declared.path.StepFault.{StepFault}
use Rattle.path_machine.specs.declared.path.StepFault.TheVariants.{NotAllowed, OutOfMemory}
use Rattle.path_machine.specs.Steps.{StepsTo}

pub stepped_lawful : (r : Result (Unit {0}) StepFault) (old : PathState) (e : Event)
    (new : PathState) → ∥ IsLawfulPath old ∥₁ → CarriesWhole e → StepsTo r old e new
    → ∥ IsLawfulPath new ∥₁
stepped_lawful (Ok u) old e new lawful whole steps =
    ∥∥₁_map lawful (λ (law : IsLawfulPath old). subst IsLawfulPath (sym steps.1)
    (keeps_lawful old law e (loosened old e steps.0) whole))
stepped_lawful (Err NotAllowed) old e new lawful whole steps =
    subst (λ x. ∥ IsLawfulPath x ∥₁) (sym steps.1) lawful
stepped_lawful (Err OutOfMemory) old e new lawful whole steps =
    subst (λ x. ∥ IsLawfulPath x ∥₁) (sym steps.1) lawful
