-- What a seat's trail is after further steps.
use Rattle.std.specs.Prelude.{◌≡◌, List, ◌++◌}
use Rattle.path_rule.specs.declared.view.OwnStep.{OwnStep}

-- A trail has grown: steps that came later, or none, stand in front of all that were there.
pub record HasGrown (before after : List OwnStep) : Type 0 where
  pub newer : List OwnStep
  pub is : after ≡ newer ++ before
