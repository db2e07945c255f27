-- What a seat found, or put, at its steps.
use Rattle.std.specs.Prelude.{◌≡◌, ◌⊎◌, ℕ, List, [], ◌∷◌}
use Rattle.path_core.specs.declared.event.Event.{Event}
use Rattle.path_core.specs.declared.event.Event.TheVariants.{Look, Put}
use Rattle.path_core.specs.declared.event.Place.{Place}
use Rattle.path_core.specs.declared.event.Place.TheVariants.{CursorWord}
use Rattle.path_rule.specs.declared.view.OwnStep.{OwnStep}

-- A step at which a number was found looked at this place and found n there, or put it there.
abbrev pub FindsBy : Place → ℕ → Event → ℕ → Type 0
FindsBy at n (Look by place) found = (place ≡ at) × (found ≡ n)
FindsBy at n (Put by cursor value) found = (CursorWord cursor ≡ at) × (value ≡ n)
FindsBy at n _ found = ⊥

-- one of these steps did
abbrev pub Finds : Place → ℕ → List OwnStep → Type 0
Finds at n [] = ⊥
Finds at n (t ∷ ts) = FindsBy at n t.event t.found ⊎ Finds at n ts
