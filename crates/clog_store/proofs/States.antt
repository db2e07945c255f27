-- The state in which a call finds an object, for its answers: what stands first in the equation of
-- the object's view.
use Rattle.std.proofs.Common.{◌≡◌}

abbrev pub state_of : {A : Type 0} {state now : A} → state ≡ now → A
state_of {state = state} is = state
