-- Bounds go forward: from one to a later one, and on to a later one still.
use Rattle.std.proofs.Common.{ℕ, refl, sym, subst, arith}
use Rattle.path_core.specs.declared.state.Bound.{Bound}
use Rattle.path_core.specs.declared.state.Bound.TheVariants.{Live, Raising, Final}
use Rattle.path_core.specs.SeatParts.{raised_to, made_final}
use Rattle.path_core.specs.LawfulSeats.{IsAtLeast, BoundStays, IsRaisingFrom, BoundExact}

-- a bound is at least itself
pub stays_itself : (b : Bound) → BoundStays b b
stays_itself Live = tt
stays_itself (Raising k) = omega arith
stays_itself (Final k) = refl

-- and exactly itself
pub exact_itself : (b : Bound) → BoundExact b b
exact_itself Live = refl
exact_itself (Raising k) = omega arith
exact_itself (Final k) = refl

-- what is at least a key stays so
least_stays : (key : ℕ) (b c : Bound) → IsAtLeast key b → BoundStays b c → IsAtLeast key c
least_stays key Live c l s = absurd l
least_stays key (Raising k) Live l s = absurd s
least_stays key (Raising k) (Raising j) l s = omega arith
least_stays key (Raising k) (Final j) l s = omega arith
least_stays key (Final k) c l s = subst (IsAtLeast key) (sym s) l

-- two steps forward are one
pub stays_on : (a b c : Bound) → BoundStays a b → BoundStays b c → BoundStays a c
stays_on Live b c s t = tt
stays_on (Raising k) b c s t = least_stays k.0 b c s t
stays_on (Final k) b c s t = subst (λ d. BoundStays d c) s t

-- what is raising from a key stays so, while only writers raise it
raising_stays : (key : ℕ) (b c : Bound) → IsRaisingFrom key b → BoundExact b c
    → IsRaisingFrom key c
raising_stays key Live c l s = absurd l
raising_stays key (Raising k) Live l s = absurd s
raising_stays key (Raising k) (Raising j) l s = omega arith
raising_stays key (Raising k) (Final j) l s = absurd s
raising_stays key (Final k) c l s = absurd l

-- two steps of writers are one
pub exact_on : (a b c : Bound) → BoundExact a b → BoundExact b c → BoundExact a c
exact_on Live b c s t = subst (λ d. BoundExact d c) s t
exact_on (Raising k) b c s t = raising_stays k.0 b c s t
exact_on (Final k) b c s t = subst (λ d. BoundExact d c) s t

-- a step of writers is a step forward
pub exact_to_stays : (a b : Bound) → BoundExact a b → BoundStays a b
exact_to_stays Live b s = tt
exact_to_stays (Raising k) Live s = absurd s
exact_to_stays (Raising k) (Raising j) s = s
exact_to_stays (Raising k) (Final j) s = absurd s
exact_to_stays (Final k) b s = s

-- a bound that a step raises
pub raised_exact : (to : ℕ) (b : Bound) → BoundExact b (raised_to to b)
raised_exact to Live = refl
raised_exact to (Raising k) = omega arith
raised_exact to (Final k) = refl

-- a bound that is made final
pub final_stays : (b : Bound) → BoundStays b (made_final b)
final_stays Live = tt
final_stays (Raising k) = omega arith
final_stays (Final k) = refl
