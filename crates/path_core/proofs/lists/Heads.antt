-- The first of a list, and the others behind it.
use Rattle.std.proofs.Common.{◌≡◌, zero, suc, List, ◌∷◌, refl, subst, arith, ◌⊎◌}
use Rattle.std.specs.List.{Contains, AllPairs}
use mathlib.Core.Logic.{inl, inr}

pub first_in : {A : Type 0} (x : A) (xs : List A) → Contains (x ∷ xs) x
first_in x xs = (zero, omega arith, refl)

pub later_in : {A : Type 0} (x y : A) (xs : List A) → Contains xs y → Contains (x ∷ xs) y
later_in x y xs h = (suc h.0, let l = h.1 in omega arith, h.2)

pub first_or_later : {A : Type 0} (x y : A) (xs : List A) → Contains (x ∷ xs) y
    → (x ≡ y) ⊎ Contains xs y
first_or_later x y xs (zero, l, e) = inl e
first_or_later x y xs (suc k, l, e) = inr (k, omega arith, e)

module _ {A : Type 0} (R : A → A → Type 0) (x : A) (xs : List A) (order : AllPairs R (x ∷ xs)) where
  pub ahead : (y : A) → Contains xs y → R x y
  ahead y h = subst (λ k. R x k) h.2
      (order zero (suc h.0) y (omega arith) (let l = h.1 in omega arith))

  pub behind : AllPairs R xs
  behind i j d l h = order (suc i) (suc j) d (omega arith) (omega arith)
