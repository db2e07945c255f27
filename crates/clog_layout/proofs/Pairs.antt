-- A relation between any two elements of a list, from element to element.
use Rattle.std.proofs.Common.{zero, suc, ◌<◌, List, [], ◌∷◌, length, get_or, arith}
use Rattle.std.specs.Prelude.{Contains}
use Rattle.std.specs.List.{AllPairs}
use Rattle.std.proofs.lemmas.List.{get_or_default}

pub pairs_cons : {A : Type 0} (R : A → A → Type 0) (x : A) (xs : List A)
    → ((y : A) → Contains xs y → R x y) → AllPairs R xs → AllPairs R (x ∷ xs)
pairs_cons R x xs ahead pairs zero zero d low high = absurd (omega (arith, low))
pairs_cons R x xs ahead pairs zero (suc j) d low high =
    let inside : j < length xs = omega (arith, high) in
    ahead (get_or xs j d) (j, inside, get_or_default xs j (get_or xs j d) d inside)
pairs_cons R x xs ahead pairs (suc i) zero d low high = absurd (omega (arith, low))
pairs_cons R x xs ahead pairs (suc i) (suc j) d low high =
    pairs i j d (omega (arith, low)) (omega (arith, high))

pub pairs_none : {A : Type 0} (R : A → A → Type 0) → AllPairs R []
pairs_none R i j d low high = absurd (omega (arith, high))
