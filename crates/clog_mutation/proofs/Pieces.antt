-- A piece of a concatenation: it is no longer than the whole, and stands between two others.
use Rattle.std.proofs.Common.{◌≡◌, ℕ, zero, suc, ◌<◌, List, [], ◌∷◌, ◌++◌, length, take, drop}
use Rattle.std.proofs.Common.{get_or, arith, subst, sym, ap, ◌∙◌, append_assoc}
use Rattle.std.specs.List.{flat_map}
use Rattle.std.proofs.lemmas.List.Folds.{length-flat_map-take}

pub piece_fits : {X Y : Type 0} (f : X → List Y) (xs : List X) (i : ℕ) (x : X) (bound : ℕ)
    → i < length xs → x ≡ get_or xs i x → length (flat_map f xs) < bound → length (f x) < bound
piece_fits {X} f xs i x bound h is fits =
    let there : length (f (get_or xs i x)) < bound =
    omega (arith, length-flat_map-take f xs i x h) in
    subst (λ (y : X). length (f y) < bound) (sym is) there

pub piece_between : {X Y : Type 0} (f : X → List Y) (xs : List X) (i : ℕ) (x : X)
    → i < length xs → x ≡ get_or xs i x
    → flat_map f xs ≡ (flat_map f (take i xs) ++ f x) ++ flat_map f (drop (suc i) xs)
piece_between f [] i x h is = absurd (omega arith)
piece_between {X} f (y ∷ xs) zero x h is = ap (λ (z : X). f z ++ flat_map f xs) (sym is)
piece_between {X} {Y} f (y ∷ xs) (suc i) x h is =
    let front = flat_map f (take i xs) in
    let behind = flat_map f (drop (suc i) xs) in
    ap (λ (l : List Y). f y ++ l) (piece_between f xs i x (omega arith) is)
    ∙ sym (append_assoc (f y) (front ++ f x) behind)
    ∙ ap (λ (l : List Y). l ++ behind) (sym (append_assoc (f y) front (f x)))
