-- A loop that writes f of each element.
use Rattle.std.proofs.Common.{
  ◌≡◌,
  ℕ,
  ◌+◌,
  ◌<◌,
  List,
  ◌++◌,
  length,
  map,
  get_or,
  set,
  take,
  drop,
  ap,
  ◌∙◌,
}
use Rattle.std.proofs.lemmas.List.{get_or_default}
use Rattle.std.proofs.lemmas.List.Edits.{map_over_more}

pub set-mapped : {X : Type 0} (f : X → X) (xs ys : List X) (i : ℕ) (d y : X) → i < length xs
    → i < length ys → ys ≡ map f (take i xs) ++ drop i xs → y ≡ f (get_or ys i d)
    → set ys i y ≡ map f (take (i + 1) xs) ++ drop (i + 1) xs
set-mapped f xs ys i d y inside here is e =
    ap (set ys i) e ∙ map_over_more f xs ys i (get_or ys i d) inside is
    (get_or_default ys i d (get_or ys i d) here)
