-- Elements that are lent to a function as a slice are written back.
use Rattle.std.proofs.Common.{
  ◌≡◌,
  ℕ,
  List,
  [],
  ◌∷◌,
  ◌++◌,
  length,
  take,
  refl,
  ap,
  ◌∙◌,
}

-- what a slice of a whole list is written back to
pub written_back : {A : Type 0} (n : ℕ) (xs ys : List A) → n ≡ length xs
    → take n (xs ++ ys) ≡ xs
written_back n [] ys is = ap (λ (k : ℕ). take k ys) is
written_back {A} n (x ∷ xs) ys is =
    ap (λ (k : ℕ). take k (x ∷ (xs ++ ys))) is
    ∙ ap (λ (l : List A). x ∷ l) (written_back (length xs) xs ys refl)
