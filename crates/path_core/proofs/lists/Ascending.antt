-- Two ascending lists of the same numbers are one.
use Rattle.std.proofs.Common.{◌≡◌, ℕ, ◌<◌, List, [], ◌∷◌, refl, sym, arith}
use Rattle.std.specs.List.{Contains, AllPairs}
use mathlib.Core.Logic.{inl, inr}
use Rattle.path_core.proofs.lists.Heads.{first_in, later_in, first_or_later, ahead, behind}

abbrev Below : ℕ → ℕ → Type 0
Below a b = a < b

pub same_ascending : (xs ys : List ℕ) → AllPairs (λ (a b : ℕ). a < b) xs
    → AllPairs (λ (a b : ℕ). a < b) ys → ((k : ℕ) → Contains xs k → Contains ys k)
    → ((k : ℕ) → Contains ys k → Contains xs k) → xs ≡ ys
same_ascending [] [] ox oy to from = refl
same_ascending [] (y ∷ ys) ox oy to from =
    absurd (let l = (from y (first_in y ys)).1 in omega arith)
same_ascending (x ∷ xs) [] ox oy to from =
    absurd (let l = (to x (first_in x xs)).1 in omega arith)
same_ascending (x ∷ xs) (y ∷ ys) ox oy to from =
    let tails = same_ascending xs ys (behind Below x xs ox) (behind Below y ys oy)
    (λ k h. elim (first_or_later y k ys (to k (later_in x k xs h))) [
      | inl e ↦ absurd (let l = ahead Below x xs ox k h in let s = same in omega arith)
      | inr r ↦ r
    ])
    (λ k h. elim (first_or_later x k xs (from k (later_in y k ys h))) [
      | inl e ↦ absurd (let l = ahead Below y ys oy k h in let s = same in omega arith)
      | inr r ↦ r
    ]) in
    (λ i. same i ∷ tails i)
  where
    same : x ≡ y
    same = elim (first_or_later y x ys (to x (first_in x xs))) [
      | inl e ↦ sym e
      | inr hx ↦ elim (first_or_later x y xs (from y (first_in y ys))) [
        | inl e ↦ e
        | inr hy ↦ absurd (let a = ahead Below x xs ox y hy in
            let b = ahead Below y ys oy x hx in omega arith)
      ]
    ]
