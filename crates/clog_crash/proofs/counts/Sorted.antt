-- Lists that are sorted by their keys, and have the same members, are one.
use Rattle.std.proofs.Common.{◌≡◌, inl, inr, List, [], ◌∷◌, map, refl, sym, ap₂, subst}
use Rattle.std.specs.Prelude.{Contains, ◌↔◌}
use Rattle.std.specs.Cmp.{IsTotalOrder}
use Rattle.std.specs.List.Sorted.{IsStrictlySortedBy}
use Rattle.std.specs.Ordering.{ordering_reverse}
use Rattle.std.specs.declared.cmp.Ordering.{Ordering}
use Rattle.std.specs.declared.cmp.Ordering.TheVariants.{Less, Equal, Greater}
use Rattle.std.proofs.lemmas.List.Elements.{All-contains}
use Rattle.std.proofs.lemmas.Map.Keys.{sorted_tail}
use Rattle.std.proofs.lemmas.Map.Views.{All-after_first}
use Rattle.clog_base.proofs.Members.{here, further, first_or_further, in_map, nothing_there}

-- neither of two keys is below the other and above it
not_both : (r s : Ordering) → r ≡ ordering_reverse s → r ≡ Less → s ≡ Less → ⊥
not_both Less Less e p q = cc
not_both Less Equal e p q = cc
not_both Less Greater e p q = cc
not_both Equal s e p q = cc
not_both Greater s e p q = cc

module _ {A K : Type 0} (key : A → K) (cmp : K → K → Ordering) (total : IsTotalOrder cmp) where
  -- the first key is below all others
  first_below : (x y : A) (xs : List A) → IsStrictlySortedBy cmp (map key (x ∷ xs))
      → Contains xs y → cmp (key x) (key y) ≡ Less
  first_below x y xs sorted h =
      All-contains (λ (k : K). cmp (key x) k ≡ Less) (map key xs) (key y)
      (All-after_first cmp (key x) (map key xs) sorted) (in_map key xs y h)

  two_ways : (x y : A) → cmp (key x) (key y) ≡ Less → cmp (key y) (key x) ≡ Less → ⊥
  two_ways x y one other =
      not_both (cmp (key x) (key y)) (cmp (key y) (key x)) (total.antisymm (key x) (key y)) one
      other

  -- the first ones are one
  firsts : (x y : A) (xs ys : List A) → IsStrictlySortedBy cmp (map key (x ∷ xs))
      → IsStrictlySortedBy cmp (map key (y ∷ ys)) → Contains (y ∷ ys) x → Contains (x ∷ xs) y
      → x ≡ y
  firsts x y xs ys sorted sorted' there here_too =
      elim (first_or_further y ys x there) [
        | inl same ↦ sym same
        | inr later ↦ elim (first_or_further x xs y here_too) [
          | inl same ↦ same
          | inr later' ↦ absurd (two_ways x y (first_below x y xs sorted later')
              (first_below y x ys sorted' later))
        ]
      ]

  -- behind them stand the same
  rest : (x : A) (xs ys : List A) (z : A) → IsStrictlySortedBy cmp (map key (x ∷ xs))
      → (Contains (x ∷ xs) z → Contains (x ∷ ys) z) → Contains xs z → Contains ys z
  rest x xs ys z sorted goes h =
      elim (first_or_further x ys z (goes (further x xs z h))) [
        | inr later ↦ later
        | inl same ↦
            let below : cmp (key x) (key x) ≡ Less =
            subst (λ (a : A). cmp (key x) (key a) ≡ Less) (sym same)
            (first_below x z xs sorted h) in
            absurd (two_ways x x below below)
      ]

  pub sorted_is_one : (xs ys : List A) → IsStrictlySortedBy cmp (map key xs)
      → IsStrictlySortedBy cmp (map key ys) → ((z : A) → Contains xs z ↔ Contains ys z)
      → xs ≡ ys
  sorted_is_one [] [] sorted sorted' same = refl
  sorted_is_one [] (y ∷ ys) sorted sorted' same =
      absurd (nothing_there y ((same y).1 (here y ys)))
  sorted_is_one (x ∷ xs) [] sorted sorted' same =
      absurd (nothing_there x ((same x).0 (here x xs)))
  sorted_is_one (x ∷ xs) (y ∷ ys) sorted sorted' same =
      let one = firsts x y xs ys sorted sorted' ((same x).0 (here x xs))
      ((same y).1 (here y ys)) in
      let others : (z : A) → Contains (x ∷ xs) z ↔ Contains (x ∷ ys) z =
      subst (λ (a : A). (z : A) → Contains (x ∷ xs) z ↔ Contains (a ∷ ys) z) (sym one) same in
      let sorted'' : IsStrictlySortedBy cmp (map key (x ∷ ys)) =
      subst (λ (a : A). IsStrictlySortedBy cmp (map key (a ∷ ys))) (sym one) sorted' in
      ap₂ (λ (a : A) (l : List A). a ∷ l) one
      (sorted_is_one xs ys (sorted_tail cmp (key x) (map key xs) sorted)
      (sorted_tail cmp (key y) (map key ys) sorted') (λ z. (
        rest x xs ys z sorted (others z).0,
        rest x ys xs z sorted'' (others z).1,
      )))
