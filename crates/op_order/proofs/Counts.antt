-- How many elements of a list pass a test, when one is changed or added.
use Rattle.std.proofs.Common.{◌≡◌, ℕ, zero, suc, ◌+◌, ◌<◌, Bool, true, false, cond, List, [], ◌∷◌}
use Rattle.std.proofs.Common.{◌++◌, set, sym, ap, ◌∙◌, arith}
use Rattle.std.specs.List.{count_by}
use Rattle.std.proofs.lemmas.List.Sums.{sum_by-cons, sum_by-append}
use mathlib.Core.Option.{some, some-injective, some-ne-none}
use lib.ListN.{get_elem?}

abbrev pub bit : Bool → ℕ
bit b = cond {A = ℕ} b 1 0

module _ {A : Type 0} (p : A → Bool) where
  pub count_set : (l : List A) (i : ℕ) (a b : A) → get_elem? l i ≡ some a
      → count_by p (set l i b) + bit (p a) ≡ count_by p l + bit (p b)
  count_set [] i a b e = absurd (some-ne-none a (sym e))
  count_set (x ∷ xs) zero a b e =
      let k : bit (p x) ≡ bit (p a) = ap (λ y. bit (p y)) (some-injective x a e) in
      let s = sum_by-cons (λ y. cond (p y) 1 0) x xs in
      let t = sum_by-cons (λ y. cond (p y) 1 0) b xs in
      omega arith
  count_set (x ∷ xs) (suc i) a b e =
      let r = count_set xs i a b e in
      let s = sum_by-cons (λ y. cond (p y) 1 0) x xs in
      let t = sum_by-cons (λ y. cond (p y) 1 0) x (set xs i b) in
      omega arith

  pub count_there : (l : List A) (i : ℕ) (a : A) → get_elem? l i ≡ some a → p a ≡ true
      → 0 < count_by p l
  count_there [] i a e h = absurd (some-ne-none a (sym e))
  count_there (x ∷ xs) zero a e h =
      let k : bit (p x) ≡ 1 = ap (λ y. bit (p y)) (some-injective x a e) ∙ ap bit h in
      let s = sum_by-cons (λ y. cond (p y) 1 0) x xs in
      omega arith
  count_there (x ∷ xs) (suc i) a e h =
      let r = count_there xs i a e h in
      let s = sum_by-cons (λ y. cond (p y) 1 0) x xs in
      omega arith

  -- one that passes no test more
  pub count_same : (l : List A) (i : ℕ) (a b : A) → get_elem? l i ≡ some a → p b ≡ p a
      → count_by p (set l i b) ≡ count_by p l
  count_same l i a b e same =
      let c = count_set l i a b e in let k : bit (p b) ≡ bit (p a) = ap bit same in omega arith

  pub count_push : (l : List A) (b : A) → p b ≡ false → count_by p (l ++ b ∷ []) ≡ count_by p l
  count_push l b out =
      let s = sum_by-append (λ y. cond (p y) 1 0) l (b ∷ []) in
      let t = sum_by-cons (λ y. cond (p y) 1 0) b [] in
      let k : bit (p b) ≡ 0 = ap bit out in
      omega arith
