-- Counts of at most one: two that pass are one, and one that is counted is there.
use Rattle.std.proofs.Common.{
  ◌≡◌,
  ℕ,
  zero,
  suc,
  ◌<◌,
  ◌≤◌,
  Bool,
  true,
  false,
  cond,
  List,
  [],
  ◌∷◌,
  length,
  get_or,
  refl,
  sym,
  ap,
  ◌∙◌,
  subst,
  arith,
}
use Rattle.std.specs.List.{Contains, count_by}
use Rattle.std.proofs.lemmas.List.{get_or_default}
use Rattle.std.proofs.lemmas.List.Sums.{sum_by-cons}
use Rattle.path_core.proofs.lists.Replaced.{counted_from, none_counted_in}

-- where two that count are one, at most one is counted
pub one_counted : {A : Type 0} (p : A → Bool) (l : List A) (d : A)
    → ((i j : ℕ) → i < length l → j < length l → p (get_or l i d) ≡ true
    → p (get_or l j d) ≡ true → i ≡ j)
    → count_by p l ≤ 1
one_counted p [] d one = omega arith
one_counted {A} p (x ∷ xs) d one = choose (p x) refl
    (one_counted p xs d (λ i j l m g h. let e = one (suc i) (suc j) (omega arith) (omega arith) g h
    in omega arith))
  where
    choose : (b : Bool) → p x ≡ b → count_by p xs ≤ 1 → count_by p (x ∷ xs) ≤ 1
    choose false e rest =
        let s = sum_by-cons (λ a. cond (p a) 1 0) x xs in
        let c : cond {A = ℕ} (p x) 1 0 ≡ 0 = ap (λ (b : Bool). cond {A = ℕ} b 1 0) e in
        omega arith
    choose true e rest =
        let s = sum_by-cons (λ a. cond (p a) 1 0) x xs in
        let c : cond {A = ℕ} (p x) 1 0 ≡ 1 = ap (λ (b : Bool). cond {A = ℕ} b 1 0) e in
        let n : count_by p xs ≡ 0 = none_counted_in p xs (λ a h. later a h (p a) refl) in
        omega arith
      where
        later : (a : A) → Contains xs a → (b : Bool) → p a ≡ b → p a ≡ false
        later a h false q = q
        later a h true q = absurd (let z = one zero (suc h.0) (omega arith)
            (let l = h.1 in omega arith) e
            (subst (λ k. p k ≡ true) (sym (get_or_default xs h.0 d a h.1 ∙ h.2)) q) in omega arith)

-- one that is counted is there
pub counted_there : {A : Type 0} (p : A → Bool) (l : List A) (d : A) → 0 < count_by p l
    → (i : ℕ) × (i < length l) × (p (get_or l i d) ≡ true)
counted_there p l d some = let r = counted_from p l some in
    (r.1.0, r.1.1, subst (λ a. p a ≡ true) (sym (get_or_default l r.1.0 d r.0 r.1.1 ∙ r.1.2)) r.2)
