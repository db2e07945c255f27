-- Elements that pass a test, as a test of the list.
use Rattle.std.proofs.Common.{
  ◌≡◌,
  zero,
  suc,
  Bool,
  true,
  false,
  cond,
  List,
  [],
  ◌∷◌,
  refl,
  sym,
  subst,
  arith,
}
use Rattle.std.specs.List.{list_any, list_all, Contains, filter}
use Rattle.std.proofs.lemmas.List.Elements.{All-contains}
use Rattle.std.proofs.lemmas.List.Folds.{Any-from_list_any, list_any-from_Any}
use Rattle.std.proofs.lemmas.List.Sums.{AllPass-from_list_all}

pub any_from : {A : Type 0} (p : A → Bool) (l : List A) (a : A) → Contains l a → p a ≡ true
    → list_any p l ≡ true
any_from p l a h t = list_any-from_Any p l (h.0, a, h.1, h.2, t)

pub any_to : {A : Type 0} (p : A → Bool) (l : List A) → list_any p l ≡ true
    → (a : A) × Contains l a × (p a ≡ true)
any_to p l t = let r = Any-from_list_any p l t in (r.1, (r.0, r.2, r.3), r.4)

pub all_to : {A : Type 0} (p : A → Bool) (l : List A) (a : A) → list_all p l ≡ true → Contains l a
    → p a ≡ true
all_to p l a t h = All-contains (λ b. p b ≡ true) l a (AllPass-from_list_all p l t) h

pub kept_in : {A : Type 0} (p : A → Bool) (l : List A) (a : A) → Contains l a → p a ≡ true
    → Contains (filter p l) a
kept_in p [] a h t = absurd (let l = h.1 in omega arith)
kept_in p (x ∷ xs) a (zero, inside, is) t =
    subst (λ (b : Bool). Contains (cond b (x ∷ filter p xs) (filter p xs)) a)
    (sym (subst (λ y. p y ≡ true) (sym is) t)) (zero, omega arith, is)
kept_in p (x ∷ xs) a (suc k, inside, is) t =
    choose (p x) (kept_in p xs a (k, omega arith, is) t)
  where
    choose : (b : Bool) → Contains (filter p xs) a
        → Contains (cond b (x ∷ filter p xs) (filter p xs)) a
    choose true r = (suc r.0, (let l = r.1 in omega arith), r.2)
    choose false r = r

pub filter_from : {A : Type 0} (p : A → Bool) (l : List A) (a : A) → Contains (filter p l) a
    → Contains l a × (p a ≡ true)
filter_from p [] a h = absurd (let l = h.1 in omega arith)
filter_from {A} p (x ∷ xs) a h = choose (p x) refl (λ g. filter_from p xs a g) h
  where
    choose : (b : Bool) → p x ≡ b
        → (Contains (filter p xs) a → Contains xs a × (p a ≡ true))
        → Contains (cond b (x ∷ filter p xs) (filter p xs)) a → Contains (x ∷ xs) a × (p a ≡ true)
    choose true e rest (zero, inside, is) = ((zero, omega arith, is), subst (λ y. p y ≡ true) is e)
    choose true e rest (suc k, inside, is) = let r = rest (k, omega arith, is) in
        ((suc r.0.0, (let l = r.0.1 in omega arith), r.0.2), r.1)
    choose false e rest h = let r = rest h in
        ((suc r.0.0, (let l = r.0.1 in omega arith), r.0.2), r.1)
