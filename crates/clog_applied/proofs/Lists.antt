-- The members of filtered lists, and how many have something.
use Rattle.std.proofs.Common.{
  ◌≡◌,
  ℕ,
  ◌+◌,
  ◌<◌,
  List,
  [],
  ◌∷◌,
  length,
  map,
  inl,
  inr,
  refl,
  sym,
  ◌∙◌,
  ap,
  subst,
  Bool,
  cond,
  true,
  false,
  arith,
}
use Rattle.std.specs.Prelude.{Contains}
use Rattle.std.specs.List.{filter, count_by, sum_by}
use Rattle.std.proofs.lemmas.List.Sums.{sum_by-cons}
use Rattle.clog_base.proofs.Members.{nothing_there, here, further, first_or_further}

-- ---- filters

module _ {A : Type 0} (p : A → Bool) where
  pub kept_one : (x : A) (xs : List A) → p x ≡ true → filter p (x ∷ xs) ≡ x ∷ filter p xs
  kept_one x xs e = cc

  pub left_one : (x : A) (xs : List A) → p x ≡ false → filter p (x ∷ xs) ≡ filter p xs
  left_one x xs e = cc

  pub in_filter : (xs : List A) (y : A) → Contains xs y → p y ≡ true → Contains (filter p xs) y
  in_filter [] y h passes = absurd (nothing_there y h)
  in_filter (x ∷ xs) y h passes = elim (first_or_further x xs y h) [
    | inl same ↦
        subst (λ (l : List A). Contains l y)
        (sym (kept_one x xs (subst (λ (z : A). p z ≡ true) (sym same) passes)))
        (subst (λ (z : A). Contains (z ∷ filter p xs) y) (sym same) (here y (filter p xs)))
    | inr more ↦ by_case (p x) refl (in_filter xs y more passes)
  ]
    where
      by_case : (b : Bool) → p x ≡ b → Contains (filter p xs) y → Contains (filter p (x ∷ xs)) y
      by_case true e rest =
          subst (λ (l : List A). Contains l y) (sym (kept_one x xs e))
          (further x (filter p xs) y rest)
      by_case false e rest = subst (λ (l : List A). Contains l y) (sym (left_one x xs e)) rest

  pub from_filter : (xs : List A) (y : A) → Contains (filter p xs) y
      → Contains xs y × (p y ≡ true)
  from_filter [] y h = absurd (nothing_there y h)
  from_filter (x ∷ xs) y h = by_case (p x) refl (λ r. from_filter xs y r)
    where
      by_case : (b : Bool) → p x ≡ b → (Contains (filter p xs) y → Contains xs y × (p y ≡ true))
          → Contains (x ∷ xs) y × (p y ≡ true)
      by_case true e rest =
          elim (first_or_further x (filter p xs) y
          (subst (λ (l : List A). Contains l y) (kept_one x xs e) h)) [
            | inl same ↦ (
              subst (λ (z : A). Contains (x ∷ xs) z) same (here x xs),
              subst (λ (z : A). p z ≡ true) same e,
            )
            | inr more ↦ let r = rest more in (further x xs y r.0, r.1)
          ]
      by_case false e rest =
          let r = rest (subst (λ (l : List A). Contains l y) (left_one x xs e) h) in
          (further x xs y r.0, r.1)

-- ---- counts

module _ {A : Type 0} (p : A → Bool) where
  pub counts_one : (x : A) (xs : List A) → p x ≡ true → count_by p (x ∷ xs) ≡ 1 + count_by p xs
  counts_one x xs e =
      let s = sum_by-cons (λ a. cond (p a) 1 0) x xs in
      let c : cond {A = ℕ} (p x) 1 0 ≡ 1 = ap (λ (b : Bool). cond {A = ℕ} b 1 0) e in
      omega arith

  pub counts_none : (x : A) (xs : List A) → p x ≡ false → count_by p (x ∷ xs) ≡ count_by p xs
  counts_none x xs e =
      let s = sum_by-cons (λ a. cond (p a) 1 0) x xs in
      let c : cond {A = ℕ} (p x) 1 0 ≡ 0 = ap (λ (b : Bool). cond {A = ℕ} b 1 0) e in
      omega arith

  -- where some are counted, one of them has it
  pub counted_from : (xs : List A) → 0 < count_by p xs → (x : A) × Contains xs x × (p x ≡ true)
  counted_from [] some = absurd (omega (arith, some))
  counted_from (x ∷ xs) some = by_case (p x) refl (λ l. counted_from xs l)
    where
      by_case : (b : Bool) → p x ≡ b
          → (0 < count_by p xs → (y : A) × Contains xs y × (p y ≡ true))
          → (y : A) × Contains (x ∷ xs) y × (p y ≡ true)
      by_case true e rest = (x, here x xs, e)
      by_case false e rest =
          let n = counts_none x xs e in
          let r = rest (omega (arith, n, some)) in (r.0, further x xs r.0 r.1, r.2)

  -- where each of them has it, all are counted
  pub all_counted : (xs : List A) → ((x : A) → Contains xs x → p x ≡ true)
      → count_by p xs ≡ length xs
  all_counted [] all = refl
  all_counted (x ∷ xs) all =
      let one = counts_one x xs (all x (here x xs)) in
      let rest = all_counted xs (λ y h. all y (further x xs y h)) in
      omega (arith, one, rest)

-- those that another test keeps are all counted
pub count_of_filtered : {A : Type 0} (p q : A → Bool) (xs : List A)
    → ((x : A) → Contains xs x → p x ≡ true → q x ≡ true)
    → count_by p (filter q xs) ≡ count_by p xs
count_of_filtered p q [] imp = refl
count_of_filtered {A} p q (x ∷ xs) imp = by_case (q x) refl (p x) refl
    (count_of_filtered p q xs (λ y h. imp y (further x xs y h)))
  where
    by_case : (b : Bool) → q x ≡ b → (d : Bool) → p x ≡ d
        → count_by p (filter q xs) ≡ count_by p xs
        → count_by p (filter q (x ∷ xs)) ≡ count_by p (x ∷ xs)
    by_case true e true f rest =
        ap (count_by p) (kept_one q x xs e) ∙ counts_one p x (filter q xs) f
        ∙ ap (λ (n : ℕ). 1 + n) rest ∙ sym (counts_one p x xs f)
    by_case true e false f rest =
        ap (count_by p) (kept_one q x xs e) ∙ counts_none p x (filter q xs) f
        ∙ rest ∙ sym (counts_none p x xs f)
    by_case false e false f rest =
        ap (count_by p) (left_one q x xs e) ∙ rest ∙ sym (counts_none p x xs f)
    by_case false e true f rest =
        absurd (let no : true ≡ false = sym (imp x (here x xs) f) ∙ e in cc)

pub count_of_map : {A B : Type 0} (f : A → B) (p : B → Bool) (xs : List A)
    → count_by p (map f xs) ≡ count_by (λ x. p (f x)) xs
count_of_map f p [] = refl
count_of_map f p (x ∷ xs) =
    sum_by-cons (λ a. cond (p a) 1 0) (f x) (map f xs)
    ∙ ap (λ (n : ℕ). cond {A = ℕ} (p (f x)) 1 0 + n) (count_of_map f p xs)
    ∙ sym (sum_by-cons (λ a. cond (p (f a)) 1 0) x xs)

-- ---- sums

pub sum_of_map : {A B : Type 0} (g : A → B) (f : B → ℕ) (xs : List A)
    → sum_by f (map g xs) ≡ sum_by (λ x. f (g x)) xs
sum_of_map g f [] = refl
sum_of_map g f (x ∷ xs) =
    sum_by-cons f (g x) (map g xs) ∙ ap (λ (n : ℕ). f (g x) + n) (sum_of_map g f xs)
    ∙ sym (sum_by-cons (λ y. f (g y)) x xs)

-- where each of them gives nothing, all do
pub sum_of_none : {A : Type 0} (f : A → ℕ) (xs : List A) → ((x : A) → Contains xs x → f x ≡ 0)
    → sum_by f xs ≡ 0
sum_of_none f [] none = refl
sum_of_none f (x ∷ xs) none =
    let a = sum_by-cons f x xs in
    let b = none x (here x xs) in
    let c = sum_of_none f xs (λ y h. none y (further x xs y h)) in
    omega (arith, a, b, c)
