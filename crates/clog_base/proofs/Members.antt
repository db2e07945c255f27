-- Members of lists, of mapped and of joined ones, and what holds of each.
use Rattle.std.proofs.Common.{
  ◌≡◌,
  List,
  [],
  ◌∷◌,
  ◌++◌,
  map,
  ◌⊎◌,
  inl,
  inr,
  refl,
  sym,
  subst,
  arith,
}
use Rattle.std.specs.Prelude.{Contains}
use Rattle.std.specs.List.{flat_map, AllByRecursion}
use Rattle.std.proofs.lemmas.List.Elements.{
  Contains-append_left,
  Contains-append_right,
  Contains-append_cases,
  Contains-push_cases,
}

pub nothing_there : {A : Type 0} (y : A) → Contains [] y → ⊥
nothing_there y h = omega (arith, h.1)

pub here : {A : Type 0} (x : A) (xs : List A) → Contains (x ∷ xs) x
here x xs = (0, omega arith, refl)

pub further : {A : Type 0} (x : A) (xs : List A) (y : A) → Contains xs y → Contains (x ∷ xs) y
further x xs y h = Contains-append_right (x ∷ []) xs y h

pub first_or_further : {A : Type 0} (x : A) (xs : List A) (y : A) → Contains (x ∷ xs) y
    → (x ≡ y) ⊎ Contains xs y
first_or_further x xs y h = elim (Contains-append_cases (x ∷ []) xs y h) [
  | inl one ↦ elim (Contains-push_cases [] x y one) [
    | inl none ↦ absurd (nothing_there y none)
    | inr same ↦ inl same
  ]
  | inr more ↦ inr more
]

pub only_one : {A : Type 0} (x y : A) → Contains (x ∷ []) y → x ≡ y
only_one x y h = elim (first_or_further x [] y h) [
  | inl same ↦ same
  | inr none ↦ absurd (nothing_there y none)
]

pub all_have : {A : Type 0} (P : A → Type 0) (xs : List A) (y : A) → AllByRecursion P xs
    → Contains xs y → P y
all_have P [] y all h = absurd (nothing_there y h)
all_have P (x ∷ xs) y all h = elim (first_or_further x xs y h) [
  | inl same ↦ subst P same all.0
  | inr more ↦ all_have P xs y all.1 more
]

pub all_from : {A : Type 0} (P : A → Type 0) (xs : List A) → ((x : A) → Contains xs x → P x)
    → AllByRecursion P xs
all_from P [] has = tt
all_from P (x ∷ xs) has =
    (has x (here x xs), all_from P xs (λ y there. has y (further x xs y there)))

pub all_more : {A : Type 0} (P : A → Type 0) (xs : List A) (x : A) → AllByRecursion P xs → P x
    → AllByRecursion P (xs ++ x ∷ [])
all_more P [] x all has = (has, tt)
all_more P (y ∷ xs) x all has = (all.0, all_more P xs x all.1 has)

pub in_map : {A B : Type 0} (f : A → B) (xs : List A) (y : A) → Contains xs y
    → Contains (map f xs) (f y)
in_map f [] y h = absurd (nothing_there y h)
in_map f (x ∷ xs) y h = elim (first_or_further x xs y h) [
  | inl same ↦ subst (λ (z : _). Contains (map f (x ∷ xs)) (f z)) same (here (f x) (map f xs))
  | inr more ↦ further (f x) (map f xs) (f y) (in_map f xs y more)
]

pub from_map : {A B : Type 0} (f : A → B) (xs : List A) (y : B) → Contains (map f xs) y
    → (x : A) × Contains xs x × (f x ≡ y)
from_map f [] y h = absurd (nothing_there y h)
from_map f (x ∷ xs) y h = elim (first_or_further (f x) (map f xs) y h) [
  | inl same ↦ (x, here x xs, same)
  | inr more ↦ let rest = from_map f xs y more in
      (rest.0, further x xs rest.0 rest.1, rest.2)
]

pub in_flat : {A B : Type 0} (f : A → List B) (xs : List A) (x : A) (y : B) → Contains xs x
    → Contains (f x) y → Contains (flat_map f xs) y
in_flat f [] x y h within = absurd (nothing_there x h)
in_flat f (z ∷ xs) x y h within = elim (first_or_further z xs x h) [
  | inl same ↦ Contains-append_left (f z) (flat_map f xs) y
      (subst (λ (w : _). Contains (f w) y) (sym same) within)
  | inr more ↦ Contains-append_right (f z) (flat_map f xs) y (in_flat f xs x y more within)
]

pub from_flat : {A B : Type 0} (f : A → List B) (xs : List A) (y : B) → Contains (flat_map f xs) y
    → (x : A) × Contains xs x × Contains (f x) y
from_flat f [] y h = absurd (nothing_there y h)
from_flat f (x ∷ xs) y h = elim (Contains-append_cases (f x) (flat_map f xs) y h) [
  | inl one ↦ (x, here x xs, one)
  | inr more ↦ let rest = from_flat f xs y more in
      (rest.0, further x xs rest.0 rest.1, rest.2)
]
