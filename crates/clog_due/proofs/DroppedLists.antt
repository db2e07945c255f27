-- Of ascending numbers the first and the others; and which ordinals a store lists once so many
-- segments have gone.
use Rattle.std.proofs.Common.{
  ◌≡◌,
  ℕ,
  zero,
  suc,
  ◌+◌,
  ◌<◌,
  ◌≤◌,
  Bool,
  true,
  false,
  inl,
  inr,
  List,
  [],
  ◌∷◌,
  ◌++◌,
  get_or,
  length,
  take,
  drop,
  Contains,
  refl,
  sym,
  ◌∙◌,
  ap,
  subst,
  arith,
  append_assoc,
  length-append,
}
use Rattle.std.specs.Prelude.{if◌then◌else◌}
use Rattle.std.specs.List.{AllPairs}
use Rattle.std.proofs.Math.Seq.{drop-cons, take-suc}
use Rattle.std.proofs.lemmas.Bool.{true≢false}
use Rattle.std.proofs.lemmas.List.{get_or-take, length-take, take-append-drop, take_more}
use Rattle.std.proofs.lemmas.List.Elements.{
  Contains-append_cases,
  Contains-append_left,
  Contains-append_right,
}
use Rattle.clog_base.proofs.Members.{first_or_further, further, here, nothing_there}
use Rattle.path_core.proofs.lists.Heads.{ahead, behind}
use Rattle.clog_segments.specs.StoreFolder.{Deeds, with_first_gone, with_gone, with_next}

-- ---- ascending numbers

abbrev Up : ℕ → ℕ → Type 0
Up a b = a < b

pub in_front : {A : Type 0} (n : ℕ) (xs : List A) (x : A) → Contains (take n xs) x
    → Contains xs x
in_front n xs x among =
    subst (λ (l : List _). Contains l x) (take-append-drop n xs)
    (Contains-append_left (take n xs) (drop n xs) x among)

-- the first are below the others
across : (n : ℕ) (xs : List ℕ) → AllPairs Up xs → (a b : ℕ) → Contains (take n xs) a
    → Contains (drop n xs) b → a < b
across zero xs order a b first other = absurd (nothing_there a first)
across (suc n) [] order a b first other = absurd (nothing_there a first)
across (suc n) (x ∷ xs) order a b first other = elim (first_or_further x (take n xs) a first) [
  | inl same ↦ subst (λ (k : ℕ). k < b) same (ahead Up x xs order b
      (subst (λ (l : List ℕ). Contains l b) (take-append-drop n xs)
      (Contains-append_right (take n xs) (drop n xs) b other)))
  | inr more ↦ across n xs (behind Up x xs order) a b more other
]

pub front_pairs : (n : ℕ) (xs : List ℕ) → AllPairs Up xs → AllPairs Up (take n xs)
front_pairs n xs order i j d less inside =
    let long = length-take n xs in
    let a = get_or-take n xs i d (omega (arith, less, inside, long)) in
    let b = get_or-take n xs j d (omega (arith, inside, long)) in
    let up = order i j d less (omega (arith, inside, long)) in
    omega (arith, a, b, up)

few_between : (low high : ℕ) (xs : List ℕ) → low ≤ high → AllPairs Up xs
    → ((x : ℕ) → Contains xs x → (low ≤ x) × (x < high)) → low + length xs ≤ high
few_between low high [] le order within = omega (arith, le)
few_between low high (x ∷ xs) le order within =
    let first = within x (here x xs) in
    let rest = few_between (x + 1) high xs (omega (arith, first.1)) (behind Up x xs order)
    (λ y among. (
      omega (arith, ahead Up x xs order y among),
      (within y (further x xs y among)).1,
    )) in
    omega (arith, first.0, rest)

-- there are at most as many as there are numbers below their bound
pub few_below : (high : ℕ) (xs : List ℕ) → AllPairs Up xs
    → ((x : ℕ) → Contains xs x → x < high) → length xs ≤ high
few_below high xs order within =
    let all = few_between 0 high xs (omega arith) order
    (λ x among. (omega arith, within x among)) in
    omega (arith, all)

-- what is below one of the first is among them
pub first_ones : (n : ℕ) (xs : List ℕ) → AllPairs Up xs → (a b : ℕ) → Contains xs a
    → Contains (take n xs) b → a < b → Contains (take n xs) a
first_ones n xs order a b among first less =
    elim (Contains-append_cases (take n xs) (drop n xs) a
    (subst (λ (l : List ℕ). Contains l a) (sym (take-append-drop n xs)) among)) [
      | inl front ↦ front
      | inr other ↦ absurd (omega (arith, across n xs order b a first other, less))
    ]

-- one behind the first is none of them, and what is below it is
module _ (n : ℕ) (xs : List ℕ) (order : AllPairs Up xs) (inside : n < length xs) where
  abbrev next : ℕ
  next = get_or xs n 0

  rest_is : drop n xs ≡ next ∷ drop (suc n) xs
  rest_is = drop-cons xs n 0 inside

  behind_front : Contains (drop n xs) next
  behind_front =
      subst (λ (l : List ℕ). Contains l next) (sym rest_is) (here next (drop (suc n) xs))

  pub next_among : Contains xs next
  next_among =
      subst (λ (l : List ℕ). Contains l next) (take-append-drop n xs)
      (Contains-append_right (take n xs) (drop n xs) next behind_front)

  pub next_left : Contains (take n xs) next → ⊥
  next_left among =
      let less = across n xs order next next among behind_front in omega (arith, less)

  pub lower_first : (a : ℕ) → Contains xs a → a < next → Contains (take n xs) a
  lower_first a among less =
      elim (Contains-append_cases (take n xs) (drop n xs) a
      (subst (λ (l : List ℕ). Contains l a) (sym (take-append-drop n xs)) among)) [
        | inl front ↦ front
        | inr other ↦ elim (first_or_further next (drop (suc n) xs) a
            (subst (λ (l : List ℕ). Contains l a) rest_is other)) [
              | inl same ↦ absurd (omega (arith, same, less))
              | inr further ↦
                  let up = later_than a further in absurd (omega (arith, up, less))
            ]
      ]
    where
      later_than : (b : ℕ) → Contains (drop (suc n) xs) b → next < b
      later_than b other =
          across (suc n) xs order next b
          (subst (λ (l : List ℕ). Contains l next) (sym (take-suc xs n 0 inside))
          (Contains-append_right (take n xs) (next ∷ []) next (here next []))) other

-- ---- the lists of a store

next_same : (deeds : Deeds) (xs : List ℕ) → with_next deeds false xs ≡ deeds
next_same deeds [] = refl
next_same deeds (x ∷ xs) = refl

next_dropped : (deeds : Deeds) (b : Bool) (xs : List ℕ)
    → (with_next deeds b xs).dropped ≡ deeds.dropped
next_dropped deeds false [] = refl
next_dropped deeds true [] = refl
next_dropped deeds false (x ∷ xs) = refl
next_dropped deeds true (x ∷ xs) = refl

next_record : (deeds : Deeds) (b : Bool) (xs : List ℕ)
    → with_next deeds b xs ≡ record deeds { archived = (with_next deeds b xs).archived }
next_record deeds false [] = refl
next_record deeds true [] = refl
next_record deeds false (x ∷ xs) = refl
next_record deeds true (x ∷ xs) = refl

module _ (deeds : Deeds) (os : List ℕ) where
  pub first_dropped : (n : ℕ) (named : Bool)
      → (with_first_gone deeds os n named).dropped ≡ deeds.dropped ++ take n os
  first_dropped n named = next_dropped (with_gone deeds (take n os)) named (drop n os)

  pub first_record : (n : ℕ) (named : Bool) → with_first_gone deeds os n named ≡ record deeds {
    dropped = (with_first_gone deeds os n named).dropped;
    archived = (with_first_gone deeds os n named).archived;
  }
  first_record n named =
      next_record (with_gone deeds (take n os)) named (drop n os) ∙ (λ i. record deeds {
        dropped = sym (first_dropped n named) i;
        archived = (with_first_gone deeds os n named).archived;
      })

  -- archive names are given to the first, and perhaps to the next one
  pub first_archived : (n : ℕ)
      → (with_first_gone deeds os n false).archived ≡ (with_gone deeds (take n os)).archived
  first_archived n =
      ap (λ (d : Deeds). d.archived) (next_same (with_gone deeds (take n os)) (drop n os))

  push_if : (b : Bool) → b ≡ true → (had front more : List ℕ) (x : ℕ)
      → front ++ x ∷ [] ≡ more
      → (if b then had ++ front else had) ++ x ∷ [] ≡ (if b then had ++ more else had)
  push_if true is had front more x same =
      append_assoc had front (x ∷ []) ∙ ap (λ (l : List ℕ). had ++ l) same
  push_if false is had front more x same = absurd (true≢false (sym is))

  pub next_archived : (n : ℕ) → n < length os → deeds.archives ≡ true → (more : List ℕ)
      → take n os ++ get_or os n 0 ∷ [] ≡ more
      → (with_first_gone deeds os n true).archived ≡ (with_gone deeds more).archived
  next_archived n inside archives more same =
      ap (λ (l : List ℕ). (with_next (with_gone deeds (take n os)) true l).archived)
      (drop-cons os n 0 inside)
      ∙ push_if deeds.archives archives deeds.archived (take n os) more (get_or os n 0) same

  -- so many archive names
  pub archived_is : (n : ℕ) (named : Bool) → (named ≡ true → deeds.archives ≡ true)
      → (named ≡ true → n < length os)
      → (with_first_gone deeds os n named).archived
      ≡ (with_gone deeds (take (n + (if named then 1 else 0)) os)).archived
  archived_is n false archives inside =
      let same : n ≡ n + 0 = omega arith in
      first_archived n ∙ ap (λ (k : ℕ). (with_gone deeds (take k os)).archived) same
  archived_is n true archives inside =
      next_archived n (inside refl) (archives refl) (take (n + 1) os)
      (sym (take_more os n 0 (inside refl)))

-- ---- where nothing has gone

pub both_none : (xs ys : List ℕ) → xs ++ ys ≡ [] → (xs ≡ []) × (ys ≡ [])
both_none [] ys none = (refl, none)
both_none (x ∷ xs) ys none = absurd (omega (arith, ap length none))

module _ (deeds : Deeds) (os : List ℕ) (n : ℕ) where
  no_more : (b : Bool) (had more : List ℕ) → (if b then had ++ more else had) ≡ [] → had ≡ []
  no_more true had more none = (both_none had more none).0
  no_more false had more none = none

  -- no archive name had been given
  pub archived_none : (named : Bool) → (with_first_gone deeds os n named).archived ≡ []
      → deeds.archived ≡ []
  archived_none named none = by named (drop n os) none
    where
      by : (b : Bool) (rest : List ℕ)
          → (with_next (with_gone deeds (take n os)) b rest).archived ≡ [] → deeds.archived ≡ []
      by false [] none = no_more deeds.archives deeds.archived (take n os) none
      by true [] none = no_more deeds.archives deeds.archived (take n os) none
      by false (o ∷ rest) none = no_more deeds.archives deeds.archived (take n os) none
      by true (o ∷ rest) none =
          no_more deeds.archives deeds.archived (take n os)
          (both_none (with_gone deeds (take n os)).archived (o ∷ []) none).0

  -- nor is one now
  pub none_named : (named : Bool) → (named ≡ true → deeds.archives ≡ true)
      → (named ≡ true → n < length os) → (with_first_gone deeds os n named).archived ≡ []
      → named ≡ false
  none_named false archives inside none = refl
  none_named true archives inside none =
      let same = next_archived deeds os n (inside refl) (archives refl)
      (take n os ++ get_or os n 0 ∷ []) refl in
      absurd (long deeds.archives (archives refl) deeds.archived (take n os) (get_or os n 0)
      (sym same ∙ none))
    where
      long : (b : Bool) → b ≡ true → (had front : List ℕ) (x : ℕ)
          → (if b then had ++ (front ++ x ∷ []) else had) ≡ [] → ⊥
      long true is had front x none =
          omega (
            arith,
            length-append front (x ∷ []),
            ap length (both_none had (front ++ x ∷ []) none).1,
          )
      long false is had front x none = true≢false (sym is)
