-- Names of a kind are counted.
use Rattle.std.proofs.Common.{
  ◌≡◌,
  ℕ,
  ◌+◌,
  ◌<◌,
  ◌≤◌,
  List,
  [],
  ◌∷◌,
  ◌++◌,
  length,
  map,
  take,
  get_or,
  Bool,
  true,
  false,
  Option,
  Some,
  None,
  Contains,
  refl,
  sym,
  ap,
  subst,
  ◌∙◌,
  inl,
  inr,
  arith,
  length-append,
}
use Rattle.std.specs.Prelude.{IfSome, IsTrue, T, ◌↔◌}
use Rattle.std.specs.FinMap as finmap
use Rattle.std.specs.List.{AllByRecursion}
use Rattle.std.specs.List.Sorted.{IsStrictlySortedBy}
use Rattle.std.specs.FinMap.Entries.{below_all, is_sorted}
use Rattle.std.specs.Ordering.{nat_cmp}
use Rattle.std.specs.declared.cmp.Ordering.{Ordering}
use Rattle.std.specs.declared.cmp.Ordering.TheVariants.{Less}
use Rattle.std.specs.Cmp.Lexicographic.{slice_cmp}
use Rattle.std.proofs.lemmas.Bool.{true≢false}
use Rattle.std.proofs.lemmas.List.{append-nil, length-take}
use Rattle.clog_base.proofs.Members.{all_from, all_have, first_or_further, further, here}
use Rattle.clog_base.proofs.Orderings.{first_holds, is_less, second_holds}
use Rattle.clog_disk.specs.Files.{Files, Lists}
use Rattle.clog_crash.specs.Folder.{IsHeld}
use Rattle.clog_folder.specs.Folder.{AreNamed}
use Rattle.clog_folder.specs.Listing.{IsCount, Picks}
use Rattle.clog_folder.proofs.EntriesCounted.{picks_both, picks_have}
use Rattle.clog_folder.proofs.Listed.{held_of, listed_of}
use Rattle.clog_folder.proofs.Rows.{taken}

-- ---- one after another

pub no_names : (P : List ℕ → Type 0) → IsCount P [] 0
no_names P = ([], refl, refl)

picks_short : {A : Type 0} (P : A → Type 0) (xs picked : List A) → Picks P xs picked
    → length picked ≤ length xs
picks_short P [] picked none = subst (λ l. length l ≤ 0) (sym none) (omega arith)
picks_short P (x ∷ xs) picked (inl has) =
    let rest = picks_short P xs has.1.0 has.1.2 in omega (arith, rest, ap length has.1.1)
picks_short P (x ∷ xs) picked (inr has) =
    let rest = picks_short P xs picked has.1 in omega (arith, rest)

pub few_counted : (P : List ℕ → Type 0) (names : List (List ℕ)) (i n : ℕ)
    → IsCount P (take i names) n → n ≤ i
few_counted P names i n is =
    let short = picks_short P (take i names) is.0 is.1 in
    omega (arith, short, is.2, length-take i names)

module _ (P : List ℕ → Type 0) (names : List (List ℕ)) (i n : ℕ) (name : List ℕ)
    (inside : i < length names) (at : name ≡ get_or names i name) (test : Bool)
    (decides : IsTrue test ↔ P name) (is : IsCount P (take i names) n) where
  grown : (m : ℕ) → IsCount P (take i names ++ name ∷ []) m → IsCount P (take (i + 1) names) m
  grown m counted =
      subst (λ (l : List (List ℕ)). IsCount P l m) (taken names i name inside at) counted

  pub counted_one : test ≡ true → IsCount P (take (i + 1) names) (n + 1)
  counted_one has = grown (n + 1) (
    is.0 ++ name ∷ [],
    picks_both P (take i names) (name ∷ []) is.0 (name ∷ []) is.1
        (inl (decides.0 has, ([], refl, refl))),
    omega (arith, is.2, length-append is.0 (name ∷ [])),
  )

  pub counted_none : test ≡ false → IsCount P (take (i + 1) names) n
  counted_none not = grown n (
    is.0,
    subst (Picks P (take i names ++ name ∷ [])) (append-nil is.0)
        (picks_both P (take i names) (name ∷ []) is.0 [] is.1
        (inr ((λ has. true≢false (sym (decides.1 has) ∙ not)), refl))),
    is.2,
  )

-- ---- all

-- what has P is picked
pub picks_all : {A : Type 0} (P : A → Type 0) (xs picked : List A) (x : A) → Picks P xs picked
    → Contains xs x → P x → Contains picked x
picks_all P [] picked x none there has = absurd (omega (arith, there.1))
picks_all P (y ∷ xs) picked x (inl is) there has =
    subst (λ l. Contains l x) (sym is.1.1) (elim (first_or_further y xs x there) [
      | inl same ↦ subst (Contains (y ∷ is.1.0)) same (here y is.1.0)
      | inr more ↦ further y is.1.0 x (picks_all P xs is.1.0 x is.1.2 more has)
    ])
picks_all P (y ∷ xs) picked x (inr is) there has = elim (first_or_further y xs x there) [
  | inl same ↦ absurd (is.0 (subst P (sym same) has))
  | inr more ↦ picks_all P xs picked x is.1 more has
]

-- what is picked of what is in order is in order
picks_ordered : {A : Type 0} (cmp : A → A → Ordering) (P : A → Type 0) (xs picked : List A)
    → IsStrictlySortedBy cmp xs → Picks P xs picked → IsStrictlySortedBy cmp picked
unfolding IsStrictlySortedBy
picks_ordered cmp P [] picked sorted none =
    subst (IsStrictlySortedBy cmp) (sym none) tt
picks_ordered cmp P (x ∷ xs) picked sorted (inl is) =
    subst (IsStrictlySortedBy cmp) (sym is.1.1) (
      all_from (λ y. cmp x y ≡ Less) is.1.0 (λ y there.
          all_have (λ z. cmp x z ≡ Less) xs y sorted.0
          (picks_have P xs is.1.0 y is.1.2 there).1),
      picks_ordered cmp P xs is.1.0 sorted.1 is.1.2,
    )
picks_ordered cmp P (x ∷ xs) picked sorted (inr is) =
    picks_ordered cmp P xs picked sorted.1 is.1

pub are_named : (held : Files) (P : List ℕ → Type 0) (names : List (List ℕ)) (n : ℕ)
    → IsStrictlySortedBy (slice_cmp nat_cmp) names
    → ((name : List ℕ) → Contains names name → IsHeld held name)
    → ((name : List ℕ) → IsHeld held name → Contains names name)
    → IsCount P names n → AreNamed held P n
are_named held P names n sorted there all is = record {
  names = is.0;
  are = record {
    ordered = picks_ordered (slice_cmp nat_cmp) P names is.0 sorted is.1;
    are = λ name. (
      λ has. picks_all P names is.0 name is.1 (all name has.0) has.1,
      λ listed. let has = picks_have P names is.0 name is.1 listed in
          (there name has.1, has.0),
    );
  };
  count = is.2;
}

-- ---- the names of a disk

below_keys : (name : List ℕ) (es : List (List ℕ × List ℕ))
    → T (below_all (slice_cmp nat_cmp) name es)
    → AllByRecursion (λ y. slice_cmp nat_cmp name y ≡ Less) (map (λ (e : List ℕ × List ℕ). e.0) es)
below_keys name [] below = tt
below_keys name (e ∷ es) below =
    (is_less _ (first_holds _ _ below), below_keys name es (second_holds _ _ below))

keys_rise : (es : List (List ℕ × List ℕ)) → T (is_sorted (slice_cmp nat_cmp) es)
    → IsStrictlySortedBy (slice_cmp nat_cmp) (map (λ (e : List ℕ × List ℕ). e.0) es)
unfolding IsStrictlySortedBy
keys_rise [] sorted = tt
keys_rise (e ∷ es) sorted =
    (below_keys e.0 es (first_holds _ _ sorted), keys_rise es (second_holds _ _ sorted))

-- where the files are told, so many of their names have P
pub told_named : (files : Option Files) (P : List ℕ → Type 0) (names : List (List ℕ)) (n : ℕ)
    → Lists files names → IsCount P names n → IfSome files (λ held. AreNamed held P n)
told_named None P names n lists is = tt
told_named (Some held) P names n lists is =
    are_named held P names n
    (subst (IsStrictlySortedBy (slice_cmp nat_cmp)) (sym lists)
    (keys_rise (finmap.entries held) (finmap.entries_sorted held)))
    (held_of held names lists) (listed_of held names lists) is
