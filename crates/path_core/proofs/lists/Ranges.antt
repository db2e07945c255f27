-- Tests over a range of numbers, and over what passes another test.
use Rattle.std.proofs.Common.{
  ◌≡◌,
  ℕ,
  zero,
  suc,
  ◌+◌,
  ◌-◌,
  ◌<◌,
  ◌≤◌,
  ◌&&◌,
  ◌||◌,
  not,
  Bool,
  true,
  false,
  cond,
  List,
  [],
  ◌∷◌,
  ◌++◌,
  refl,
  ap,
  ◌∙◌,
  arith,
  append-nil,
}
use Rattle.std.specs.List.{list_all, filter, range_with_len}
use Rattle.std.proofs.lemmas.List.Elements.{filter-append}
use Rattle.std.proofs.lemmas.List.Folds.{list_all_at}
use Rattle.std.proofs.lemmas.List.FromFn.{length-range_with_len, get_or-range_with_len}
use Rattle.std.proofs.lemmas.List.Sums.{list_all-from_AllPass}
use Rattle.path_core.proofs.lists.Passing.{all_to}

pub range_all : (p : ℕ → Bool) (a n : ℕ) → ((k : ℕ) → a ≤ k → k < a + n → p k ≡ true)
    → list_all p (range_with_len a n) ≡ true
range_all p a n each = list_all-from_AllPass p (range_with_len a n) (λ k d inside.
    let long = length-range_with_len a n in
    ap p (get_or-range_with_len a n k d (omega arith)) ∙ each (a + k) (omega arith) (omega arith))

pub range_fails : (p : ℕ → Bool) (a n k : ℕ) → a ≤ k → k < a + n → p k ≡ false
    → list_all p (range_with_len a n) ≡ false
range_fails p a n k above below fails =
    let long = length-range_with_len a n in
    let is : a + (k - a) ≡ k = omega arith in
    list_all_at p (range_with_len a n) (k - a) 0 (omega arith)
    (ap p (get_or-range_with_len a n (k - a) 0 (omega arith) ∙ is) ∙ fails)

range_suc : (a n : ℕ) → range_with_len a (suc n) ≡ range_with_len a n ++ (a + n) ∷ []
range_suc a zero = ap (λ (k : ℕ). k ∷ []) (let e : a ≡ a + 0 = omega arith in e)
range_suc a (suc n) = ap (λ l. a ∷ l) (range_suc (a + 1) n
    ∙ ap (λ (k : ℕ). range_with_len (a + 1) n ++ k ∷ [])
    (let e : a + 1 + n ≡ a + suc n = omega arith in e))

range_more : (i : ℕ) → range_with_len 0 (i + 1) ≡ range_with_len 0 i ++ i ∷ []
range_more i =
    ap (range_with_len 0) (let e : i + 1 ≡ suc i = omega arith in e)
    ∙ (range_suc 0 i ∙ ap (λ (k : ℕ). range_with_len 0 i ++ k ∷ [])
    (let e : 0 + i ≡ i = omega arith in e))

-- one number more, which passes or does not
pub filter-range_kept : (p : ℕ → Bool) (i : ℕ) → p i ≡ true
    → filter p (range_with_len 0 (i + 1)) ≡ filter p (range_with_len 0 i) ++ i ∷ []
filter-range_kept p i passes =
    ap (filter p) (range_more i) ∙ (filter-append p (range_with_len 0 i) (i ∷ [])
    ∙ ap (λ b. filter p (range_with_len 0 i) ++ cond b (i ∷ []) []) passes)

pub filter-range_left : (p : ℕ → Bool) (i : ℕ) → p i ≡ false
    → filter p (range_with_len 0 (i + 1)) ≡ filter p (range_with_len 0 i)
filter-range_left p i fails =
    ap (filter p) (range_more i) ∙ (filter-append p (range_with_len 0 i) (i ∷ [])
    ∙ (ap (λ b. filter p (range_with_len 0 i) ++ cond b (i ∷ []) []) fails
    ∙ append-nil (filter p (range_with_len 0 i))))

kept_by : {X : Type 0} (p q : X → Bool) (x : X) (xs : List X) (b : Bool)
    → list_all (λ y. not (q y) || p y) xs ≡ list_all p (filter q xs)
    → ((not b || p x) && list_all (λ y. not (q y) || p y) xs)
    ≡ list_all p (cond b (x ∷ filter q xs) (filter q xs))
kept_by p q x xs true e = ap (λ r. p x && r) e
kept_by p q x xs false e = e

-- a test of those that pass another
pub all_kept : {X : Type 0} (p q : X → Bool) (xs : List X)
    → list_all (λ x. not (q x) || p x) xs ≡ list_all p (filter q xs)
all_kept p q [] = refl
all_kept p q (x ∷ xs) = kept_by p q x xs (q x) (all_kept p q xs)

-- each key from one to another passes a test that all of the range pass
pub in_range : (p : ℕ → Bool) (from to key : ℕ) → list_all p (range_with_len from
    (to + 1 - from)) ≡ true
    → from ≤ key → key ≤ to → p key ≡ true
in_range p from to key t low high = all_to p (range_with_len from (to + 1 - from)) key t (
  key - from,
  (let l = length-range_with_len from (to + 1 - from) in omega arith),
  get_or-range_with_len from (to + 1 - from) (key - from) key (omega arith) ∙ omega arith,
)
