-- Which seats are in hand when a path is closed.
use Rattle.std.proofs.Common.{
  ◌≡◌,
  ◌⊎◌,
  ℕ,
  zero,
  suc,
  ◌+◌,
  ◌<◌,
  ◌≤◌,
  ◌==◌,
  cond,
  Bool,
  true,
  false,
  List,
  [],
  ◌∷◌,
  ◌++◌,
  map,
  reverse,
  refl,
  sym,
  ap,
  ◌∙◌,
  subst,
  ⊎_elim,
  arith,
  eq-eqb,
  ne_eqb,
}
use Rattle.std.specs.List.{All, Contains, count_by, range_with_len}
use Rattle.std.specs.List.Sorted.{IsPermutation}
use Rattle.std.proofs.lemmas.List.{map-append}
use Rattle.std.proofs.lemmas.List.Elements.{
  All-nil,
  All-cons,
  All-head,
  All-tail,
  All-push,
  Contains-append_right,
  Contains-push_cases,
}
use Rattle.std.proofs.lemmas.List.FromFn.{length-range_with_len, get_or-range_with_len}
use Rattle.std.proofs.lemmas.List.Sorted.{
  All-permutation,
  Contains-permutation,
  IsPermutation-map,
  IsPermutation-reverse,
  IsPermutation-sym,
  sum_by-IsPermutation,
}
use Rattle.std.proofs.lemmas.List.Sums.{sum_by-cons}
use mathlib.Core.Logic.{dite, inl, inr}
use native.Mathlib.Decide.{ℕ_discrete}
use mathlib.Core.Option.{some}
use lib.ListN.{get_elem?}
use Rattle.path_rule.specs.declared.view.Returned.{Returned}
use Rattle.path_table.specs.declared.trying.PathSeat.{PathSeat}
use Rattle.path_table.specs.Members.{returned_of}
use Rattle.write_path.specs.Closed.{returned_by}
use Rattle.write_path.specs.Opened.{numbers_of}

-- ---- each number of a range is there once

count_as : (w z : ℕ) (zs : List ℕ) (b : Bool) → (w == z) ≡ b
    → count_by (λ (y : ℕ). w == y) (z ∷ zs) ≡ cond b 1 0 + count_by (λ (y : ℕ). w == y) zs
count_as w z zs b q = sum_by-cons (λ (y : ℕ). cond (w == y) 1 0) z zs
    ∙ ap (λ (c : Bool). cond {A = ℕ} c 1 0 + count_by (λ (y : ℕ). w == y) zs) q

none_below : (n w a : ℕ) → w < a → count_by (λ (y : ℕ). w == y) (range_with_len a n) ≡ 0
none_below zero w a l = refl
none_below (suc n) w a l = count_as w a (range_with_len (a + 1) n) false
    (ne_eqb w a (λ e. omega arith))
    ∙ ap (λ (k : ℕ). 0 + k) (none_below n w (a + 1) (omega arith))

once_in : (n w a : ℕ) → a ≤ w → w < a + n → count_by (λ (y : ℕ). w == y) (range_with_len a n) ≡ 1
once_in zero w a l m = absurd (omega arith)
once_in (suc n) w a l m = dite (ℕ_discrete w a)
    (λ same. count_as w a (range_with_len (a + 1) n) true (eq-eqb w a same)
    ∙ ap (λ (k : ℕ). 1 + k) (none_below n w (a + 1) (omega arith)))
    (λ far. count_as w a (range_with_len (a + 1) n) false (ne_eqb w a far)
    ∙ ap (λ (k : ℕ). 0 + k) (once_in n w (a + 1) (omega arith) (omega arith)))

pub each_once : (n : ℕ) (ws : List ℕ) → IsPermutation (range_with_len 0 n) ws
    → (w : ℕ) → w < n → count_by (λ (z : ℕ). w == z) ws ≡ 1
each_once n ws p w l = sum_by-IsPermutation (λ (z : ℕ). cond (w == z) 1 0) (range_with_len 0 n) ws p
    ∙ once_in n w 0 (omega arith) (omega arith)

contains_range : (n w : ℕ) → w < n → Contains (range_with_len 0 n) w
contains_range n w l = let long = length-range_with_len 0 n in
    (w, omega arith, get_or-range_with_len 0 n w w l ∙ omega arith)

-- each number is that of a seat
pub each_there : (n : ℕ) (ws : List ℕ) → IsPermutation (range_with_len 0 n) ws
    → (w : ℕ) → w < n → Contains ws w
each_there n ws p w l = Contains-permutation (range_with_len 0 n) ws w p (contains_range n w l)

at_number : (L : List Returned) (z : ℕ) → Contains (map (λ (b : Returned). b.number) L) z
    → (n : ℕ) × (b : Returned) × (get_elem? L n ≡ some b) × (b.number ≡ z)
at_number [] z (k, l, e) = absurd (omega arith)
at_number (b ∷ L) z (zero, l, e) = (0, b, refl, e)
at_number (b ∷ L) z (suc k, l, e) = let r = at_number L z (k, omega arith, e) in
    (suc r.0, r.1, r.2, r.3)

from_each : (Q : Returned → Type 0) (L : List Returned)
    → ((n : ℕ) (b : Returned) → get_elem? L n ≡ some b → Q b) → All Q L
from_each Q [] each = All-nil Q
from_each Q (b ∷ L) each = All-cons Q b L (each 0 b refl)
    (from_each Q L (λ n c e. each (suc n) c e))

all_right : (Q : Returned → Type 0) (xs ys : List Returned) → All Q (xs ++ ys) → All Q ys
all_right Q [] ys a = a
all_right Q (x ∷ xs) ys a = all_right Q xs ys (All-tail Q x (xs ++ ys) a)

-- a number is the one that is in hand, or of a seat that was taken in
abbrev pub told_of : ℕ → List Returned → ℕ → Type 0
told_of number returned z = (z ≡ number)
    ⊎ ((n : ℕ) × (b : Returned) × (get_elem? returned n ≡ some b) × (b.number ≡ z))

module _ {K : Type 0} where
  -- ---- a number that is there is that of a seat that was taken in

  numbers_told : (xs : List (PathSeat K))
      → numbers_of xs ≡ map (λ (b : Returned). b.number) (returned_by xs)
  numbers_told [] = refl
  numbers_told (x ∷ xs) = ap (λ (l : List ℕ). x.member.number ∷ l) (numbers_told xs)

  pub has_all : (before : List Returned) (xs : List (PathSeat K)) (s : PathSeat K) (z : ℕ)
      → Contains (numbers_of (xs ++ s ∷ [])) z
      → told_of s.member.number (before ++ returned_by (reverse xs)) z
  has_all before xs s z h = let number = λ (b : Returned). b.number in
      let R = returned_by (reverse xs) in ⊎_elim
      (λ old. inr (at_number (before ++ R) z (subst (λ l. Contains l z)
      (sym (map-append number before R))
      (Contains-append_right (map number before) (map number R) z
      (subst (λ l. Contains l z) (numbers_told (reverse xs))
      (Contains-permutation (numbers_of xs) (numbers_of (reverse xs)) z
      (IsPermutation-map (λ (p : PathSeat K). p.member.number) xs (reverse xs)
      (IsPermutation-reverse xs)) old))))))
      (λ e. inl (sym e))
      (Contains-push_cases (numbers_of xs) s.member.number z
      (subst (λ l. Contains l z) (map-append (λ (p : PathSeat K). p.member.number) xs (s ∷ [])) h))

  -- ---- what holds of all that were taken in holds of each seat

  all_told : (Q : Returned → Type 0) (xs : List (PathSeat K)) → All Q (returned_by xs)
      → All (λ (s : PathSeat K). Q (returned_of s.member)) xs
  all_told Q [] a = All-nil (λ (s : PathSeat K). Q (returned_of s.member))
  all_told Q (x ∷ xs) a = All-cons (λ (s : PathSeat K). Q (returned_of s.member)) x xs
      (All-head Q (returned_of x.member) (returned_by xs) a)
      (all_told Q xs (All-tail Q (returned_of x.member) (returned_by xs) a))

  pub all_own : (Q : Returned → Type 0) (before : List Returned) (xs : List (PathSeat K))
      (s : PathSeat K) → ((n : ℕ) (b : Returned)
      → get_elem? (returned_of s.member ∷ (before ++ returned_by (reverse xs))) n ≡ some b → Q b)
      → All (λ (p : PathSeat K). Q (returned_of p.member)) (xs ++ s ∷ [])
  all_own Q before xs s each = let P = λ (p : PathSeat K). Q (returned_of p.member) in
      let L = before ++ returned_by (reverse xs) in
      let all = from_each Q (returned_of s.member ∷ L) each in
      All-push P xs s
      (All-permutation P (reverse xs) xs
      (IsPermutation-sym xs (reverse xs) (IsPermutation-reverse xs))
      (all_told Q (reverse xs) (all_right Q before (returned_by (reverse xs))
      (All-tail Q (returned_of s.member) L all))))
      (All-head Q (returned_of s.member) L all)
