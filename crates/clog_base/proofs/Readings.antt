-- Numbers are read from a text exactly where they were written into it.
use Rattle.std.proofs.Common.{
  ◌≡◌,
  ◌≢◌,
  ℕ,
  ◌+◌,
  ◌%◌,
  ◌^◌,
  ◌<◌,
  List,
  [],
  ◌∷◌,
  ◌++◌,
  length,
  take,
  drop,
  get_or,
  Bool,
  true,
  false,
  ◌&&◌,
  ◌==◌,
  not,
  cond,
  eqb,
  Option,
  Some,
  None,
  codes,
  decimal,
  refl,
  ap,
  ap₂,
  ◌∙◌,
  sym,
  arith,
  append_assoc,
  length-append,
  inl,
  inr,
  MatchOption,
  unwrap_or,
  add-one,
  drop-cons,
  Bor,
}
use Rattle.std.specs.List.{list_all, position, position_or_len, prefix_len}
use Rattle.std.specs.Bool.{Decides}
use Rattle.std.proofs.Math.Seq.{take-append_seam, drop-append-add, drop-append_seam}
use Rattle.std.proofs.lemmas.List.{take-append-drop}
use Rattle.std.proofs.lemmas.List.Folds.{list_all-append}
use Rattle.std.proofs.lemmas.List.Quantifiers.{position-Some}
use Rattle.std.proofs.lemmas.Bool.Decides.{Decides-eqb, eqb_tells, nat_tests}
use Rattle.std.proofs.lemmas.Fmt.{decimal_by_steps}
use Rattle.clog_base.specs.NameReading.{IsNoNumber, IsNoPair, IsNotBetween}

pub nat_decides : (a b : ℕ) → Decides (eqb a b) (a ≡ b)
nat_decides a b = Decides-eqb a b

-- what does not begin with the front stands behind no front
pub not_between-front : (front back bytes : List ℕ) → ((rest : List ℕ) → bytes ≢ front ++ rest)
    → IsNotBetween front back bytes
not_between-front front back bytes none middle e =
    none (middle ++ back) (e ∙ append_assoc front middle back)

-- nor what ends otherwise behind the front
pub not_between-back : (front back bytes rest : List ℕ) → bytes ≡ front ++ rest
    → ((middle : List ℕ) → rest ≢ middle ++ back) → IsNotBetween front back bytes
not_between-back front back bytes rest is none middle e =
    none middle
    (sym (drop-append_seam front rest) ∙ ap (drop (length front)) (sym is ∙ e
    ∙ append_assoc front middle back)
    ∙ drop-append_seam front (middle ++ back))

-- what is found between them, and where nothing is
pub not_between : (front back bytes : List ℕ) (rest : Bor (List ℕ)) (r : Option (Bor (List ℕ)))
    → bytes ≡ front ++ rest.now
    → MatchOption r ((middle : List ℕ) → rest.now ≢ middle ++ back)
    (λ middle. rest.now ≡ middle.now ++ back)
    → MatchOption r (IsNotBetween front back bytes)
    (λ middle. bytes ≡ front ++ middle.now ++ back)
not_between front back bytes rest None is none =
    not_between-back front back bytes rest.now is none
not_between front back bytes rest (Some middle) is found =
    is ∙ ap (λ l. front ++ l) found ∙ sym (append_assoc front middle.now back)

-- not a dash
abbrev pub is_no_dash : ℕ → Bool
is_no_dash b = not (b == 45)

digit_is_no_dash : (d : ℕ) → d < 10 → is_no_dash (48 + d) ≡ true
digit_is_no_dash d h = grind (arith, nat_tests)

no_dash_in_digit : (d : ℕ) → d < 10 → list_all is_no_dash ((48 + d) ∷ []) ≡ true
no_dash_in_digit d h = ap (λ (b : Bool). b && true) (digit_is_no_dash d h)

no_dash_in_both : (xs ys : List ℕ) → list_all is_no_dash xs ≡ true → list_all is_no_dash ys ≡ true
    → list_all is_no_dash (xs ++ ys) ≡ true
no_dash_in_both xs ys p q =
    list_all-append is_no_dash xs ys ∙ ap₂ (λ (a b : Bool). a && b) p q

no_dash_in_digits : (n : ℕ) → n < 2 ^ 64 → list_all is_no_dash (decimal n) ≡ true
no_dash_in_digits n h =
    decimal_by_steps (λ n ds. list_all is_no_dash ds ≡ true) no_dash_in_digit
    (λ n ds ten p. no_dash_in_both ds ((48 + n % 10) ∷ []) p
    (no_dash_in_digit (n % 10) (omega arith))) n h

-- the first dash stands behind the bytes that are none
first_dash : (xs rest : List ℕ) → list_all is_no_dash xs ≡ true
    → prefix_len (λ b. not (b == 45)) (xs ++ 45 ∷ rest) ≡ length xs
first_dash [] rest none = refl
first_dash (x ∷ xs) rest none = elim (eqb_tells x 45) [
  | inl dash ↦
      let no : false ≡ true =
      sym (ap (λ b. not b && list_all is_no_dash xs) dash.0) ∙ none in cc
  | inr other ↦
      let tail : list_all is_no_dash xs ≡ true =
      sym (ap (λ b. not b && list_all is_no_dash xs) other.0) ∙ none in
      ap (λ b. cond (not b) (1 + prefix_len (λ b. not (b == 45)) (xs ++ 45 ∷ rest)) 0) other.0
      ∙ ap (λ k. 1 + k) (first_dash xs rest tail) ∙ omega arith
]

pub some_injective : (a b : ℕ) → Some a ≡ Some b → a ≡ b
some_injective a b e = ap (λ o. unwrap_or o 0) e

pub dash_position : (m n : ℕ) (bytes : List ℕ) → m < 2 ^ 64
    → bytes ≡ decimal m ++ codes "-" ++ decimal n
    → position (λ b. b == 45) bytes ≡ Some (length (decimal m))
dash_position m n bytes fits is =
    let written : bytes ≡ decimal m ++ 45 ∷ decimal n =
    is ∙ append_assoc (decimal m) (codes "-") (decimal n) in
    let at : position_or_len (λ b. b == 45) bytes ≡ length (decimal m) =
    ap (position_or_len (λ b. b == 45)) written
    ∙ first_dash (decimal m) (decimal n) (no_dash_in_digits m fits) in
    let long : length (decimal m) < length bytes =
    omega (arith, ap length written, length-append (decimal m) (45 ∷ decimal n)) in
    grind (arith, nat_tests, at, long)

-- A text whose first dash has no number before it, or none behind it, is no pair.
pub no_pair-first : (bytes : List ℕ) (at : ℕ) → position (λ b. b == 45) bytes ≡ Some at
    → IsNoNumber (take at bytes) → IsNoPair bytes
no_pair-first bytes at dash none m n fits_m fits_n is =
    let e : length (decimal m) ≡ at =
    some_injective (length (decimal m)) at (sym (dash_position m n bytes fits_m is) ∙ dash) in
    none m fits_m
    (ap (λ k. take k bytes) (sym e)
    ∙ ap (take (length (decimal m))) (is ∙ append_assoc (decimal m) (codes "-") (decimal n))
    ∙ take-append_seam (decimal m) (codes "-" ++ decimal n))

pub no_pair-second : (bytes : List ℕ) (at : ℕ) → position (λ b. b == 45) bytes ≡ Some at
    → IsNoNumber (drop (at + 1) bytes) → IsNoPair bytes
no_pair-second bytes at dash none m n fits_m fits_n is =
    let e : length (decimal m) ≡ at =
    some_injective (length (decimal m)) at (sym (dash_position m n bytes fits_m is) ∙ dash) in
    none n fits_n
    (ap (λ k. drop (k + 1) bytes) (sym e)
    ∙ ap (drop (length (decimal m) + 1))
    (is ∙ append_assoc (decimal m) (codes "-") (decimal n))
    ∙ drop-append-add (decimal m) (45 ∷ decimal n) 1)

pub no_pair-dash : (bytes : List ℕ) → position (λ b. b == 45) bytes ≡ None → IsNoPair bytes
no_pair-dash bytes dash m n fits_m fits_n is =
    let e : None ≡ Some (length (decimal m)) = sym dash ∙ dash_position m n bytes fits_m is in cc

pub is_pair : (bytes : List ℕ) (at m n : ℕ) → position (λ b. b == 45) bytes ≡ Some at
    → take at bytes ≡ decimal m → drop (at + 1) bytes ≡ decimal n
    → bytes ≡ decimal m ++ codes "-" ++ decimal n
is_pair bytes at m n dash first second =
    let found = position-Some (λ b. b == 45) bytes at 0 dash in
    let is_dash : get_or bytes at 0 ≡ 45 = (Decides-eqb (get_or bytes at 0) 45).0 found.1 in
    sym (take-append-drop at bytes)
    ∙ ap (λ l. take at bytes ++ l) (drop-cons bytes at 0 found.0
    ∙ ap (λ k. get_or bytes at 0 ∷ drop k bytes) (sym (add-one at)))
    ∙ ap₂ (λ (l r : List ℕ). l ++ r) first
    (ap₂ (λ (b : ℕ) (r : List ℕ). b ∷ r) is_dash second)
    ∙ sym (append_assoc (decimal m) (codes "-") (decimal n))
