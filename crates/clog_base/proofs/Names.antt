-- The names of files are names.
use Rattle.std.proofs.Common.{
  ◌≡◌,
  ℕ,
  ◌+◌,
  ◌*◌,
  ◌%◌,
  ◌^◌,
  ◌<◌,
  ◌≤◌,
  List,
  [],
  ◌∷◌,
  ◌++◌,
  length,
  Bool,
  true,
  ◌&&◌,
  codes,
  decimal,
  refl,
  ap,
  ap₂,
  ◌∙◌,
  arith,
  length-append,
}
use Rattle.std.specs.List.{list_all}
use Rattle.std.proofs.lemmas.List.Folds.{list_all-append}
use Rattle.std.proofs.lemmas.Bool.Decides.{nat_tests}
use Rattle.std.proofs.lemmas.Fmt.{decimal_by_steps, length-decimal-le}
use Rattle.clog_spec.specs.Names.{is_name, is_name_byte}
use Rattle.clog_spec.specs.Sizes.{longest_file_name}
use Rattle.clog_base.specs.NameText.{most_digits, numbered, two_numbered}

digit_is_name_byte : (d : ℕ) → d < 10 → is_name_byte (48 + d) ≡ true
digit_is_name_byte d h = grind (arith, nat_tests)

both_are : (xs ys : List ℕ) → list_all is_name_byte xs ≡ true → list_all is_name_byte ys ≡ true
    → list_all is_name_byte (xs ++ ys) ≡ true
both_are xs ys p q = list_all-append is_name_byte xs ys ∙ ap₂ (λ (a b : Bool). a && b) p q

one_digit : (d : ℕ) → d < 10 → list_all is_name_byte ((48 + d) ∷ []) ≡ true
one_digit d h = ap (λ (b : Bool). b && true) (digit_is_name_byte d h)

-- the digits of a number are bytes of a name
pub digits_are : (n : ℕ) → n < 2 ^ 64 → list_all is_name_byte (decimal n) ≡ true
digits_are n h =
    decimal_by_steps (λ n ds. list_all is_name_byte ds ≡ true) one_digit
    (λ n ds ten p. both_are ds ((48 + n % 10) ∷ []) p (one_digit (n % 10) (omega arith))) n h

-- bytes of a name, few enough and not none, are a name
is_name_by : (bytes : List ℕ) → list_all is_name_byte bytes ≡ true → 0 < length bytes
    → length bytes ≤ longest_file_name → is_name bytes ≡ true
is_name_by bytes all some few = grind (arith, nat_tests)

digits_few : (n : ℕ) → n < 2 ^ 64 → length (decimal n) ≤ most_digits
digits_few n h = length-decimal-le most_digits n (omega arith) (omega arith) h

pub numbered_is_name : (front : List ℕ) (n : ℕ) (back : List ℕ) → n < 2 ^ 64
    → list_all is_name_byte front ≡ true → list_all is_name_byte back ≡ true
    → 0 < length front → length front + length back + most_digits ≤ longest_file_name
    → is_name (numbered front n back) ≡ true
numbered_is_name front n back fits front_is back_is some few =
    let e : length (numbered front n back) ≡ length front + length (decimal n) + length back =
    length-append (front ++ decimal n) back
    ∙ ap (λ k. k + length back) (length-append front (decimal n)) in
    is_name_by (numbered front n back)
    (both_are (front ++ decimal n) back (both_are front (decimal n) front_is (digits_are n fits))
    back_is)
    (omega (arith, e)) (omega (arith, e, digits_few n fits))

pub two_numbered_is_name : (front : List ℕ) (m n : ℕ) (back : List ℕ) → m < 2 ^ 64 → n < 2 ^ 64
    → list_all is_name_byte front ≡ true → list_all is_name_byte back ≡ true
    → 0 < length front → length front + length back + 2 * most_digits + 1 ≤ longest_file_name
    → is_name (two_numbered front m n back) ≡ true
two_numbered_is_name front m n back fits_m fits_n front_is back_is some few =
    let dash : list_all is_name_byte (codes "-") ≡ true = refl in
    let head = front ++ decimal m in
    let e : length (two_numbered front m n back)
    ≡ length front + length (decimal m) + 1 + length (decimal n) + length back =
    length-append (head ++ codes "-" ++ decimal n) back
    ∙ ap (λ k. k + length back) (length-append (head ++ codes "-") (decimal n)
    ∙ ap (λ k. k + length (decimal n)) (length-append head (codes "-")
    ∙ ap (λ k. k + 1) (length-append front (decimal m)))) in
    is_name_by (two_numbered front m n back)
    (both_are (head ++ codes "-" ++ decimal n) back
    (both_are (head ++ codes "-") (decimal n)
    (both_are head (codes "-") (both_are front (decimal m) front_is (digits_are m fits_m))
    dash)
    (digits_are n fits_n))
    back_is)
    (omega (arith, e)) (omega (arith, e, digits_few m fits_m, digits_few n fits_n))

pub name_is_short : (bytes : List ℕ) → is_name bytes ≡ true → length bytes ≤ longest_file_name
name_is_short bytes h = grind (arith, nat_tests)
