use Rattle.std.proofs.Common.{
  ◌≡◌,
  ℕ,
  zero,
  suc,
  ◌+◌,
  ◌/◌,
  ◌%◌,
  ◌^◌,
  ◌<◌,
  ◌≤◌,
  List,
  [],
  ◌∷◌,
  ◌++◌,
  pos,
  codes,
  decimal,
  ap,
  ap₂,
  ◌∙◌,
  arith,
  lit<,
  lit≤,
}
use Rattle.std.proofs.lemmas.Fmt.{decimal_digit, decimal_step}
use Rattle.clog_base.specs.declared.cell.Kind.TheVariants.{Live}
use Rattle.clog_mutation.specs.declared.mutation.Mutation.{Mutation}
use Rattle.clog_text.specs.Made.{made_line, made_lines}
use Rattle.clog_text.proofs.generator.made_laws.Goals as goal

-- ---- a number of so many digits behind its first, written out

abbrev HasDigits : ℕ → ℕ → Type 0
HasDigits zero n = n < 10
HasDigits (suc k) n = (10 ≤ n) × HasDigits k (n / 10)

abbrev written : ℕ → ℕ → List ℕ
written zero n = (48 + n) ∷ []
written (suc k) n = written k (n / 10) ++ (48 + n % 10) ∷ []

is_written : (k n : ℕ) → HasDigits k n → n < 2 ^ 64 → decimal n ≡ written k n
is_written zero n one fits = decimal_digit n one
is_written (suc k) n more fits =
    decimal_step n more.0 fits
    ∙ ap (λ (l : List ℕ). l ++ (48 + n % 10) ∷ []) (is_written k (n / 10) more.1 (omega arith))

-- a line of one live update
abbrev line : ℕ → ℕ → List ℕ → List ℕ → List ℕ → Mutation
line table ts key column value = record {
  key = codes "k" ++ key;
  updates = record {
    table = record { 0 = table };
    column = codes "c" ++ column;
    cell = record { ts = pos ts; kind = Live; value = codes "v" ++ value };
  } ∷ [];
}

line_is : (table ts : ℕ) (key column value k c v : List ℕ) → key ≡ k → column ≡ c → value ≡ v
    → line table ts key column value ≡ line table ts k c v
line_is table ts key column value k c v e f g =
    ap (λ (l : List ℕ). line table ts l column value) e
    ∙ ap₂ (λ (l m : List ℕ). line table ts k l m) f g

first_line : made_line 1025555898 ≡ line 0 3360 (codes "648") (codes "4") (codes "1025555898")
first_line =
    line_is 0 3360 (decimal 648) (decimal 4) (decimal 1025555898) (codes "648") (codes "4")
    (codes "1025555898") (is_written 2 648 (lit≤ tt, (lit≤ tt, lit< tt)) (lit< tt))
    (is_written 0 4 (lit< tt) (lit< tt))
    (is_written 9 1025555898 (
      lit≤ tt,
      (
        lit≤ tt,
        (
          lit≤ tt,
          (
            lit≤ tt,
            (lit≤ tt, (lit≤ tt, (lit≤ tt, (lit≤ tt, (lit≤ tt, lit< tt))))),
          ),
        ),
      ),
    )
    (lit< tt))

second_line : made_line 3923423697 ≡ line 1 2522 (codes "866") (codes "3") (codes "3923423697")
second_line =
    line_is 1 2522 (decimal 866) (decimal 3) (decimal 3923423697) (codes "866") (codes "3")
    (codes "3923423697") (is_written 2 866 (lit≤ tt, (lit≤ tt, lit< tt)) (lit< tt))
    (is_written 0 3 (lit< tt) (lit< tt))
    (is_written 9 3923423697 (
      lit≤ tt,
      (
        lit≤ tt,
        (
          lit≤ tt,
          (
            lit≤ tt,
            (lit≤ tt, (lit≤ tt, (lit≤ tt, (lit≤ tt, (lit≤ tt, lit< tt))))),
          ),
        ),
      ),
    )
    (lit< tt))

pub returns-clause-first : goal.returns-clause-first
returns-clause-first c = ap (λ (l : Mutation). l ∷ []) first_line

pub returns-clause-second : goal.returns-clause-second
returns-clause-second c =
    ap (λ (l : Mutation). made_lines 7 1 ++ l ∷ []) second_line
