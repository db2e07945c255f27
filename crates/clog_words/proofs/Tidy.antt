-- Options are tidy where each is one of the command's, none is there twice, and each has a value
-- where it should.
use Rattle.std.proofs.Common.{
  ◌≡◌,
  ◌≤◌,
  ◌+◌,
  List,
  [],
  ◌∷◌,
  ◌++◌,
  ◌||◌,
  ◌&&◌,
  Bool,
  true,
  false,
  nat_le,
  count_by,
  Option,
  Some,
  unwrap_or,
  if◌then◌else◌,
  refl,
  ap,
  ap₂,
  subst,
  sym,
  ◌∙◌,
  arith,
}
use Rattle.std.proofs.lemmas.Bool.{le-leb}
use Rattle.std.proofs.lemmas.List.Folds.{list_any-append}
use Rattle.std.proofs.lemmas.List.Sums.{sum_by-append}
use Rattle.std.proofs.lemmas.Slice.Eq.{bytes_eq-Decides}
use Rattle.std.specs.List.{list_all, list_any}
use Rattle.std.specs.Str.{bytes_eq}
use Rattle.clap.specs.Walk.{Row, Text, has_row}
use Rattle.clog_words.specs.Given.{Setting, is_named, said}
use Rattle.clog_words.specs.Options.{Known, known_as, names_in}
use Rattle.clog_words.proofs.Rows.{same_text}
use Rattle.clog_words.proofs.Uses.{row_of}
use Rattle.clog_words.proofs.TidyOptions.{IsFit, IsTidy}

or_true : (b : Bool) → (b || true) ≡ true
or_true true = refl
or_true false = refl

-- ---- counting

module _ {X : Type 0} (test : X → Bool) where
  pub count_yes : (x : X) (xs : List X) → test x ≡ true
      → count_by test (x ∷ xs) ≡ 1 + count_by test xs
  count_yes x xs e =
      let one : count_by test (x ∷ []) ≡ 1 = rw (e) refl in
      omega (arith, sum_by-append (λ y. if test y then 1 else 0) (x ∷ []) xs, one)

  pub count_no : (x : X) (xs : List X) → test x ≡ false
      → count_by test (x ∷ xs) ≡ count_by test xs
  count_no x xs e =
      let none : count_by test (x ∷ []) ≡ 0 = rw (e) refl in
      omega (arith, sum_by-append (λ y. if test y then 1 else 0) (x ∷ []) xs, none)

pub count_said : (name : Text) (settings : List Setting) (setting : Setting)
    → said name settings ≡ Some setting → 1 ≤ count_by (is_named name) settings
count_said name [] setting e = absurd (cc)
count_said name (first ∷ settings) setting e =
    go (is_named name first) refl (count_said name settings setting) e
  where
    go : (b : Bool) → is_named name first ≡ b
        → (said name settings ≡ Some setting → 1 ≤ count_by (is_named name) settings)
        → (if b then Some first else said name settings) ≡ Some setting
        → 1 ≤ count_by (is_named name) (first ∷ settings)
    go true is more e = omega (arith, count_yes (is_named name) first settings is)
    go false is more e = omega (arith, count_no (is_named name) first settings is, more e)

-- ---- the options of a command by their names

any_known : (options : List Known) (name : Text) (known : Known)
    → known_as name options ≡ Some known
    → list_any (λ other. bytes_eq other name) (names_in options) ≡ true
any_known [] name known e = absurd (cc)
any_known (first ∷ options) name known e =
    go (bytes_eq first.name name) (any_known options name known) e
  where
    go : (b : Bool)
        → (known_as name options ≡ Some known
        → list_any (λ other. bytes_eq other name) (names_in options) ≡ true)
        → (if b then Some first else known_as name options) ≡ Some known
        → (b || list_any (λ other. bytes_eq other name) (names_in options)) ≡ true
    go true more e = refl
    go false more e = more e

pub known_any : (options : List Known) (name : Text)
    → list_any (λ other. bytes_eq other name) (names_in options) ≡ true
    → (known : Known) × (known_as name options ≡ Some known)
known_any [] name e = absurd (cc)
known_any (first ∷ options) name e =
    go (bytes_eq first.name name) (known_any options name) e
  where
    go : (b : Bool)
        → (list_any (λ other. bytes_eq other name) (names_in options) ≡ true
        → (known : Known) × (known_as name options ≡ Some known))
        → (b || list_any (λ other. bytes_eq other name) (names_in options)) ≡ true
        → (known : Known) × ((if b then Some first else known_as name options) ≡ Some known)
    go true more e = (first, refl)
    go false more e = more e

-- ---- what tidy options are

pub all_known : (options : List Known) (rows : List Row) (settings : List Setting)
    → IsTidy options rows settings
    → list_all (λ setting. list_any (λ name. is_named name setting) (names_in options)) settings
    ≡ true
all_known options rows [] tidy = refl
all_known options rows (setting ∷ settings) tidy =
    ap₂ (λ (a b : Bool). a && b) (any_known options setting.name _ tidy.1)
    (all_known options (rows ++ row_of setting ∷ []) settings tidy.2)

pub row_more : (name : Text) (rows : List Row) (setting : Setting)
    → has_row name (rows ++ row_of setting ∷ [])
    ≡ (has_row name rows || (bytes_eq setting.name name || false))
row_more name rows setting =
    list_any-append (λ (row : Row). bytes_eq row.id name) rows (row_of setting ∷ [])

counted_once : (options : List Known) (settings : List Setting) (rows : List Row) (name : Text)
    → IsTidy options rows settings
    → (has_row name rows ≡ true → count_by (is_named name) settings ≡ 0)
    × (count_by (is_named name) settings ≤ 1)
counted_once options [] rows name tidy = ((λ _. refl), omega arith)
counted_once options (setting ∷ settings) rows name tidy =
    go (is_named name setting) refl
    (counted_once options settings (rows ++ row_of setting ∷ []) name tidy.2)
  where
    go : (b : Bool) → is_named name setting ≡ b
        → (has_row name (rows ++ row_of setting ∷ []) ≡ true
        → count_by (is_named name) settings ≡ 0)
        × (count_by (is_named name) settings ≤ 1)
        → (has_row name rows ≡ true → count_by (is_named name) (setting ∷ settings) ≡ 0)
        × (count_by (is_named name) (setting ∷ settings) ≤ 1)
    go true e more =
        let same = (bytes_eq-Decides name setting.name).0 e in
        let there : has_row name (rows ++ row_of setting ∷ []) ≡ true =
        row_more name rows setting
        ∙ ap (λ (b : Bool). has_row name rows || (b || false))
        (same_text setting.name name ∙ e) ∙ or_true (has_row name rows) in (
          (λ has.
              let bad : true ≡ false =
              sym has ∙ ap (λ (n : Text). has_row n rows) same ∙ tidy.0 in absurd (cc)),
          omega (arith, count_yes (is_named name) setting settings e, more.0 there),
        )
    go false e more = (
      (λ has.
          count_no (is_named name) setting settings e
          ∙ more.0 (row_more name rows setting
          ∙ ap (λ (b : Bool). b || (bytes_eq setting.name name || false)) has)),
      omega (arith, count_no (is_named name) setting settings e, more.1),
    )

pub all_once : (options : List Known) (settings : List Setting) (names : List Text)
    → IsTidy options [] settings
    → list_all (λ name. nat_le (count_by (is_named name) settings) 1) names ≡ true
all_once options settings [] tidy = refl
all_once options settings (name ∷ names) tidy =
    ap₂ (λ (a b : Bool). a && b)
    (le-leb (count_by (is_named name) settings) 1
    (counted_once options settings [] name tidy).1)
    (all_once options settings names tidy)

-- an option that is found is fit, and has the name
pub said_fit : (options : List Known) (settings : List Setting) (rows : List Row) (name : Text)
    (setting : Setting) → IsTidy options rows settings → said name settings ≡ Some setting
    → (setting.name ≡ name) × IsFit options setting
said_fit options [] rows name setting tidy e = absurd (cc)
said_fit options (first ∷ settings) rows name setting tidy e =
    go (is_named name first) refl
    (said_fit options settings (rows ++ row_of first ∷ []) name setting tidy.2) e
  where
    go : (b : Bool) → is_named name first ≡ b
        → (said name settings ≡ Some setting → (setting.name ≡ name) × IsFit options setting)
        → (if b then Some first else said name settings) ≡ Some setting
        → (setting.name ≡ name) × IsFit options setting
    go true is more e =
        let same : first ≡ setting = ap (λ (o : Option Setting). unwrap_or o setting) e in
        subst (λ (s : Setting). (s.name ≡ name) × IsFit options s) same
        (sym ((bytes_eq-Decides name first.name).0 is), tidy.1)
    go false is more e = more e
