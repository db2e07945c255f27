-- Options of which each is one of the command's, none is there twice, and each has a value where
-- it should, are tidy.
use Rattle.std.proofs.Common.{
  ◌≡◌,
  ◌≤◌,
  List,
  [],
  ◌∷◌,
  ◌++◌,
  ◌||◌,
  ◌&&◌,
  Bool,
  true,
  false,
  is_some,
  nat_le,
  count_by,
  Option,
  Some,
  unwrap_or,
  if◌then◌else◌,
  refl,
  ap,
  subst,
  sym,
  ◌∙◌,
  arith,
}
use Rattle.std.proofs.lemmas.Bool.{leb-true}
use Rattle.std.proofs.lemmas.Slice.Eq.{bytes_eq-Decides}
use Rattle.std.specs.List.{list_all, list_any}
use Rattle.std.specs.Str.{bytes_eq}
use Rattle.clap.specs.Walk.{Row, Text, has_row}
use Rattle.clog_words.specs.Given.{GivesAll, GivesOf, Setting, is_named, said}
use Rattle.clog_words.specs.Options.{HasKinds, Known, known_as, names_in}
use Rattle.clog_words.proofs.Rows.{same_text}
use Rattle.clog_words.proofs.Uses.{row_of}
use Rattle.clog_words.proofs.TidyOptions.{IsTidy, known_is}
use Rattle.clog_words.proofs.Tidy.{
  all_known,
  all_once,
  count_no,
  count_said,
  count_yes,
  known_any,
  row_more,
}

pub and_both : (a b : Bool) → (a && b) ≡ true → (a ≡ true) × (b ≡ true)
and_both true b e = (refl, e)
and_both false b e = absurd (cc)

count_less : (name : Text) (setting : Setting) (settings : List Setting)
    → count_by (is_named name) settings ≤ count_by (is_named name) (setting ∷ settings)
count_less name setting settings = go (is_named name setting) refl
  where
    go : (b : Bool) → is_named name setting ≡ b
        → count_by (is_named name) settings ≤ count_by (is_named name) (setting ∷ settings)
    go true e = omega (arith, count_yes (is_named name) setting settings e)
    go false e = omega (arith, count_no (is_named name) setting settings e)

-- what is asked of options that come behind these rows
record Follows (options : List Known) (rows : List Row) (settings : List Setting) : Type 0 where
  pub known : list_all (λ setting. list_any (λ name. is_named name setting) (names_in options))
      settings ≡ true
  pub none_again : (name : Text) → has_row name rows ≡ true
      → count_by (is_named name) settings ≡ 0
  pub once : (name : Text) (known : Known) → known_as name options ≡ Some known
      → count_by (is_named name) settings ≤ 1
  pub kinds : (name : Text) (known : Known) (setting : Setting)
      → known_as name options ≡ Some known → said name settings ≡ Some setting
      → is_some setting.value ≡ known.has_value

follows_on : (options : List Known) (rows : List Row) (setting : Setting) (settings : List Setting)
    (known : Known) → known_as setting.name options ≡ Some known
    → Follows options rows (setting ∷ settings)
    → Follows options (rows ++ row_of setting ∷ []) settings
follows_on options rows setting settings known found follows = record {
  known = (and_both _ _ follows.known).1;
  none_again = λ name has. again name (is_named name setting) refl has;
  once = λ name other is.
      let less = count_less name setting settings in
      omega (arith, less, follows.once name other is);
  kinds = λ name other one is e. kind name other one is (is_named name setting) refl e;
}
  where
    again : (name : Text) (b : Bool) → is_named name setting ≡ b
        → has_row name (rows ++ row_of setting ∷ []) ≡ true
        → count_by (is_named name) settings ≡ 0
    again name true e has =
        let same = (bytes_eq-Decides name setting.name).0 e in
        let is : known_as name options ≡ Some known =
        ap (λ (n : Text). known_as n options) same ∙ found in
        omega (arith, count_yes (is_named name) setting settings e, follows.once name known is)
    again name false e has =
        let before : has_row name rows ≡ true =
        before_that (has_row name rows)
        (sym (row_more name rows setting
        ∙ ap (λ (b : Bool). has_row name rows || (b || false))
        (same_text setting.name name ∙ e)) ∙ has) in
        sym (count_no (is_named name) setting settings e) ∙ follows.none_again name before
      where
        before_that : (b : Bool) → (b || (false || false)) ≡ true → b ≡ true
        before_that true e = refl
        before_that false e = e

    kind : (name : Text) (other : Known) (one : Setting) → known_as name options ≡ Some other
        → (b : Bool) → is_named name setting ≡ b → said name settings ≡ Some one
        → is_some one.value ≡ other.has_value
    kind name other one is true e found =
        absurd (omega (
          arith,
          count_yes (is_named name) setting settings e,
          count_said name settings one found,
          follows.once name other is,
        ))
    kind name other one is false e found =
        follows.kinds name other one is
        (ap (λ (b : Bool). if b then Some setting else said name settings) e ∙ found)

tidy_from : (options : List Known) (settings : List Setting) (rows : List Row)
    → Follows options rows settings → IsTidy options rows settings
tidy_from options [] rows follows = tt
tidy_from options (setting ∷ settings) rows follows =
    let known = known_any options setting.name (and_both _ _ follows.known).0 in
    let self = (bytes_eq-Decides setting.name setting.name).1 refl in (
      is_new (has_row setting.name rows) refl self,
      known_is options setting.name known.0 known.1
          ∙ ap (λ (b : Bool). Some (record { name = setting.name; has_value = b }))
          (sym (follows.kinds setting.name known.0 setting known.1
          (ap (λ (b : Bool). if b then Some setting else said setting.name settings) self))),
      tidy_from options settings (rows ++ row_of setting ∷ [])
          (follows_on options rows setting settings known.0 known.1 follows),
    )
  where
    is_new : (b : Bool) → has_row setting.name rows ≡ b
        → bytes_eq setting.name setting.name ≡ true → b ≡ false
    is_new false e self = refl
    is_new true e self =
        absurd (omega (
          arith,
          count_yes (is_named setting.name) setting settings self,
          follows.none_again setting.name e,
        ))

kinds_at : (options : List Known) (settings : List Setting) → HasKinds options settings
    → (name : Text) (known : Known) (setting : Setting) → known_as name options ≡ Some known
    → said name settings ≡ Some setting → is_some setting.value ≡ known.has_value
kinds_at [] settings kinds name known setting found e = absurd (cc)
kinds_at (first ∷ options) settings kinds name known setting found e =
    go (bytes_eq first.name name) refl
    (λ is. kinds_at options settings kinds.1 name known setting is e) found
  where
    go : (b : Bool) → bytes_eq first.name name ≡ b
        → (known_as name options ≡ Some known → is_some setting.value ≡ known.has_value)
        → (if b then Some first else known_as name options) ≡ Some known
        → is_some setting.value ≡ known.has_value
    go true is more f =
        let same : first ≡ known = ap (λ (o : Option Known). unwrap_or o known) f in
        kinds.0 setting
        (ap (λ (n : Text). said n settings) ((bytes_eq-Decides first.name name).0 is) ∙ e)
        ∙ ap (λ (k : Known). k.has_value) same
    go false is more f = more f

once_at : (options : List Known) (settings : List Setting)
    → list_all (λ name. nat_le (count_by (is_named name) settings) 1) (names_in options) ≡ true
    → (name : Text) (known : Known) → known_as name options ≡ Some known
    → count_by (is_named name) settings ≤ 1
once_at [] settings once name known found = absurd (cc)
once_at (first ∷ options) settings once name known found =
    go (bytes_eq first.name name) refl
    (once_at options settings (and_both _ _ once).1 name known) found
  where
    go : (b : Bool) → bytes_eq first.name name ≡ b
        → (known_as name options ≡ Some known → count_by (is_named name) settings ≤ 1)
        → (if b then Some first else known_as name options) ≡ Some known
        → count_by (is_named name) settings ≤ 1
    go true is more f =
        subst (λ (n : Text). count_by (is_named n) settings ≤ 1)
        ((bytes_eq-Decides first.name name).0 is)
        (leb-true (count_by (is_named first.name) settings) 1 (and_both _ _ once).0)
    go false is more f = more f

pub tidy_of : (options : List Known) (settings : List Setting) (words : List Text)
    → GivesOf (names_in options) settings words → HasKinds options settings
    → IsTidy options [] settings
tidy_of options settings words given kinds =
    tidy_from options settings [] (record {
      known = given.known;
      none_again = λ name has. let bad : false ≡ true = has in absurd (cc);
      once = once_at options settings given.once;
      kinds = kinds_at options settings kinds;
    })

pub given_of : (options : List Known) (settings : List Setting) (words : List Text)
    → GivesAll settings words → IsTidy options [] settings
    → GivesOf (names_in options) settings words
given_of options settings words given tidy = record {
  given = given;
  known = all_known options [] settings tidy;
  once = all_once options settings (names_in options) tidy;
}
