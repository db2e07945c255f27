-- What is found of an option at the end of a walk: its value where it is given, and for a mark
-- whether it is.
use Rattle.std.proofs.Common.{
  ◌≡◌,
  List,
  [],
  ◌∷◌,
  ◌++◌,
  ◌||◌,
  ◌⊎◌,
  inl,
  inr,
  map,
  fold,
  find,
  Bool,
  true,
  false,
  is_some,
  Option,
  Some,
  None,
  option_map,
  if◌then◌else◌,
  codes,
  refl,
  ap,
  sym,
  ◌∙◌,
}
use Rattle.std.proofs.lemmas.List.Folds.{list_any-append}
use Rattle.std.proofs.lemmas.Slice.Eq.{bytes_eq-Decides}
use Rattle.std.specs.List.{list_any}
use Rattle.std.specs.Str.{bytes_eq}
use Rattle.clap.specs.Walk.{Row, Text, has_row, more_values, with_default}
use Rattle.clap.specs.declared.builder.value_parser.Reading.TheVariants.{AsWritten}
use Rattle.clap.specs.declared.parser.matches.ValueSource.TheVariants.{DefaultValue}
use Rattle.clog_words.specs.Given.{Setting, said}
use Rattle.clog_words.specs.Options.{HasDistinctNames, Known, known_as, mark_named, value_named}
use Rattle.clog_words.proofs.Turns.{built_rule, rules_for}
use Rattle.clog_words.proofs.Uses.{at_none, row_of}

-- ---- finding in lists

module _ {X : Type 0} (test : X → Bool) where
  find_there : (xs ys : List X) → list_any test xs ≡ true → find test (xs ++ ys) ≡ find test xs
  find_there [] ys e = absurd (cc)
  find_there (x ∷ xs) ys e = go (test x) (find_there xs ys) e
    where
      go : (b : Bool) → (list_any test xs ≡ true → find test (xs ++ ys) ≡ find test xs)
          → (b || list_any test xs) ≡ true
          → (if b then Some x else find test (xs ++ ys)) ≡ (if b then Some x else find test xs)
      go true more e = refl
      go false more e = more e

  find_after : (xs ys : List X) → list_any test xs ≡ false → find test (xs ++ ys) ≡ find test ys
  find_after [] ys e = refl
  find_after (x ∷ xs) ys e = go (test x) (find_after xs ys) e
    where
      go : (b : Bool) → (list_any test xs ≡ false → find test (xs ++ ys) ≡ find test ys)
          → (b || list_any test xs) ≡ false
          → (if b then Some x else find test (xs ++ ys)) ≡ find test ys
      go true more e = absurd (cc)
      go false more e = more e

  find_none : (xs : List X) → list_any test xs ≡ false → find test xs ≡ None
  find_none [] e = refl
  find_none (x ∷ xs) e = go (test x) (find_none xs) e
    where
      go : (b : Bool) → (list_any test xs ≡ false → find test xs ≡ None)
          → (b || list_any test xs) ≡ false → (if b then Some x else find test xs) ≡ None
      go true more e = absurd (cc)
      go false more e = more e

  any_found : (xs : List X) → list_any test xs ≡ is_some (find test xs)
  any_found [] = refl
  any_found (x ∷ xs) = go (test x) (any_found xs)
    where
      go : (b : Bool) → list_any test xs ≡ is_some (find test xs)
          → (b || list_any test xs) ≡ is_some (if b then Some x else find test xs)
      go true more = refl
      go false more = more

-- ---- texts are compared alike from both sides

pub same_text : (one other : Text) → bytes_eq one other ≡ bytes_eq other one
same_text one other = go (bytes_eq one other) (bytes_eq other one) refl refl
  where
    go : (a b : Bool) → bytes_eq one other ≡ a → bytes_eq other one ≡ b → a ≡ b
    go true true e f = refl
    go false false e f = refl
    go true false e f =
        let is : bytes_eq other one ≡ true =
        (bytes_eq-Decides other one).1 (sym ((bytes_eq-Decides one other).0 e)) in
        sym is ∙ f
    go false true e f =
        let is : bytes_eq one other ≡ true =
        (bytes_eq-Decides one other).1 (sym ((bytes_eq-Decides other one).0 f)) in
        sym e ∙ is

pub find_given : (name : Text) (settings : List Setting)
    → find (λ (row : Row). bytes_eq row.id name) (map row_of settings)
    ≡ option_map row_of (said name settings)
find_given name [] = refl
find_given name (setting ∷ settings) =
    rw (same_text setting.name name)
    (go (bytes_eq name setting.name) (find_given name settings))
  where
    go : (b : Bool) → find (λ (row : Row). bytes_eq row.id name) (map row_of settings)
        ≡ option_map row_of (said name settings)
        → (if b then Some (row_of setting)
        else find (λ (row : Row). bytes_eq row.id name) (map row_of settings))
        ≡ option_map row_of (if b then Some setting else said name settings)
    go true e = refl
    go false e = e

-- ---- defaults

-- what stands for a mark that is not given
abbrev pub unset_row : Text → Row
unset_row name = record {
  id = name;
  values = codes "false" ∷ [];
  count = None;
  source = Some DefaultValue;
  reading = AsWritten;
}

abbrev pub found_row : Text → List Row → Option Row
found_row name rows = find (λ (row : Row). bytes_eq row.id name) rows

value_default : (name : Text) (rows : List Row)
    → with_default rows (built_rule (value_named name)) ≡ rows
value_default name rows = go (has_row name rows)
  where
    go : (b : Bool) → (if b then rows else rows) ≡ rows
    go true = refl
    go false = refl

mark_there : (name : Text) (rows : List Row) → has_row name rows ≡ true
    → with_default rows (built_rule (mark_named name)) ≡ rows
mark_there name rows there = rw (there) refl

mark_default : (name : Text) (rows : List Row) → has_row name rows ≡ false
    → with_default rows (built_rule (mark_named name)) ≡ rows ++ unset_row name ∷ []
mark_default name rows none =
    rw (none)
    (at_none name (more_values DefaultValue (codes "false" ∷ [])) (unset_row name ∷ []) rows none)

-- an option's default changes nothing, or is one more row
data Defaults (known : Known) (rows : List Row) : Type 0 where
  nothing : (known.has_value ≡ true) ⊎ (has_row known.name rows ≡ true)
      → with_default rows (built_rule known) ≡ rows → Defaults known rows
  unset : known.has_value ≡ false → has_row known.name rows ≡ false
      → with_default rows (built_rule known) ≡ rows ++ unset_row known.name ∷ []
      → Defaults known rows

defaults : (name : Text) (has_value : Bool) (rows : List Row)
    → Defaults (record { name = name; has_value = has_value }) rows
defaults name true rows = nothing (inl refl) (value_default name rows)
defaults name false rows = go (has_row name rows) refl
  where
    go : (b : Bool) → has_row name rows ≡ b → Defaults (mark_named name) rows
    go true e = nothing (inr e) (mark_there name rows e)
    go false e = unset refl e (mark_default name rows e)

abbrev pub all_defaults : List Row → List Known → List Row
all_defaults rows options = fold with_default rows (rules_for options)

-- what is there stays
keeps_row : (options : List Known) (rows : List Row) (name : Text) → has_row name rows ≡ true
    → found_row name (all_defaults rows options) ≡ found_row name rows
keeps_row [] rows name there = refl
keeps_row (known ∷ options) rows name there =
    go (defaults known.name known.has_value rows) (λ next. keeps_row options next name)
  where
    go : Defaults known rows
        → ((next : List Row) → has_row name next ≡ true
        → found_row name (all_defaults next options) ≡ found_row name next)
        → found_row name (all_defaults (with_default rows (built_rule known)) options)
        ≡ found_row name rows
    go (nothing why is) more =
        ap (λ (l : List Row). found_row name (all_defaults l options)) is ∙ more rows there
    go (unset kind none is) more =
        ap (λ (l : List Row). found_row name (all_defaults l options)) is
        ∙ more (rows ++ unset_row known.name ∷ [])
        (list_any-append (λ (row : Row). bytes_eq row.id name) rows (unset_row known.name ∷ [])
        ∙ ap (λ (b : Bool). b || has_row name (unset_row known.name ∷ [])) there)
        ∙ find_there (λ (row : Row). bytes_eq row.id name) rows (unset_row known.name ∷ []) there

-- what stands for an option that is not given
abbrev pub unset_of : Text → Option Known → Option Row
unset_of name None = None
unset_of name (Some known) = if known.has_value then None else Some (unset_row name)

pub unset_end : (options : List Known) (rows : List Row) (name : Text)
    → has_row name rows ≡ false → HasDistinctNames options
    → found_row name (all_defaults rows options) ≡ unset_of name (known_as name options)
unset_end [] rows name none distinct = find_none (λ (row : Row). bytes_eq row.id name) rows none
unset_end (known ∷ options) rows name none distinct =
    go (bytes_eq known.name name) refl (defaults known.name known.has_value rows)
    (λ next absent. unset_end options next name absent distinct.1)
  where
    go : (b : Bool) → bytes_eq known.name name ≡ b → Defaults known rows
        → ((next : List Row) → has_row name next ≡ false
        → found_row name (all_defaults next options) ≡ unset_of name (known_as name options))
        → found_row name (all_defaults (with_default rows (built_rule known)) options)
        ≡ unset_of name (if b then Some known else known_as name options)
    go true e (nothing (inl kind) is) more =
        let same = (bytes_eq-Decides known.name name).0 e in
        ap (λ (l : List Row). found_row name (all_defaults l options)) is ∙ more rows none
        ∙ ap (unset_of name) (sym (ap (λ (n : Text). known_as n options) same) ∙ distinct.0)
        ∙ sym (ap (λ (b : Bool). if b then None else Some (unset_row name)) kind)
    go true e (nothing (inr there) is) more =
        let same = (bytes_eq-Decides known.name name).0 e in
        let bad : true ≡ false =
        sym there ∙ ap (λ (n : Text). has_row n rows) same ∙ none in absurd (cc)
    go true e (unset kind absent is) more =
        let same = (bytes_eq-Decides known.name name).0 e in
        ap (λ (l : List Row). found_row name (all_defaults l options)) is
        ∙ keeps_row options (rows ++ unset_row known.name ∷ []) name
        (list_any-append (λ (row : Row). bytes_eq row.id name) rows (unset_row known.name ∷ [])
        ∙ ap (λ (b : Bool). b || has_row name (unset_row known.name ∷ [])) none
        ∙ ap (λ (b : Bool). b || false) e)
        ∙ find_after (λ (row : Row). bytes_eq row.id name) rows (unset_row known.name ∷ []) none
        ∙ ap (λ (b : Bool). if b then Some (unset_row known.name) else None) e
        ∙ ap (λ (n : Text). Some (unset_row n)) same
        ∙ sym (ap (λ (b : Bool). if b then None else Some (unset_row name)) kind)
    go false e (nothing why is) more =
        ap (λ (l : List Row). found_row name (all_defaults l options)) is ∙ more rows none
    go false e (unset kind absent is) more =
        ap (λ (l : List Row). found_row name (all_defaults l options)) is
        ∙ more (rows ++ unset_row known.name ∷ [])
        (list_any-append (λ (row : Row). bytes_eq row.id name) rows (unset_row known.name ∷ [])
        ∙ ap (λ (b : Bool). b || has_row name (unset_row known.name ∷ [])) none
        ∙ ap (λ (b : Bool). b || false) e)

abbrev pub row_or : Option Setting → Option Row → Option Row
row_or None row = row
row_or (Some setting) row = Some (row_of setting)

-- the row at the end is that of the option that was given, or of none
pub row_at_end : (options : List Known) (settings : List Setting) (name : Text)
    → HasDistinctNames options
    → found_row name (all_defaults (map row_of settings) options)
    ≡ row_or (said name settings) (unset_of name (known_as name options))
row_at_end options settings name distinct = go (said name settings) refl
  where
    go : (setting : Option Setting) → said name settings ≡ setting
        → found_row name (all_defaults (map row_of settings) options)
        ≡ row_or setting (unset_of name (known_as name options))
    go None e =
        unset_end options (map row_of settings) name
        (any_found (λ (row : Row). bytes_eq row.id name) (map row_of settings)
        ∙ ap is_some (find_given name settings ∙ ap (option_map row_of) e)) distinct
    go (Some setting) e =
        let found = find_given name settings ∙ ap (option_map row_of) e in
        keeps_row options (map row_of settings) name
        (any_found (λ (row : Row). bytes_eq row.id name) (map row_of settings)
        ∙ ap is_some found)
        ∙ found
