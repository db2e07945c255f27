-- One use of an option: it is refused where the option was used before, and is one more row.
use Rattle.std.proofs.Common.{
  ◌≡◌,
  List,
  [],
  ◌∷◌,
  ◌++◌,
  ◌||◌,
  Bool,
  true,
  false,
  Option,
  Some,
  None,
  codes,
  if◌then◌else◌,
  refl,
  ap,
  sym,
  ◌∙◌,
  append-nil,
}
use Rattle.std.specs.Str.{bytes_eq}
use Rattle.clap.specs.Faults.{use_fault}
use Rattle.clap.specs.Walk.{Row, Text, at_row, has_row, more_values, used}
use Rattle.clap.specs.declared.builder.value_parser.Reading.TheVariants.{AsWritten}
use Rattle.clap.specs.declared.error.kind.ErrorKind.TheVariants as kind
use Rattle.clap.specs.declared.parser.matches.ValueSource.TheVariants.{CommandLine}
use Rattle.clog_words.specs.Given.{Setting}
use Rattle.clog_words.specs.Options.{mark_named, value_named}
use Rattle.clog_words.proofs.Turns.{built_rule, cons_not_nil}

-- the values that stand for an option as it is given
abbrev pub values_of : Option Text → List Text
values_of None = codes "true" ∷ []
values_of (Some value) = value ∷ []

abbrev pub row_given : Text → Option Text → Row
row_given name value = record {
  id = name;
  values = values_of value;
  count = None;
  source = Some CommandLine;
  reading = AsWritten;
}

abbrev pub row_of : Setting → Row
row_of setting = row_given setting.name setting.value

-- where there is no row of this name
pub at_none : (name : Text) (change : Row → List Row) (missing rows : List Row)
    → has_row name rows ≡ false → at_row name change missing rows ≡ rows ++ missing
at_none name change missing [] none = refl
at_none name change missing (row ∷ rows) none =
    go (bytes_eq row.id name) (at_none name change missing rows) none
  where
    go : (b : Bool)
        → (has_row name rows ≡ false → at_row name change missing rows ≡ rows ++ missing)
        → (b || has_row name rows) ≡ false
        → (if b then change row ++ rows else row ∷ at_row name change missing rows)
        ≡ row ∷ rows ++ missing
    go true more e = absurd (cc)
    go false more e = ap (λ l. row ∷ l) (more e)

without_none : (name : Text) (rows : List Row) → has_row name rows ≡ false
    → at_row name (λ _. []) [] rows ≡ rows
without_none name rows none = at_none name (λ _. []) [] rows none ∙ append-nil rows

-- ---- an option with its value

pub value_fits : (name value : Text) (rows : List Row) → has_row name rows ≡ false
    → use_fault false (built_rule (value_named name)) (value ∷ []) rows ≡ []
value_fits name value rows none = rw (none) refl

pub value_is_new : (name value : Text) (rows : List Row)
    → use_fault false (built_rule (value_named name)) (value ∷ []) rows ≡ []
    → has_row name rows ≡ false
value_is_new name value rows fits = go (has_row name rows) refl
  where
    go : (b : Bool) → has_row name rows ≡ b → b ≡ false
    go false e = refl
    go true e =
        let is : use_fault false (built_rule (value_named name)) (value ∷ []) rows
        ≡ kind.ArgumentConflict ∷ [] =
        rw (e) refl in absurd (cons_not_nil _ _ (sym is ∙ fits))

pub value_used : (name value : Text) (rows : List Row) → has_row name rows ≡ false
    → used (built_rule (value_named name)) (value ∷ []) rows
    ≡ rows ++ row_given name (Some value) ∷ []
value_used name value rows none =
    rw (without_none name rows none)
    (at_none name (more_values CommandLine (value ∷ [])) (row_given name (Some value) ∷ []) rows
    none)

-- ---- a mark

pub mark_fits : (name : Text) (rows : List Row) → has_row name rows ≡ false
    → use_fault false (built_rule (mark_named name)) [] rows ≡ []
mark_fits name rows none = rw (none) refl

pub mark_is_new : (name : Text) (rows : List Row)
    → use_fault false (built_rule (mark_named name)) [] rows ≡ [] → has_row name rows ≡ false
mark_is_new name rows fits = go (has_row name rows) refl
  where
    go : (b : Bool) → has_row name rows ≡ b → b ≡ false
    go false e = refl
    go true e =
        let is : use_fault false (built_rule (mark_named name)) [] rows
        ≡ kind.ArgumentConflict ∷ [] =
        rw (e) refl in absurd (cons_not_nil _ _ (sym is ∙ fits))

pub mark_used : (name : Text) (rows : List Row) → has_row name rows ≡ false
    → used (built_rule (mark_named name)) [] rows ≡ rows ++ row_given name None ∷ []
mark_used name rows none =
    rw (without_none name rows none)
    (at_none name (more_values CommandLine (codes "true" ∷ [])) (row_given name None ∷ []) rows
    none)
