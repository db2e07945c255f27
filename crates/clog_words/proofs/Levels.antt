-- What `clap` promises of a command with options alone, in our words.
use Rattle.std.proofs.Common.{
  ◌≡◌,
  ℕ,
  List,
  [],
  ◌∷◌,
  ◌||◌,
  ◌&&◌,
  map,
  Bool,
  true,
  false,
  not,
  is_some,
  slice_get,
  slice_index,
  ◌==◌,
  inl,
  inr,
  Option,
  Some,
  None,
  option_map,
  option_and_then,
  unwrap_or,
  if◌then◌else◌,
  refl,
  ap,
  ap₂,
  sym,
  ◌∙◌,
}
use Rattle.std.specs.List.{AllByRecursion, list_all, list_any}
use Rattle.std.proofs.lemmas.Bool.Decides.{eqb_tells}
use Rattle.clap.specs.Faults.{
  check_fault,
  default_fault,
  defaults_fault,
  fault_of,
  built_fault,
  is_simple_and_free,
  level_fault,
}
use Rattle.clap.specs.Kinds.{HasKind, Kinds, check_kinds}
use Rattle.clap.specs.Lexer.{is_long_word}
use Rattle.clap.specs.Matches.{first_value, one_text}
use Rattle.clap.specs.Simple.{App, is_simple, matches_of, names_of}
use Rattle.clap.specs.Takes.{is_given}
use Rattle.clap.specs.Values.{kind_of}
use Rattle.clap.specs.declared.error.Error.{Error}
use Rattle.clap.specs.declared.error.kind.ErrorKind.TheVariants.{OutOfMemory}
use Rattle.clap.specs.Walk.{Row, Text, has_row, nothing_held, row_text, rows_after, rows_of}
use Rattle.clap.specs.declared.parser.matches.Found.{Found}
use Rattle.clap.proofs.FaultLemmas.{leaf_fault}
use Rattle.clap.proofs.WalkLemmas.{first_value-rows, one_text-rows}
use Rattle.clog_words.specs.Given.{Setting, said}
use Rattle.clog_words.specs.Options.{
  GivesFit,
  HasDistinctNames,
  IsReadAs,
  IsReadable,
  Known,
  Tells,
  TellsOf,
  app_for,
  is_own,
  known_as,
  mark_named,
  valued,
  value_named,
}
use Rattle.clog_words.proofs.Rows.{all_defaults, found_row, row_at_end, row_or, unset_of}
use Rattle.clog_words.proofs.SettingLists.{same_settings}
use Rattle.clog_words.proofs.Taken.{all_own, takes_all}
use Rattle.clog_words.proofs.Follows.{and_both, given_of, tidy_of}
use Rattle.clog_words.proofs.Tidy.{said_fit}
use Rattle.clog_words.proofs.Turns.{
  both_none,
  cons_not_nil,
  built_rule,
  built_shape,
  idle_at,
  none_of_both,
  rules_for,
  shape_for,
}
use Rattle.clog_words.proofs.Uses.{row_of}
use Rattle.clog_words.proofs.TidyOptions.{IsOwn, IsTidy, between, known_is}
use Rattle.clog_words.proofs.Walks.{Passes, after, reads}

-- ---- behind the walk nothing fails

either : (b : Bool) (kinds : Kinds) → kinds ≡ [] → (if b then [] else kinds) ≡ []
either true kinds e = refl
either false kinds e = e

no_default_fault : (rows : List Row) (name : Text) (has_value : Bool)
    → default_fault rows (built_rule (record { name = name; has_value = has_value })) ≡ []
no_default_fault rows name true = either (has_row name rows || true) _ refl
no_default_fault rows name false = either (has_row name rows || false) _ refl

no_defaults_fault : (options : List Known) (rows : List Row)
    → defaults_fault rows (rules_for options) ≡ []
unfolding defaults_fault
no_defaults_fault [] rows = refl
no_defaults_fault (known ∷ options) rows =
    none_of_both (default_fault rows (built_rule known)) _
    (no_default_fault rows known.name known.has_value) (no_defaults_fault options _)

none_required : (options : List Known) (rows : List Row)
    → list_any (λ rule. rule.required && not (is_given rule.id rows)) (rules_for options) ≡ false
none_required [] rows = refl
none_required (known ∷ options) rows = none_required options rows

module _ (command : List ℕ) (options : List Known) where
  no_check_fault : (rows : List Row) → check_fault (shape_for command options) rows false ≡ []
  no_check_fault rows =
      ap (λ (b : Bool). check_kinds false false b) (none_required options rows)

  level : List Text → Kinds
  level words = level_fault (shape_for command options) [] nothing_held words false []

  level_is : (words : List Text) → fault_of (app_for command options) words ≡ level words
  unfolding level
  level_is words =
      ap (λ (app : App). built_fault app nothing_held words) (built_shape command options)
      ∙ leaf_fault (record { top = shape_for command options; subs = [] }) nothing_held words refl

  passes_of : (words : List Text) → level words ≡ []
      → Passes command options (idle_at [] None) words
  unfolding level
  passes_of words e =
      let first = both_none _ _ e in
      record { turns = first.0; settles = (both_none _ _ first.1).0 }

  level_of : (words : List Text) → Passes command options (idle_at [] None) words
      → level words ≡ []
  unfolding level
  level_of words passes =
      none_of_both _ _ passes.turns
      (none_of_both _ _ passes.settles
      (none_of_both _ _ (no_defaults_fault options _) (no_check_fault _)))

  -- words that give the command's options have no fault
  pub taken : IsReadable command options → (settings : List Setting) (words : List Text)
      → GivesFit options settings words → fault_of (app_for command options) words ≡ []
  taken readable settings words fit =
      level_is words
      ∙ level_of words
      (takes_all command options readable.named settings [] None words refl fit.given.given
      (tidy_of options settings words fit.given fit.kinds))

  pub own : IsReadable command options → (settings : List Setting) (words : List Text)
      → GivesFit options settings words → AllByRecursion IsOwn words
  own readable settings words fit =
      all_own command options readable.named settings [] words fit.given.given
      (tidy_of options settings words fit.given fit.kinds)

  matches_are : (words : List Text) → matches_of (app_for command options) words
      ≡ all_defaults (after command options (idle_at [] None) words) options
  matches_are words =
      ap (λ (app : App). rows_after app.top.rules (names_of app) words)
      (built_shape command options)

  found_rows : (found : Found) (words : List Text) (settings : List Setting)
      → rows_of found ≡ matches_of (app_for command options) words
      → after command options (idle_at [] None) words ≡ map row_of settings
      → HasDistinctNames options → (name : Text)
      → found_row name (rows_of found)
      ≡ row_or (said name settings) (unset_of name (known_as name options))
  found_rows found words settings matched read distinct name =
      ap (found_row name)
      (matched ∙ matches_are words ∙ ap (λ (rows : List Row). all_defaults rows options) read)
      ∙ row_at_end options settings name distinct

abbrev first_in : Option Row → Option Text
first_in row = option_and_then (λ (r : Row). slice_get r.values 0) row

tells_value : (name : Text) (found : Found) (setting : Option Setting)
    → first_value found name ≡ first_in (row_or setting None)
    → ((one : Setting) → setting ≡ Some one → (one.name ≡ name) × (is_some one.value ≡ true))
    → TellsOf true name setting found
tells_value name found None first fit =
    sym (ap (λ (o : Option Text). option_map (valued name) o) first)
tells_value name found (Some one) first fit =
    go one.name one.value (fit one refl) first
  where
    go : (other : Text) (value : Option Text) → (other ≡ name) × (is_some value ≡ true)
        → first_value found name
        ≡ first_in (row_or (Some (record { name = other; value = value })) None)
        → ◌≡◌ {A = Option Setting} (Some (record { name = other; value = value }))
        (option_map (valued name) (first_value found name))
    go other None fit first = absurd (cc)
    go other (Some value) fit first =
        ap (λ (n : Text). Some (valued n value)) fit.0
        ∙ sym (ap (λ (o : Option Text). option_map (valued name) o) first)

tells_mark : (name : Text) (found : Found) (setting : Option Setting)
    → one_text found name
    ≡ option_and_then row_text (row_or setting (unset_of name (Some (mark_named name))))
    → ((one : Setting) → setting ≡ Some one → (one.name ≡ name) × (is_some one.value ≡ false))
    → TellsOf false name setting found
tells_mark name found None text fit = (false, refl, text)
tells_mark name found (Some one) text fit = go one.name one.value (fit one refl) text
  where
    go : (other : Text) (value : Option Text) → (other ≡ name) × (is_some value ≡ false)
        → one_text found name
        ≡ option_and_then row_text (row_or (Some (record { name = other; value = value }))
        (unset_of name (Some (mark_named name))))
        → TellsOf false name (Some (record { name = other; value = value })) found
    go other (Some value) fit text = absurd (cc)
    go other None fit text = (
      true,
      ap (λ (n : Text). Some (record { name = n; value = None })) fit.0,
      text,
    )

told : (options : List Known) (settings : List Setting) (found : Found)
    → IsTidy options [] settings
    → ((name : Text) → found_row name (rows_of found)
    ≡ row_or (said name settings) (unset_of name (known_as name options)))
    → Tells options settings found
told options settings found tidy rows name known is =
    go known.has_value (known_is options name known is)
  where
    row : (has_value : Bool)
        → known_as name options ≡ Some (record { name = name; has_value = has_value })
        → found_row name (rows_of found)
        ≡ row_or (said name settings)
        (unset_of name (Some (record { name = name; has_value = has_value })))
    row has_value is =
        rows name ∙ ap (λ (o : Option Known). row_or (said name settings) (unset_of name o)) is

    fit : (has_value : Bool)
        → known_as name options ≡ Some (record { name = name; has_value = has_value })
        → (one : Setting) → said name settings ≡ Some one
        → (one.name ≡ name) × (is_some one.value ≡ has_value)
    fit has_value is one e =
        let fits = said_fit options settings [] name one tidy e in
        let same : Some (record { name = one.name; has_value = is_some one.value })
        ≡ Some (record { name = name; has_value = has_value }) =
        sym fits.1 ∙ ap (λ (n : Text). known_as n options) fits.0 ∙ is in (
          fits.0,
          ap (λ (o : Option Known). (unwrap_or o (value_named name)).has_value) same,
        )

    go : (has_value : Bool)
        → known_as name options ≡ Some (record { name = name; has_value = has_value })
        → TellsOf has_value name (said name settings) found
    go true is =
        tells_value name found (said name settings)
        (first_value-rows found name ∙ ap first_in (row true is)) (fit true is)
    go false is =
        tells_mark name found (said name settings)
        (one_text-rows found name
        ∙ ap (λ (o : Option Row). option_and_then row_text o) (row false is)) (fit false is)

-- words that have no fault give the command's options, and what is found tells of them
pub read_as : (command : List ℕ) (options : List Known) (words : List Text) (found : Found)
    → IsReadable command options → AllByRecursion IsOwn words
    → fault_of (app_for command options) words ≡ []
    → rows_of found ≡ matches_of (app_for command options) words
    → IsReadAs options words found
read_as command options words found readable own faultless matched =
    let passes = passes_of command options words
    (sym (level_is command options words) ∙ faultless) in
    let read = (reads command options words (between [] None) own tt passes).1 in
    record {
      settings = read.settings;
      given = record {
        given = given_of options read.settings words read.given read.tidy;
        only = λ others g. same_settings others read.settings words g read.given;
      };
      tells = told options read.settings found read.tidy
          (found_rows command options found words read.settings matched read.rows
          readable.distinct);
    }

-- ---- for the call of `clap`

own_word : (word : Text) → is_own word ≡ true → IsOwn word
own_word word e dash =
    sym (ap (λ (b : Bool). not b || is_long_word word) (ap (λ (n : ℕ). n == 45) dash)) ∙ e

word_own : (word : Text) → IsOwn word → is_own word ≡ true
word_own word own = elim (eqb_tells (slice_index word 0) 45) [
  | inl found ↦ rw (found.0) (own found.1)
  | inr other ↦ rw (other.0) refl
]

pub own_words : (words : List Text) → list_all is_own words ≡ true → AllByRecursion IsOwn words
own_words [] e = tt
own_words (word ∷ words) e =
    let two = and_both (is_own word) (list_all is_own words) e in
    (own_word word two.0, own_words words two.1)

pub words_own : (words : List Text) → AllByRecursion IsOwn words → list_all is_own words ≡ true
words_own [] own = refl
words_own (word ∷ words) own =
    ap₂ (λ (a b : Bool). a && b) (word_own word own.0) (words_own words own.1)

pub simple_of : (app : App) → is_simple_and_free app ≡ true → is_simple app ≡ true
simple_of app e = (and_both (is_simple app) _ e).0

-- where nothing fails an error is want of memory
pub memory_alone : (kinds : Kinds) (error : Error) → kinds ≡ [] → HasKind kinds error
    → kind_of error ≡ OutOfMemory
memory_alone [] error e (inl memory) = memory
memory_alone [] error e (inr none) = absurd none
memory_alone (kind ∷ kinds) error e has = absurd (cons_not_nil kind kinds e)
