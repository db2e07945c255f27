-- Words that give a command's options pass the walk of `clap`.
use Rattle.std.proofs.Common.{
  ◌≡◌,
  ◌<◌,
  ℕ,
  List,
  [],
  ◌∷◌,
  ◌++◌,
  false,
  is_some,
  Option,
  Some,
  None,
  option_map,
  length,
  refl,
  ap,
  subst,
  sym,
  ◌∙◌,
  inl,
  inr,
  arith,
}
use Rattle.std.proofs.lemmas.Slice.Eq.{bytes_eq-Decides}
use Rattle.std.specs.List.{AllByRecursion}
use Rattle.clap.specs.Faults.{turn_fault, use_fault, walk_fault}
use Rattle.clap.specs.Kinds.{or_else}
use Rattle.clap.specs.Lexer.{long_of}
use Rattle.clap.specs.Walk.{
  Row,
  Text,
  Walk,
  arg_by_id,
  arg_by_long,
  has_row,
  walked,
}
use Rattle.clog_words.specs.Given.{
  BeginsWithDash,
  GivesAll,
  HasNoEquals,
  IsWritten,
  Setting,
  dashed,
}
use Rattle.clog_words.specs.Options.{Known, known_as, mark_named, value_named}
use Rattle.clog_words.proofs.LongWords.{long_is_other, long_word, plain_word}
use Rattle.clog_words.proofs.Turns as turns
use Rattle.clog_words.proofs.Turns.{
  Pending,
  built_rule,
  by_id,
  by_long,
  idle_at,
  none_of_both,
  waits_at,
}
use Rattle.clog_words.proofs.Uses.{
  mark_fits,
  mark_used,
  row_given,
  row_of,
  value_fits,
  value_used,
}
use Rattle.clog_words.proofs.TidyOptions.{IsFit, IsOwn, IsTidy}
use Rattle.clog_words.proofs.Walks.{Passes, pending_used, rules, settled_at, settles, shape}

-- an option of a command has a name
name_has_letters : (options : List Known) (name : Text) (known : Known)
    → known_as [] options ≡ None → known_as name options ≡ Some known → 0 < length name
name_has_letters options [] known unnamed found =
    let none : None ≡ Some known = sym unnamed ∙ found in absurd (cc)
name_has_letters options (b ∷ name) known unnamed found = omega arith

joined_letters : (name value : Text) → 0 < length (name ++ 61 ∷ value)
joined_letters [] value = omega arith
joined_letters (b ∷ name) value = omega arith

module _ (command : List ℕ) (options : List Known) where
  no_words_pass : (w : Walk) → walk_fault (shape command options) [] w [] ≡ []
  unfolding walk_fault
  no_words_pass w = refl

  -- one word more
  passes_on : (w next : Walk) (word : Text) (rest : List Text)
      → turn_fault (shape command options) [] w word ≡ []
      → walked (rules command options) [] w word ≡ next → Passes command options next rest
      → Passes command options w (word ∷ rest)
  unfolding walk_fault
  passes_on w next word rest turn is passes =
      let at =
      subst (λ (v : Walk). Passes command options v rest) (sym is) passes in
      record {
        turns = none_of_both (turn_fault (shape command options) [] w word)
            (walk_fault (shape command options) [] (walked (rules command options) [] w word)
            rest) turn at.turns;
        settles = at.settles;
      }

  module _ (unnamed : known_as [] options ≡ None) where
    rule_of : (name : Text) (value : Option Text)
        → IsFit options (record { name = name; value = value })
        → arg_by_long (rules command options) name
        ≡ Some (built_rule (record { name = name; has_value = is_some value }))
    rule_of name value fit =
        by_long options name ∙ ap (λ (o : Option Known). option_map built_rule o) fit

    rule_by_id : (name : Text) (value : Option Text)
        → IsFit options (record { name = name; value = value })
        → arg_by_id (rules command options) name
        ≡ Some (built_rule (record { name = name; has_value = is_some value }))
    rule_by_id name value fit =
        by_id options name ∙ ap (λ (o : Option Known). option_map built_rule o) fit

    letters_in : (name : Text) (value : Option Text)
        → IsFit options (record { name = name; value = value }) → 0 < length name
    letters_in name value fit =
        name_has_letters options name (record { name = name; has_value = is_some value }) unnamed
        fit

    long_mark : (name : Text) (value : Option Text) → HasNoEquals name
        → IsFit options (record { name = name; value = value })
        → long_of (dashed name) ≡ Some (name, None)
    long_mark name value whole fit =
        long_word name name None (record { text_is = refl; name_is_whole = whole })
        (letters_in name value fit)

    long_joined : (name value : Text) → HasNoEquals name
        → long_of (dashed name ++ 61 ∷ value) ≡ Some (name, Some value)
    long_joined name value whole =
        long_word (name ++ 61 ∷ value) name (Some value)
        (record { text_is = refl; name_is_whole = whole }) (joined_letters name value)

    -- the words of one option are ours
    own_words : (name : Text) (value : Option Text) (words rest : List Text) → HasNoEquals name
        → IsFit options (record { name = name; value = value }) → IsWritten name value words rest
        → AllByRecursion IsOwn rest → AllByRecursion IsOwn words
    own_words name None words rest whole fit written own =
        subst (AllByRecursion IsOwn) (sym written)
        ((λ _. ap is_some (long_mark name None whole fit)), own)
    own_words name (Some value) words rest whole fit (inl written) own =
        subst (AllByRecursion IsOwn) (sym written)
        ((λ _. ap is_some (long_joined name value whole)), own)
    own_words name (Some value) words rest whole fit (inr written) own =
        subst (AllByRecursion IsOwn) (sym written.words_are) (
          (λ _. ap is_some (long_mark name (Some value) whole fit)),
          ((λ dash. absurd (written.no_dash dash)), own),
        )

    pub all_own : (settings : List Setting) (rows : List Row) (words : List Text)
        → GivesAll settings words → IsTidy options rows settings → AllByRecursion IsOwn words
    all_own [] rows words given tidy = subst (AllByRecursion IsOwn) (sym given) tt
    all_own (setting ∷ settings) rows words (rest, gives, more) tidy =
        own_words setting.name setting.value words rest gives.name_is_whole tidy.1 gives.written
        (all_own settings (rows ++ row_of setting ∷ []) rest more tidy.2)

    module _ (rows : List Row) (pending : Pending) (rest : List Text)
        (fits : settles command options rows pending ≡ []) where
      abbrev before : List Row
      before = settled_at command options rows pending

      takes_mark : (name : Text) → HasNoEquals name
          → IsFit options (record { name = name; value = None }) → has_row name before ≡ false
          → Passes command options (idle_at (before ++ row_given name None ∷ []) None) rest
          → Passes command options (idle_at rows pending) (dashed name ∷ rest)
      takes_mark name whole fit none passes =
          let rule = rule_of name None fit in
          let other = long_is_other name (letters_in name None fit) in
          let long = long_mark name None whole fit in
          passes_on (idle_at rows pending) (idle_at (before ++ row_given name None ∷ []) None)
          (dashed name) rest
          (turns.mark_turn command options rows pending (dashed name) name other long rule
          ∙ none_of_both (or_else (settles command options rows pending)
          (use_fault false (built_rule (mark_named name)) [] before)) []
          (none_of_both (settles command options rows pending)
          (use_fault false (built_rule (mark_named name)) [] before) fits
          (mark_fits name before none)) refl)
          (turns.mark_walk command options rows pending (dashed name) name other long rule
          ∙ ap (λ (l : List Row). idle_at l None) (mark_used name before none)) passes

      takes_joined : (name value : Text) → HasNoEquals name
          → IsFit options (record { name = name; value = Some value })
          → has_row name before ≡ false
          → Passes command options (idle_at (before ++ row_given name (Some value) ∷ []) None) rest
          → Passes command options (idle_at rows pending) ((dashed name ++ 61 ∷ value) ∷ rest)
      takes_joined name value whole fit none passes =
          let rule = rule_of name (Some value) fit in
          let other = long_is_other (name ++ 61 ∷ value) (joined_letters name value) in
          let long = long_joined name value whole in
          passes_on (idle_at rows pending)
          (idle_at (before ++ row_given name (Some value) ∷ []) None)
          (dashed name ++ 61 ∷ value) rest
          (turns.joined_turn command options rows pending (dashed name ++ 61 ∷ value) name value
          other long rule
          ∙ none_of_both (or_else (settles command options rows pending)
          (use_fault false (built_rule (value_named name)) (value ∷ []) before)) []
          (none_of_both (settles command options rows pending)
          (use_fault false (built_rule (value_named name)) (value ∷ []) before) fits
          (value_fits name value before none)) refl)
          (turns.joined_walk command options rows pending (dashed name ++ 61 ∷ value) name value
          other long rule
          ∙ ap (λ (l : List Row). idle_at l None) (value_used name value before none)) passes

      takes_apart : (name value : Text) → HasNoEquals name
          → IsFit options (record { name = name; value = Some value }) → ¬ BeginsWithDash value
          → Passes command options (idle_at before (Some (name, value ∷ []))) rest
          → Passes command options (idle_at rows pending) (dashed name ∷ value ∷ rest)
      takes_apart name value whole fit no_dash passes =
          let rule = rule_of name (Some value) fit in
          let other = long_is_other name (letters_in name (Some value) fit) in
          let long = long_mark name (Some value) whole fit in
          let plain = plain_word value no_dash in
          passes_on (idle_at rows pending) (waits_at before name) (dashed name) (value ∷ rest)
          (turns.apart_turn command options rows pending (dashed name) name other long rule
          ∙ none_of_both (settles command options rows pending) [] fits refl)
          (turns.apart_walk command options rows pending (dashed name) name other long rule)
          (passes_on (waits_at before name) (idle_at before (Some (name, value ∷ []))) value rest
          (turns.value_turn command options before name value plain.2 plain.0 plain.1)
          (turns.value_walk command options before name value plain.2 plain.0 plain.1
          (rule_by_id name (Some value) fit) ((bytes_eq-Decides name name).1 refl)) passes)

      -- the words of one option, where those behind it pass
      takes_one : (name : Text) (value : Option Text) (words : List Text) → HasNoEquals name
          → IsFit options (record { name = name; value = value }) → has_row name before ≡ false
          → IsWritten name value words rest
          → ((next : List Row) (waits : Pending) → settles command options next waits ≡ []
          → settled_at command options next waits ≡ before ++ row_given name value ∷ []
          → Passes command options (idle_at next waits) rest)
          → Passes command options (idle_at rows pending) words
      takes_one name None words whole fit none written passes =
          subst (Passes command options (idle_at rows pending)) (sym written)
          (takes_mark name whole fit none
          (passes (before ++ row_given name None ∷ []) None refl refl))
      takes_one name (Some value) words whole fit none (inl written) passes =
          subst (Passes command options (idle_at rows pending)) (sym written)
          (takes_joined name value whole fit none
          (passes (before ++ row_given name (Some value) ∷ []) None refl refl))
      takes_one name (Some value) words whole fit none (inr written) passes =
          let found = rule_by_id name (Some value) fit in
          let fits : settles command options before (Some (name, value ∷ [])) ≡ [] =
          rw (found) (value_fits name value before none) in
          subst (Passes command options (idle_at rows pending)) (sym written.words_are)
          (takes_apart name value whole fit written.no_dash
          (passes before (Some (name, value ∷ [])) fits
          (pending_used command options before name value found none)))

    pub takes_all : (settings : List Setting) (rows : List Row) (pending : Pending)
        (words : List Text) → settles command options rows pending ≡ []
        → GivesAll settings words → IsTidy options (settled_at command options rows pending)
        settings
        → Passes command options (idle_at rows pending) words
    takes_all [] rows pending words fits given tidy =
        subst (Passes command options (idle_at rows pending)) (sym given)
        (record { turns = no_words_pass (idle_at rows pending); settles = fits })
    takes_all (setting ∷ settings) rows pending words fits (rest, gives, more) tidy =
        takes_one rows pending rest fits setting.name setting.value words gives.name_is_whole
        tidy.1 tidy.0 gives.written
        (λ next waits settled is.
        takes_all settings next waits rest settled more
        (subst (λ (l : List Row). IsTidy options l settings) (sym is) tidy.2))
