-- What a walk of `clap` without a fault has read: the options that the words give.
use Rattle.std.proofs.Common.{
  ◌≡◌,
  ℕ,
  List,
  [],
  ◌∷◌,
  ◌++◌,
  fold,
  Bool,
  true,
  false,
  is_some,
  Option,
  Some,
  None,
  option_map,
  refl,
  ap,
  subst,
  sym,
  ◌∙◌,
  inl,
  inr,
  append-nil,
}
use Rattle.std.proofs.lemmas.Slice.Eq.{bytes_eq-Decides}
use Rattle.std.specs.List.{AllByRecursion}
use Rattle.std.specs.Str.{bytes_eq}
use Rattle.clap.specs.Faults.{settle_fault, turn_fault, use_fault, walk_fault}
use Rattle.clap.specs.Kinds.{Kinds, or_else}
use Rattle.clap.specs.Lexer.{long_of}
use Rattle.clap.specs.Simple.{Shape}
use Rattle.clap.specs.Walk.{
  Row,
  Rule,
  Text,
  Walk,
  arg_by_id,
  arg_by_long,
  has_row,
  settled,
  used,
  walked,
}
use Rattle.clap.specs.declared.error.kind.ErrorKind.TheVariants as kind
use Rattle.clog_words.specs.Given.{BeginsWithDash, dashed}
use Rattle.clog_words.specs.Options.{Known, known_as, mark_named, value_named}
use Rattle.clog_words.proofs.LongWords.{from_long, long_is_other, plain_word}
use Rattle.clog_words.proofs.Turns as turns
use Rattle.clog_words.proofs.Turns.{
  Pending,
  both_none,
  built_rule,
  by_id,
  by_long,
  cons_not_nil,
  held_at,
  idle_at,
  rules_for,
  shape_for,
  waits_at,
}
use Rattle.clog_words.proofs.Uses.{mark_is_new, mark_used, row_given, value_is_new, value_used}
use Rattle.clog_words.proofs.TidyOptions.{
  HasRead,
  IsFit,
  IsOwn,
  State,
  apart_words,
  between,
  known_is,
  one_more,
  waiting,
  walk_at,
  walk_next,
}

module _ (command : List ℕ) (options : List Known) where
  abbrev pub rules : List Rule
  rules = rules_for options

  abbrev pub shape : Shape
  shape = shape_for command options

  abbrev pub settled_at : List Row → Pending → List Row
  settled_at rows pending = (settled rules (held_at rows pending)).rows

  abbrev pub settles : List Row → Pending → Kinds
  settles rows pending = settle_fault rules false (held_at rows pending)

  abbrev pub ended : Walk → List Text → Walk
  ended w words = fold (walked rules []) w words

  abbrev pub after : Walk → List Text → List Row
  after w words = (settled rules (ended w words).held).rows

  -- the walk over the words has no fault
  pub record Passes (w : Walk) (words : List Text) : Type 0 where
    pub turns : walk_fault shape [] w words ≡ []
    pub settles : settle_fault rules false (ended w words).held ≡ []

  -- The words begin with the value that was waited for.
  pub record ReadsValue (rows : List Row) (name : Text) (words : List Text) (end : List Row)
      : Type 0 where
    pub value : Text
    pub rest : List Text
    pub words_are : words ≡ value ∷ rest
    pub no_dash : ¬ BeginsWithDash value
    pub fits : settles rows (Some (name, value ∷ [])) ≡ []
    pub read : HasRead options (settled_at rows (Some (name, value ∷ []))) end rest

  abbrev Reads : State → List Text → List Row → Type 0
  Reads (between rows pending) words end =
      (settles rows pending ≡ []) × HasRead options (settled_at rows pending) end words
  Reads (waiting rows name) words end = ReadsValue rows name words end

  abbrev HasOption : State → Type 0
  HasOption (between rows pending) = Unit {0}
  HasOption (waiting rows name) = arg_by_id rules name ≡ Some (built_rule (value_named name))

  abbrev Goal : State → List Text → Type 0
  Goal state words =
      AllByRecursion IsOwn words → HasOption state → Passes (walk_at state) words
      → Reads state words (after (walk_at state) words)

  -- a walk that goes on from another place
  moved : (state : State) (w : Walk) (words : List Text) → w ≡ walk_at state
      → AllByRecursion IsOwn words → HasOption state → Goal state words → Passes w words
      → Reads state words (after w words)
  moved state w words is own has goal passes =
      subst (λ (v : Walk). Reads state words (after v words)) (sym is)
      (goal own has (subst (λ (v : Walk). Passes v words) is passes))

  pub long_other : (word name : Text) (value : Option Text) → long_of word ≡ Some (name, value)
      → bytes_eq word (45 ∷ 45 ∷ []) ≡ false
  long_other word name value long =
      let is = from_long word name value long in
      rw (is.word_is) (long_is_other is.text is.some)

  not_long : (word : Text) → IsOwn word → long_of word ≡ None → ¬ BeginsWithDash word
  not_long word own long dash =
      let none : false ≡ true = sym (ap is_some long) ∙ own dash in absurd (cc)

  value_word : (rows : List Row) (waits word : Text) (rest : List Text)
      → arg_by_id rules waits ≡ Some (built_rule (value_named waits))
      → AllByRecursion IsOwn (word ∷ rest) → ((state : State) → Goal state rest)
      → Passes (waits_at rows waits) (word ∷ rest)
      → ReadsValue rows waits (word ∷ rest) (after (waits_at rows waits) (word ∷ rest))
  value_word rows waits word rest has own goal passes = go (long_of word) refl
    where
      go : (read : Option (Text × Option Text)) → long_of word ≡ read
          → ReadsValue rows waits (word ∷ rest) (after (waits_at rows waits) (word ∷ rest))
      go (Some p) long =
          absurd (turns.no_value_turn command options rows waits word p.0 p.1
          (known_as p.0 options) (long_other word p.0 p.1 long) long has (by_long options p.0)
          (walk_next shape [] (waits_at rows waits) word rest passes.turns).0)
      go None long =
          let no_dash = not_long word own.0 long in
          let plain = plain_word word no_dash in
          let same = (bytes_eq-Decides waits waits).1 refl in
          let next =
          turns.value_walk command options rows waits word plain.2 long plain.1 has same in
          let read =
          moved (between rows (Some (waits, word ∷ [])))
          (walked rules [] (waits_at rows waits) word) rest next own.1 tt
          (goal (between rows (Some (waits, word ∷ []))))
          (record {
            turns = (walk_next shape [] (waits_at rows waits) word rest passes.turns).1;
            settles = passes.settles;
          }) in
          record {
            value = word;
            rest = rest;
            words_are = refl;
            no_dash = no_dash;
            fits = read.0;
            read = read.1;
          }

  pub named : (name : Text) (known : Known) → known_as name options ≡ Some known
      → arg_by_long rules name
      ≡ Some (built_rule (record { name = name; has_value = known.has_value }))
  named name known e =
      by_long options name
      ∙ ap (λ (o : Option Known). option_map built_rule o) (known_is options name known e)

  pub named_id : (name : Text) (known : Known) → known_as name options ≡ Some known
      → arg_by_id rules name
      ≡ Some (built_rule (record { name = name; has_value = known.has_value }))
  named_id name known e =
      by_id options name
      ∙ ap (λ (o : Option Known). option_map built_rule o) (known_is options name known e)

  fit_of : (name : Text) (value : Option Text) (known : Known) → known_as name options ≡ Some known
      → known.has_value ≡ is_some value → IsFit options (record { name = name; value = value })
  fit_of name value known e kind =
      known_is options name known e
      ∙ ap (λ (b : Bool). Some (record { name = name; has_value = b })) kind

  -- what a pending value comes to
  pending_fits : (rows : List Row) (name value : Text)
      → arg_by_id rules name ≡ Some (built_rule (value_named name))
      → settles rows (Some (name, value ∷ [])) ≡ [] → has_row name rows ≡ false
  pending_fits rows name value found fits =
      let is : settles rows (Some (name, value ∷ []))
      ≡ use_fault false (built_rule (value_named name)) (value ∷ []) rows =
      rw (found) refl in value_is_new name value rows (sym is ∙ fits)

  pub pending_used : (rows : List Row) (name value : Text)
      → arg_by_id rules name ≡ Some (built_rule (value_named name)) → has_row name rows ≡ false
      → settled_at rows (Some (name, value ∷ [])) ≡ rows ++ row_given name (Some value) ∷ []
  pending_used rows name value found none =
      let is : settled_at rows (Some (name, value ∷ []))
      ≡ used (built_rule (value_named name)) (value ∷ []) rows =
      rw (found) refl in is ∙ value_used name value rows none

  module _ (rows : List Row) (pending : Pending) (word : Text) (rest : List Text)
      (own : AllByRecursion IsOwn (word ∷ rest)) (goal : (state : State) → Goal state rest)
      (passes : Passes (idle_at rows pending) (word ∷ rest)) where
    abbrev before : List Row
    before = settled_at rows pending

    abbrev Result : Type 0
    Result =
        Reads (between rows pending) (word ∷ rest) (after (idle_at rows pending) (word ∷ rest))

    steps : (turn_fault shape [] (idle_at rows pending) word ≡ [])
        × (walk_fault shape [] (walked rules [] (idle_at rows pending) word) rest ≡ [])
    steps = walk_next shape [] (idle_at rows pending) word rest passes.turns

    goes_on : Passes (walked rules [] (idle_at rows pending) word) rest
    goes_on = record { turns = steps.1; settles = passes.settles }

    joined_word : (name value : Text) (known : Known) → long_of word ≡ Some (name, Some value)
        → known_as name options ≡ Some known → known.has_value ≡ true → Result
    joined_word name value known long found kind =
        let rule =
        named name known found
        ∙ ap (λ (b : Bool). Some (built_rule (record { name = name; has_value = b }))) kind in
        let other = long_other word name (Some value) long in
        let turn =
        both_none (or_else (settles rows pending)
        (use_fault false (built_rule (value_named name)) (value ∷ []) before)) []
        (sym (turns.joined_turn command options rows pending word name value other long rule)
        ∙ steps.0) in
        let both =
        both_none (settles rows pending)
        (use_fault false (built_rule (value_named name)) (value ∷ []) before) turn.0 in
        let none = value_is_new name value before both.1 in
        let next =
        turns.joined_walk command options rows pending word name value other long rule
        ∙ ap (λ (l : List Row). idle_at l None) (value_used name value before none) in
        let read =
        moved (between (before ++ row_given name (Some value) ∷ []) None)
        (walked rules [] (idle_at rows pending) word) rest next own.1 tt
        (goal (between (before ++ row_given name (Some value) ∷ []) None)) goes_on in
        let long_is = from_long word name (Some value) long in (
          both.0,
          one_more options before (after (idle_at rows pending) (word ∷ rest))
              (record { name = name; value = Some value }) (word ∷ rest) rest none
              (fit_of name (Some value) known found kind)
              (record {
                name_is_whole = long_is.cut.name_is_whole;
                written = inl (ap (λ w. w ∷ rest)
                    (long_is.word_is ∙ ap dashed long_is.cut.text_is));
              }) read.1,
        )

    mark_word : (name : Text) (known : Known) → long_of word ≡ Some (name, None)
        → known_as name options ≡ Some known → known.has_value ≡ false → Result
    mark_word name known long found kind =
        let rule =
        named name known found
        ∙ ap (λ (b : Bool). Some (built_rule (record { name = name; has_value = b }))) kind in
        let other = long_other word name None long in
        let turn =
        both_none (or_else (settles rows pending)
        (use_fault false (built_rule (mark_named name)) [] before)) []
        (sym (turns.mark_turn command options rows pending word name other long rule)
        ∙ steps.0) in
        let both =
        both_none (settles rows pending)
        (use_fault false (built_rule (mark_named name)) [] before) turn.0 in
        let none = mark_is_new name before both.1 in
        let next =
        turns.mark_walk command options rows pending word name other long rule
        ∙ ap (λ (l : List Row). idle_at l None) (mark_used name before none) in
        let read =
        moved (between (before ++ row_given name None ∷ []) None)
        (walked rules [] (idle_at rows pending) word) rest next own.1 tt
        (goal (between (before ++ row_given name None ∷ []) None)) goes_on in
        let long_is = from_long word name None long in (
          both.0,
          one_more options before (after (idle_at rows pending) (word ∷ rest))
              (record { name = name; value = None }) (word ∷ rest) rest none
              (fit_of name None known found kind)
              (record {
                name_is_whole = long_is.cut.name_is_whole;
                written = ap (λ w. w ∷ rest)
                    (long_is.word_is ∙ ap dashed long_is.cut.text_is);
              }) read.1,
        )

    apart_word : (name : Text) (known : Known) → long_of word ≡ Some (name, None)
        → known_as name options ≡ Some known → known.has_value ≡ true → Result
    apart_word name known long found kind =
        let rule =
        named name known found
        ∙ ap (λ (b : Bool). Some (built_rule (record { name = name; has_value = b }))) kind in
        let rule_id =
        named_id name known found
        ∙ ap (λ (b : Bool). Some (built_rule (record { name = name; has_value = b }))) kind in
        let other = long_other word name None long in
        let turn =
        both_none (settles rows pending) []
        (sym (turns.apart_turn command options rows pending word name other long rule)
        ∙ steps.0) in
        let next =
        turns.apart_walk command options rows pending word name other long rule in
        let read =
        moved (waiting before name) (walked rules [] (idle_at rows pending) word) rest next
        own.1 rule_id (goal (waiting before name)) goes_on in
        let none = pending_fits before name read.value rule_id read.fits in
        let long_is = from_long word name None long in (
          turn.0,
          one_more options before (after (idle_at rows pending) (word ∷ rest))
              (record { name = name; value = Some read.value }) (word ∷ rest) read.rest none
              (fit_of name (Some read.value) known found kind)
              (record {
                name_is_whole = long_is.cut.name_is_whole;
                written = inr (record {
                  words_are = apart_words name long_is.text read.value word rest read.rest
                      long_is.word_is long_is.cut.text_is read.words_are;
                  no_dash = read.no_dash;
                });
              })
              (subst (λ (l : List Row). HasRead options l
              (after (idle_at rows pending) (word ∷ rest)) read.rest)
              (pending_used before name read.value rule_id none) read.read),
        )

    named_word : (name : Text) (value : Option Text) (found : Option Known)
        → long_of word ≡ Some (name, value) → known_as name options ≡ found → Result
    named_word name value None long found =
        let rule =
        by_long options name ∙ ap (λ (o : Option Known). option_map built_rule o) found in
        absurd (cons_not_nil _ _
        (sym (turns.unknown_turn command options rows pending word name value
        (long_other word name value long) long rule) ∙ steps.0))
    named_word name value (Some known) long found = by_kind known.has_value value refl long
      where
        by_kind : (has_value : Bool) (value : Option Text) → known.has_value ≡ has_value
            → long_of word ≡ Some (name, value) → Result
        by_kind true (Some value) kind long = joined_word name value known long found kind
        by_kind true None kind long = apart_word name known long found kind
        by_kind false None kind long = mark_word name known long found kind
        by_kind false (Some value) kind long =
            let rule =
            named name known found
            ∙ ap (λ (b : Bool). Some (built_rule (record { name = name; has_value = b })))
            kind in
            absurd (cons_not_nil _ _
            (sym (turns.valued_mark_turn command options rows pending word name value
            (long_other word name (Some value) long) long rule) ∙ steps.0))

    option_word : Result
    option_word = go (long_of word) refl
      where
        go : (read : Option (Text × Option Text)) → long_of word ≡ read → Result
        go (Some p) long = named_word p.0 p.1 (known_as p.0 options) long refl
        go None long =
            let plain = plain_word word (not_long word own.0 long) in
            absurd (cons_not_nil _ _
            (sym (turns.stray_turn command options rows pending word plain.2 long plain.1)
            ∙ steps.0))

  pub reads : (words : List Text) (state : State) → Goal state words
  reads [] (between rows pending) own has passes = (
    passes.settles,
    record {
      settings = [];
      given = refl;
      tidy = tt;
      rows = sym (append-nil (settled_at rows pending));
    },
  )
  reads [] (waiting rows name) own has passes =
      let is : settles rows (Some (name, [])) ≡ kind.InvalidValue ∷ [] =
      rw (has) refl in absurd (cons_not_nil _ _ (sym is ∙ passes.settles))
  reads (word ∷ rest) (between rows pending) own has passes =
      option_word rows pending word rest own (reads rest) passes
  reads (word ∷ rest) (waiting rows name) own has passes =
      value_word rows name word rest has own (reads rest) passes
