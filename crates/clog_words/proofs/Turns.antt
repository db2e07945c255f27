-- One word's turn in the walk of `clap`, for a command that has options alone.
use Rattle.std.proofs.Common.{
  ◌≡◌,
  ℕ,
  List,
  [],
  ◌∷◌,
  ◌||◌,
  map,
  Bool,
  true,
  false,
  Option,
  Some,
  None,
  option_map,
  codes,
  if◌then◌else◌,
  refl,
  ap,
  ap₂,
  sym,
  ◌∙◌,
  arith,
  length,
}
use Rattle.std.specs.Str.{bytes_eq}
use Rattle.clap.specs.Kinds.{Kinds, or_else}
use Rattle.clap.specs.Faults.{settle_fault, turn_fault, use_fault}
use Rattle.clap.specs.Lexer.{long_of, short_of}
use Rattle.clap.specs.Simple.{Shape, built, filled, filled_from, new_rule, new_shape, with_index}
use Rattle.clap.specs.Walk.{
  Held,
  Row,
  Rule,
  Text,
  Walk,
  arg_by_id,
  arg_by_index,
  arg_by_long,
  idle,
  option,
  settled,
  used,
  walked,
}
use Rattle.clap.specs.declared.builder.value_parser.ValueParser.{ValueParser}
use Rattle.clap.specs.declared.builder.value_parser.ValueParser.TheVariants as vp
use Rattle.clap.specs.declared.error.kind.ErrorKind.TheVariants as kind
use Rattle.clog_words.specs.Options.{Known, action_for, app_for, known_as, rule_for}

-- ---- lists of kinds

pub cons_not_nil : {X : Type 0} (x : X) (xs : List X) → x ∷ xs ≡ [] → ⊥
cons_not_nil x xs e = omega (arith, ap length e)

pub both_none : (first second : Kinds) → or_else first second ≡ []
    → (first ≡ []) × (second ≡ [])
both_none [] second e = (refl, e)
both_none (k ∷ first) second e = absurd (cons_not_nil k first e)

pub none_of_both : (first second : Kinds) → first ≡ [] → second ≡ []
    → or_else first second ≡ []
none_of_both first second e f = rw (e, f) refl

-- ---- what building makes of the options

abbrev values_for : Bool → ℕ
values_for true = 1
values_for false = 0

abbrev defaults_for : Bool → List Text
defaults_for true = []
defaults_for false = codes "false" ∷ []

abbrev missing_for : Bool → List Text
missing_for true = []
missing_for false = codes "true" ∷ []

abbrev parser_for : Bool → ValueParser
parser_for true = vp.String
parser_for false = vp.Bool

abbrev pub built_rule : Known → Rule
built_rule known = record (new_rule known.name) {
  long = Some known.name;
  action = Some (action_for known.has_value);
  range = Some (record {
    start_inclusive = values_for known.has_value;
    end_inclusive = values_for known.has_value;
  });
  defaults = defaults_for known.has_value;
  missing = missing_for known.has_value;
  parser = Some (parser_for known.has_value);
}

abbrev pub rules_for : List Known → List Rule
rules_for options = map built_rule options

built_one : (name : List ℕ) (has_value : Bool)
    → with_index 1 (filled (rule_for (record { name = name; has_value = has_value })))
    ≡ built_rule (record { name = name; has_value = has_value })
built_one name true = refl
built_one name false = refl

pub rules_built : (options : List Known)
    → filled_from 1 (map rule_for options) ≡ rules_for options
rules_built [] = refl
rules_built (known ∷ options) =
    ap₂ (λ (rule : Rule) (rules : List Rule). rule ∷ rules)
    (built_one known.name known.has_value) (rules_built options)

-- the command as it is built
abbrev pub shape_for : List ℕ → List Known → Shape
shape_for name options = record (new_shape name) {
  rules = rules_for options;
  no_binary_name = true;
  disable_help_flag = true;
  disable_help_subcommand = true;
  is_built = true;
}

pub built_shape : (name : List ℕ) (options : List Known)
    → built (app_for name options) ≡ record { top = shape_for name options; subs = [] }
built_shape name options =
    ap (λ (rules : List Rule). record {
      top = record (shape_for name options) { rules = rules };
      subs = [];
    }) (rules_built options)

-- ---- which option a word names

pub by_long : (options : List Known) (name : List ℕ)
    → arg_by_long (rules_for options) name ≡ option_map built_rule (known_as name options)
by_long [] name = refl
by_long (known ∷ options) name = go (bytes_eq known.name name) (by_long options name)
  where
    go : (b : Bool) → arg_by_long (rules_for options) name
        ≡ option_map built_rule (known_as name options)
        → (if b || false then Some (built_rule known) else arg_by_long (rules_for options) name)
        ≡ option_map built_rule (if b then Some known else known_as name options)
    go true e = refl
    go false e = e

pub by_id : (options : List Known) (name : List ℕ)
    → arg_by_id (rules_for options) name ≡ option_map built_rule (known_as name options)
by_id [] name = refl
by_id (known ∷ options) name = go (bytes_eq known.name name) (by_id options name)
  where
    go : (b : Bool) → arg_by_id (rules_for options) name
        ≡ option_map built_rule (known_as name options)
        → (if b then Some (built_rule known) else arg_by_id (rules_for options) name)
        ≡ option_map built_rule (if b then Some known else known_as name options)
    go true e = refl
    go false e = e

pub no_position : (options : List Known) (i : ℕ) → arg_by_index (rules_for options) i ≡ None
no_position [] i = refl
no_position (known ∷ options) i = no_position options i

-- ---- where the walk stands between two words

abbrev pub Pending : Type 0
Pending = Option (Text × List Text)

abbrev pub held_at : List Row → Pending → Held
held_at rows pending = record { rows = rows; pending = pending; skip = 0 }

-- no option waits for its value
abbrev pub idle_at : List Row → Pending → Walk
idle_at rows pending = record {
  held = held_at rows pending;
  waiting = idle;
  position = 1;
  is_trailing = false;
  stopped = None;
}

-- this option waits for its value
abbrev pub waits_at : List Row → Text → Walk
waits_at rows name = record {
  held = held_at rows (Some (name, []));
  waiting = option name;
  position = 1;
  is_trailing = false;
  stopped = None;
}

module _ (command : List ℕ) (options : List Known) where
  abbrev rules : List Rule
  rules = rules_for options

  abbrev turn : Walk → Text → Kinds
  turn w word = turn_fault (shape_for command options) [] w word

  -- `--name=value`
  pub joined_turn : (rows : List Row) (pending : Pending) (word name value : Text)
      → bytes_eq word (45 ∷ 45 ∷ []) ≡ false → long_of word ≡ Some (name, Some value)
      → arg_by_long rules name ≡ Some (built_rule (record { name = name; has_value = true }))
      → turn (idle_at rows pending) word
      ≡ or_else (or_else (settle_fault rules false (held_at rows pending))
      (use_fault false (built_rule (record { name = name; has_value = true })) (value ∷ [])
      (settled rules (held_at rows pending)).rows)) []
  joined_turn rows pending word name value other long found = rw (other, long, found) refl

  pub joined_walk : (rows : List Row) (pending : Pending) (word name value : Text)
      → bytes_eq word (45 ∷ 45 ∷ []) ≡ false → long_of word ≡ Some (name, Some value)
      → arg_by_long rules name ≡ Some (built_rule (record { name = name; has_value = true }))
      → walked rules [] (idle_at rows pending) word
      ≡ idle_at (used (built_rule (record { name = name; has_value = true })) (value ∷ [])
      (settled rules (held_at rows pending)).rows) None
  unfolding walked
  joined_walk rows pending word name value other long found = rw (other, long, found) refl

  -- `--name`, which waits for a value
  pub apart_turn : (rows : List Row) (pending : Pending) (word name : Text)
      → bytes_eq word (45 ∷ 45 ∷ []) ≡ false → long_of word ≡ Some (name, None)
      → arg_by_long rules name ≡ Some (built_rule (record { name = name; has_value = true }))
      → turn (idle_at rows pending) word
      ≡ or_else (settle_fault rules false (held_at rows pending)) []
  apart_turn rows pending word name other long found = rw (other, long, found) refl

  pub apart_walk : (rows : List Row) (pending : Pending) (word name : Text)
      → bytes_eq word (45 ∷ 45 ∷ []) ≡ false → long_of word ≡ Some (name, None)
      → arg_by_long rules name ≡ Some (built_rule (record { name = name; has_value = true }))
      → walked rules [] (idle_at rows pending) word
      ≡ waits_at (settled rules (held_at rows pending)).rows name
  unfolding walked
  apart_walk rows pending word name other long found = rw (other, long, found) refl

  -- the value that was waited for
  pub value_turn : (rows : List Row) (name word : Text)
      → bytes_eq word (45 ∷ 45 ∷ []) ≡ false → long_of word ≡ None → short_of word ≡ None
      → turn (waits_at rows name) word ≡ []
  value_turn rows name word other long short = rw (other, long, short) refl

  pub value_walk : (rows : List Row) (name word : Text)
      → bytes_eq word (45 ∷ 45 ∷ []) ≡ false → long_of word ≡ None → short_of word ≡ None
      → arg_by_id rules name ≡ Some (built_rule (record { name = name; has_value = true }))
      → bytes_eq name name ≡ true
      → walked rules [] (waits_at rows name) word ≡ idle_at rows (Some (name, word ∷ []))
  unfolding walked
  value_walk rows name word other long short found same =
      rw (other, long, short, found, same) refl

  -- a mark
  pub mark_turn : (rows : List Row) (pending : Pending) (word name : Text)
      → bytes_eq word (45 ∷ 45 ∷ []) ≡ false → long_of word ≡ Some (name, None)
      → arg_by_long rules name ≡ Some (built_rule (record { name = name; has_value = false }))
      → turn (idle_at rows pending) word
      ≡ or_else (or_else (settle_fault rules false (held_at rows pending))
      (use_fault false (built_rule (record { name = name; has_value = false })) []
      (settled rules (held_at rows pending)).rows)) []
  mark_turn rows pending word name other long found = rw (other, long, found) refl

  pub mark_walk : (rows : List Row) (pending : Pending) (word name : Text)
      → bytes_eq word (45 ∷ 45 ∷ []) ≡ false → long_of word ≡ Some (name, None)
      → arg_by_long rules name ≡ Some (built_rule (record { name = name; has_value = false }))
      → walked rules [] (idle_at rows pending) word
      ≡ idle_at (used (built_rule (record { name = name; has_value = false })) []
      (settled rules (held_at rows pending)).rows) None
  unfolding walked
  mark_walk rows pending word name other long found = rw (other, long, found) refl

  -- ---- words that are refused

  pub unknown_turn : (rows : List Row) (pending : Pending) (word name : Text)
      (value : Option Text) → bytes_eq word (45 ∷ 45 ∷ []) ≡ false
      → long_of word ≡ Some (name, value) → arg_by_long rules name ≡ None
      → turn (idle_at rows pending) word ≡ kind.UnknownArgument ∷ []
  unknown_turn rows pending word name value other long found = rw (other, long, found) refl

  pub valued_mark_turn : (rows : List Row) (pending : Pending) (word name value : Text)
      → bytes_eq word (45 ∷ 45 ∷ []) ≡ false → long_of word ≡ Some (name, Some value)
      → arg_by_long rules name ≡ Some (built_rule (record { name = name; has_value = false }))
      → turn (idle_at rows pending) word ≡ kind.TooManyValues ∷ []
  valued_mark_turn rows pending word name value other long found =
      rw (other, long, found) refl

  pub stray_turn : (rows : List Row) (pending : Pending) (word : Text)
      → bytes_eq word (45 ∷ 45 ∷ []) ≡ false → long_of word ≡ None → short_of word ≡ None
      → turn (idle_at rows pending) word ≡ kind.UnknownArgument ∷ []
  stray_turn rows pending word other long short =
      rw (other, long, short, no_position options 1) refl

  -- where an option waits for its value, another is refused
  pub no_value_turn : (rows : List Row) (waiting word name : Text) (value : Option Text)
      (found : Option Known) → bytes_eq word (45 ∷ 45 ∷ []) ≡ false
      → long_of word ≡ Some (name, value)
      → arg_by_id rules waiting
      ≡ Some (built_rule (record { name = waiting; has_value = true }))
      → arg_by_long rules name ≡ option_map built_rule found
      → turn (waits_at rows waiting) word ≡ [] → ⊥
  no_value_turn rows waiting word name value found other long waits named none =
      go found value long named
    where
      go : (found : Option Known) (value : Option Text) → long_of word ≡ Some (name, value)
          → arg_by_long rules name ≡ option_map built_rule found → ⊥
      go None value long named =
          let is : turn (waits_at rows waiting) word ≡ kind.UnknownArgument ∷ [] =
          rw (other, long, named) refl in cons_not_nil _ _ (sym is ∙ none)
      go (Some known) value long named = by_kind known.has_value value long named
        where
          by_kind : (has_value : Bool) (value : Option Text) → long_of word ≡ Some (name, value)
              → arg_by_long rules name
              ≡ Some (built_rule (record { name = known.name; has_value = has_value })) → ⊥
          by_kind true None long named =
              let is : turn (waits_at rows waiting) word ≡ kind.InvalidValue ∷ [] =
              rw (other, long, named, waits) refl in cons_not_nil _ _ (sym is ∙ none)
          by_kind true (Some value) long named =
              let is : turn (waits_at rows waiting) word ≡ kind.InvalidValue ∷ [] =
              rw (other, long, named, waits) refl in cons_not_nil _ _ (sym is ∙ none)
          by_kind false None long named =
              let is : turn (waits_at rows waiting) word ≡ kind.InvalidValue ∷ [] =
              rw (other, long, named, waits) refl in cons_not_nil _ _ (sym is ∙ none)
          by_kind false (Some value) long named =
              let is : turn (waits_at rows waiting) word ≡ kind.TooManyValues ∷ [] =
              rw (other, long, named) refl in cons_not_nil _ _ (sym is ∙ none)
