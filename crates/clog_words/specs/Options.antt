-- The options of a command as `clap` is told of them, for private clauses.
use Rattle.std.specs.Prelude.{
  ◌≡◌,
  ℕ,
  List,
  [],
  ◌∷◌,
  map,
  Bool,
  true,
  false,
  Option,
  Some,
  None,
  is_some,
  option_map,
  find,
  not,
  ◌==◌,
  ◌||◌,
  slice_index,
  codes,
}
use Rattle.std.specs.List.{AllByRecursion}
use Rattle.std.specs.Str.{bytes_eq}
use Rattle.clap.specs.Faults.{is_simple_and_free}
use Rattle.clap.specs.Lexer.{is_long_word}
use Rattle.clap.specs.Matches.{first_value, found_of, one_text}
use Rattle.clap.specs.Simple.{App, new_rule, new_shape}
use Rattle.clap.specs.Values.{bool_text}
use Rattle.clap.specs.Walk.{Rule}
use Rattle.clap.specs.declared.builder.action.ArgAction.{ArgAction}
use Rattle.clap.specs.declared.builder.action.ArgAction.TheVariants.{Set, SetTrue}
use Rattle.clap.specs.declared.parser.matches.ArgMatches.{ArgMatches}
use Rattle.clap.specs.declared.parser.matches.Found.{Found}
use Rattle.clog_words.specs.Given.{AreTheOptions, GivesOf, Setting, said}

-- An option that a command has: a mark, or one with a value.
pub record Known : Type 0 where
  pub name : List ℕ
  pub has_value : Bool

abbrev pub action_for : Bool → ArgAction
action_for true = Set
action_for false = SetTrue

abbrev pub rule_for : Known → Rule
rule_for known = record (new_rule known.name) {
  long = Some known.name;
  action = Some (action_for known.has_value);
}

-- a command with these options and nothing else
abbrev pub app_for : List ℕ → List Known → App
app_for name options = record {
  top = record (new_shape name) {
    rules = map rule_for options;
    no_binary_name = true;
    disable_help_flag = true;
  };
  subs = [];
}

abbrev pub value_named : List ℕ → Known
value_named name = record { name = name; has_value = true }

abbrev pub mark_named : List ℕ → Known
mark_named name = record { name = name; has_value = false }

abbrev pub replay_options : List Known
replay_options = value_named (codes "workers") ∷ mark_named (codes "ignore-errors") ∷ []

abbrev pub names_in : List Known → List (List ℕ)
names_in options = map (λ known. known.name) options

-- each option that is given has a value where it should
abbrev pub HasKinds : List Known → List Setting → Type 0
HasKinds options settings =
    AllByRecursion (λ known. (setting : Setting) → said known.name settings ≡ Some setting
    → is_some setting.value ≡ known.has_value) options

abbrev pub known_as : List ℕ → List Known → Option Known
known_as name options = find (λ known. bytes_eq known.name name) options

-- No name is there twice.
abbrev pub HasDistinctNames : List Known → Type 0
HasDistinctNames [] = Unit {0}
HasDistinctNames (known ∷ options) =
    (known_as known.name options ≡ None) × HasDistinctNames options

-- A command with these options is one of which `clap` says what it makes of words.
pub record IsReadable (command : List ℕ) (options : List Known) : Type 0 where
  pub simple : is_simple_and_free (app_for command options) ≡ true
  pub named : known_as [] options ≡ None
  pub distinct : HasDistinctNames options

abbrev pub valued : List ℕ → List ℕ → Setting
valued name value = record { name = name; value = Some value }

abbrev pub marked : List ℕ → Bool → Option Setting
marked name true = Some (record { name = name; value = None })
marked name false = None

-- what was found tells of an option: the value of one that has it, and of a mark whether it is
-- there
abbrev pub TellsOf : Bool → List ℕ → Option Setting → Found → Type 0
TellsOf true name setting found = setting ≡ option_map (valued name) (first_value found name)
TellsOf false name setting found =
    (given : Bool) × (setting ≡ marked name given)
    × (one_text found name ≡ Some (bool_text given))

-- what was found tells of each option
abbrev pub Tells : List Known → List Setting → Found → Type 0
Tells options settings found =
    (name : List ℕ) (known : Known) → known_as name options ≡ Some known
    → TellsOf known.has_value name (said name settings) found

-- The words give these options of a command, and no others, and what was found tells of them.
pub record IsReadAs (options : List Known) (words : List (List ℕ)) (found : Found) : Type 0 where
  pub settings : List Setting
  pub given : AreTheOptions (names_in options) settings words
  pub tells : Tells options settings found

-- The words give options of a command, each with a value where it should have one.
pub record GivesFit (options : List Known) (settings : List Setting) (words : List (List ℕ))
    : Type 0 where
  pub given : GivesOf (names_in options) settings words
  pub kinds : HasKinds options settings

-- a word that begins with a dash is that of an option: no short name, no `-` and no `--`
abbrev pub is_own : List ℕ → Bool
is_own word = not (slice_index word 0 == 45) || is_long_word word

abbrev pub apply_options : List Known
apply_options =
    value_named (codes "writers") ∷ value_named (codes "sync") ∷ value_named (codes "period")
    ∷ value_named (codes "segment-kib") ∷ value_named (codes "flush-at")
    ∷ mark_named (codes "archive") ∷ mark_named (codes "receipts") ∷ mark_named (codes "drain")
    ∷ mark_named (codes "dump") ∷ []

-- an option with a value, as it was found
abbrev pub value_in : ArgMatches → List ℕ → Option Setting
value_in matches name = option_map (valued name) (first_value (found_of matches) name)
