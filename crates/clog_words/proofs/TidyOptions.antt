-- Options that are tidy: each is fit for the command, and none is there twice.
use Rattle.std.proofs.Common.{
  ◌≡◌,
  List,
  [],
  ◌∷◌,
  ◌++◌,
  map,
  Bool,
  true,
  false,
  is_some,
  Option,
  Some,
  unwrap_or,
  if◌then◌else◌,
  refl,
  ap,
  ap₂,
  sym,
  ◌∙◌,
  append_assoc,
}
use Rattle.std.proofs.lemmas.Slice.Eq.{bytes_eq-Decides}
use Rattle.std.specs.Str.{bytes_eq}
use Rattle.clap.specs.Faults.{turn_fault, walk_fault}
use Rattle.clap.specs.Lexer.{is_long_word}
use Rattle.clap.specs.Simple.{Shape}
use Rattle.clap.specs.Walk.{Names, Row, Text, Walk, has_row, walked}
use Rattle.clog_words.specs.Given.{BeginsWithDash, Gives, GivesAll, Setting, dashed}
use Rattle.clog_words.specs.Options.{Known, known_as}
use Rattle.clog_words.proofs.Turns.{Pending, both_none, idle_at, waits_at}
use Rattle.clog_words.proofs.Uses.{row_of}

-- the option is one of the command's, and has a value where it should
abbrev pub IsFit : List Known → Setting → Type 0
IsFit options setting =
    known_as setting.name options
    ≡ Some (record { name = setting.name; has_value = is_some setting.value })

-- The options are fit, and none was there before.
abbrev pub IsTidy : List Known → List Row → List Setting → Type 0
IsTidy options rows [] = Unit {0}
IsTidy options rows (setting ∷ settings) =
    (has_row setting.name rows ≡ false) × IsFit options setting
    × IsTidy options (rows ++ row_of setting ∷ []) settings

-- A word of ours: where it begins with a dash it is that of an option.
abbrev pub IsOwn : Text → Type 0
IsOwn word = BeginsWithDash word → is_long_word word ≡ true

-- The words give options that are tidy, with the rows that are told of them.
pub record HasRead (options : List Known) (before after : List Row) (words : List Text)
    : Type 0 where
  pub settings : List Setting
  pub given : GivesAll settings words
  pub tidy : IsTidy options before settings
  pub rows : after ≡ before ++ map row_of settings

pub one_more : (options : List Known) (before after : List Row) (setting : Setting)
    (words rest : List Text) → has_row setting.name before ≡ false → IsFit options setting
    → Gives setting words rest → HasRead options (before ++ row_of setting ∷ []) after rest
    → HasRead options before after words
one_more options before after setting words rest none fit gives read = record {
  settings = setting ∷ read.settings;
  given = (rest, gives, read.given);
  tidy = (none, fit, read.tidy);
  rows = read.rows ∙ append_assoc before (row_of setting ∷ []) (map row_of read.settings);
}

pub apart_words : (name text value word : Text) (rest behind : List Text) → word ≡ dashed text
    → text ≡ name → rest ≡ value ∷ behind → word ∷ rest ≡ dashed name ∷ value ∷ behind
apart_words name text value word rest behind begins named more =
    ap₂ (λ (w : Text) (ws : List Text). w ∷ ws) (begins ∙ ap dashed named) more

-- ---- the option that a name names

known_name : (options : List Known) (name : Text) (known : Known)
    → known_as name options ≡ Some known → known.name ≡ name
known_name [] name known e = absurd (cc)
known_name (first ∷ options) name known e =
    go (bytes_eq first.name name) refl (known_name options name known) e
  where
    go : (b : Bool) → bytes_eq first.name name ≡ b
        → (known_as name options ≡ Some known → known.name ≡ name)
        → (if b then Some first else known_as name options) ≡ Some known → known.name ≡ name
    go true is more e =
        ap (λ (o : Option Known). (unwrap_or o known).name) (sym e)
        ∙ (bytes_eq-Decides first.name name).0 is
    go false is more e = more e

pub known_is : (options : List Known) (name : Text) (known : Known)
    → known_as name options ≡ Some known
    → known_as name options ≡ Some (record { name = name; has_value = known.has_value })
known_is options name known e =
    e ∙ ap (λ (n : Text). Some (record { name = n; has_value = known.has_value }))
    (known_name options name known e)

-- ---- the words one by one

pub walk_next : (shape : Shape) (names : Names) (w : Walk) (word : Text) (rest : List Text)
    → walk_fault shape names w (word ∷ rest) ≡ []
    → (turn_fault shape names w word ≡ [])
    × (walk_fault shape names (walked shape.rules names w word) rest ≡ [])
unfolding walk_fault
walk_next shape names w word rest e =
    both_none (turn_fault shape names w word)
    (walk_fault shape names (walked shape.rules names w word) rest) e

-- where the walk stands: between two options, or behind one that waits for its value
pub data State : Type 0 where
  between : List Row → Pending → State
  waiting : List Row → Text → State

abbrev pub walk_at : State → Walk
walk_at (between rows pending) = idle_at rows pending
walk_at (waiting rows name) = waits_at rows name
