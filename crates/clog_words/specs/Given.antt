-- How the options of a command are given by the words behind it.
use Rattle.std.specs.Prelude.{
  ◌≡◌,
  ◌≢◌,
  ℕ,
  List,
  [],
  ◌∷◌,
  ◌++◌,
  map,
  Bool,
  true,
  nat_le,
  count_by,
  ◌⊎◌,
  Option,
  Some,
  None,
  String,
  string_bytes,
  slice_index,
}
use Rattle.std.specs.List.{AllByRecursion, find, list_all, list_any}
use Rattle.std.specs.Str.{bytes_eq}
use Rattle.std.specs.declared.alloc.Global.{Global}

-- the words as their letters
abbrev pub texts : List (String Global) → List (List ℕ)
texts words = map string_bytes words

-- An option as it is given: its name, without the dashes before it, and its value, if it has one.
pub record Setting : Type 0 where
  pub name : List ℕ
  pub value : Option (List ℕ)

-- `--name`
abbrev pub dashed : List ℕ → List ℕ
dashed name = 45 ∷ 45 ∷ name

abbrev pub BeginsWithDash : List ℕ → Type 0
BeginsWithDash word = slice_index word 0 ≡ 45

-- A name holds no `=`.
abbrev pub HasNoEquals : List ℕ → Type 0
HasNoEquals name = AllByRecursion (λ b. b ≢ 61) name

-- `--name=value` and the rest
abbrev pub IsJoined : List ℕ → List ℕ → List (List ℕ) → List (List ℕ) → Type 0
IsJoined name value words rest = words ≡ (dashed name ++ 61 ∷ value) ∷ rest

-- `--name value` and the rest
pub record IsApart (name value : List ℕ) (words rest : List (List ℕ)) : Type 0 where
  pub words_are : words ≡ dashed name ∷ value ∷ rest
  pub no_dash : ¬ BeginsWithDash value

-- A mark, which has no value, stands alone. A value is written in one of two ways.
abbrev pub IsWritten : List ℕ → Option (List ℕ) → List (List ℕ) → List (List ℕ) → Type 0
IsWritten name None words rest = words ≡ dashed name ∷ rest
IsWritten name (Some value) words rest =
    IsJoined name value words rest ⊎ IsApart name value words rest

-- The words are those of this option, and behind them the rest.
pub record Gives (setting : Setting) (words rest : List (List ℕ)) : Type 0 where
  pub name_is_whole : HasNoEquals setting.name
  pub written : IsWritten setting.name setting.value words rest

-- The words are those of these options, one behind the other.
abbrev pub GivesAll : List Setting → List (List ℕ) → Type 0
GivesAll [] words = words ≡ []
GivesAll (setting ∷ others) words =
    (rest : List (List ℕ)) × Gives setting words rest × GivesAll others rest

abbrev pub is_named : List ℕ → Setting → Bool
is_named name setting = bytes_eq name setting.name

-- The words are those of these options, each name is one of the command's, and none is there twice.
pub record GivesOf (names : List (List ℕ)) (settings : List Setting) (words : List (List ℕ))
    : Type 0 where
  pub given : GivesAll settings words
  pub known : list_all (λ setting. list_any (λ name. is_named name setting) names) settings ≡ true
  pub once : list_all (λ name. nat_le (count_by (is_named name) settings) 1) names ≡ true

-- the option of this name
abbrev pub said : List ℕ → List Setting → Option Setting
said name settings = find (is_named name) settings

-- ---- for private clauses

-- the words behind a mark do not begin with a value
abbrev pub IsFresh : List (List ℕ) → Type 0
IsFresh [] = Unit {0}
IsFresh (word ∷ words) = BeginsWithDash word

abbrev pub IsAlone : Option (List ℕ) → List (List ℕ) → Type 0
IsAlone None rest = IsFresh rest
IsAlone (Some value) rest = Unit {0}

-- The words begin with this option, whatever stands behind the rest.
pub record IsFirst (setting : Setting) (words rest : List (List ℕ)) : Type 0 where
  pub gives : Gives setting words rest
  pub alone : IsAlone setting.value rest

-- These options of a command are given, and no others.
pub record AreTheOptions (names : List (List ℕ)) (settings : List Setting) (words : List (List ℕ))
    : Type 0 where
  pub given : GivesOf names settings words
  pub only : (others : List Setting) → GivesAll others words → others ≡ settings
