-- How large names and values may be, and which of them stand in bytes. Lengths are in bytes.
use Rattle.std.specs.Prelude.{◌≡◌, ℕ, List, [], length, ◌≤◌, ◌<◌, ◌^◌, IsUtf8}
use Rattle.clog_spec.specs.Sizes.{longest_name}
use Rattle.clog_base.specs.declared.cell.Kind.{Kind}
use Rattle.clog_base.specs.declared.cell.Kind.TheVariants.{Deletion, Live}

-- the length of a key or a column
pub record IsNameLength (n : ℕ) : Type 0 where
  pub some : 1 ≤ n
  pub few : n ≤ longest_name

-- a deletion has no value
abbrev pub IsValueOf : Kind → List ℕ → Type 0
IsValueOf Deletion value = value ≡ []
IsValueOf Live value = Unit {0}

-- and the length of a live one fits four bytes
abbrev pub IsValueSize : Kind → List ℕ → Type 0
IsValueSize Deletion value = value ≡ []
IsValueSize Live value = length value < 2 ^ 32

-- a key or a column as it stands in bytes
pub record IsNameText (text : List ℕ) : Type 0 where
  pub size : IsNameLength (length text)
  pub utf8 : IsUtf8 text

-- a live value as it stands in bytes
pub record IsValueText (text : List ℕ) : Type 0 where
  pub size : length text < 2 ^ 32
  pub utf8 : IsUtf8 text

abbrev pub IsStoredValue : Kind → List ℕ → Type 0
IsStoredValue Deletion value = value ≡ []
IsStoredValue Live value = IsValueText value
