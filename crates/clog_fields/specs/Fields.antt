-- The bytes of a field, and what a refused write leaves of them. Numbers are big endian.
use Rattle.std.specs.Prelude.{◌≡◌, ℕ, ℤ, List, [], ◌∷◌, ◌++◌, length}
use Rattle.std.specs.Int.{w16, w32, w64, to_be_bytes, cast_unsigned}
use Rattle.clog_base.specs.declared.cell.Kind.{Kind}
use Rattle.clog_base.specs.declared.cell.Kind.TheVariants.{Deletion, Live}

-- a length in two bytes, and as many bytes
abbrev pub short_text : List ℕ → List ℕ
short_text text = to_be_bytes w16 (length text) ++ text

-- eight bytes
abbrev pub timestamp_bytes : ℤ → List ℕ
timestamp_bytes ts = to_be_bytes w64 (cast_unsigned w64 ts)

-- a tag, and behind a 1 the value with its length in four bytes
abbrev pub tagged : Kind → List ℕ → List ℕ
tagged Deletion value = 0 ∷ []
tagged Live value = 1 ∷ (to_be_bytes w32 (length value) ++ value)

-- A first part of the bytes stands behind the old ones: none of them, some, or all.
pub record AppendsPart (old new bytes : List ℕ) : Type 0 where
  pub part : List ℕ
  pub rest : List ℕ
  pub parts : bytes ≡ part ++ rest
  pub appended : new ≡ old ++ part
