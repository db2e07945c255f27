-- Positions and keys: their order, and one as the other.
use Rattle.std.specs.Prelude.{
  ◌≡◌,
  ℕ,
  ◌+◌,
  ◌-◌,
  ◌*◌,
  ◌/◌,
  ◌%◌,
  ◌^◌,
  ◌<◌,
  ◌≤◌,
  ◌⊎◌,
  Bool,
  ◌&&◌,
  ◌||◌,
  ◌==◌,
  nat_lt,
}
use Rattle.clog_base.specs.declared.position.Position.{Position}

-- a stands before b: by id, and then by offset
abbrev pub IsBelow : Position → Position → Type 0
IsBelow a b = (a.id < b.id) ⊎ ((a.id ≡ b.id) × (a.offset < b.offset))

-- a stands before b, or is b
abbrev pub IsUpTo : Position → Position → Type 0
IsUpTo a b = (a.id < b.id) ⊎ ((a.id ≡ b.id) × (a.offset ≤ b.offset))

-- whether a stands before b
abbrev pub is_below : Position → Position → Bool
is_below a b = nat_lt a.id b.id || (a.id == b.id && nat_lt a.offset b.offset)

-- ---- keys: an ordinal counts segments, and offsets are below 2^31

abbrev pub key_of : ℕ → ℕ → ℕ
key_of ordinal offset = ordinal * 2 ^ 31 + offset

abbrev pub ordinal_of : ℕ → ℕ
ordinal_of key = key / 2 ^ 31

abbrev pub offset_of : ℕ → ℕ
offset_of key = key % 2 ^ 31

-- the position of a key, where the segment of ordinal 0 has the id `base`
abbrev pub position_of : ℕ → ℕ → Position
position_of base key = record { id = base + ordinal_of key; offset = offset_of key }

-- the key of a position whose id is `base` or above it
abbrev pub key_at : ℕ → Position → ℕ
key_at base at = key_of (at.id - base) at.offset

-- a position that has a key
pub record HasKey (base : ℕ) (at : Position) : Type 0 where
  pub id : base ≤ at.id
  pub offset : at.offset < 2 ^ 31
