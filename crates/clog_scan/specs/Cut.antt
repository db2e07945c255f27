-- A segment's bytes, cut into a front and the rest. The front is nothing, or a header and sections.
use Rattle.std.specs.Prelude.{
  ◌≡◌,
  ℕ,
  ◌+◌,
  ◌≤◌,
  List,
  [],
  ◌∷◌,
  ◌++◌,
  length,
  drop,
  Option,
  Some,
  None,
  ⊤,
}
use Rattle.std.specs.List.{AllByRecursion}
use Rattle.clog_spec.specs.Segment.{header_bytes, marker_bytes, entry_bytes}
use Rattle.clog_spec.specs.Sizes.{header_size, marker_size, least_payload}

-- a section: the offset where it ends, and the payloads of its entries
pub record Section : Type 0 where
  pub until : ℕ
  pub payloads : List (List ℕ)

-- entries laid end to end
abbrev pub entries_bytes : List (List ℕ) → List ℕ
entries_bytes [] = []
entries_bytes (p ∷ ps) = entry_bytes p ++ entries_bytes ps

-- sections from an offset on: markers, each followed by the entries of its section
abbrev pub sections_bytes : ℕ → ℕ → List Section → List ℕ
sections_bytes id at [] = []
sections_bytes id at (s ∷ ss) =
    marker_bytes id at s.until ++ (entries_bytes s.payloads ++ sections_bytes id s.until ss)

abbrev pub front_bytes : ℕ → Option (List Section) → List ℕ
front_bytes id None = []
front_bytes id (Some ss) = header_bytes id ++ sections_bytes id header_size ss

-- where the entries of a section end whose marker stands at an offset
abbrev pub filled_to : ℕ → Section → ℕ
filled_to at s = at + marker_size + length (entries_bytes s.payloads)

-- none is below the least that a reader takes
abbrev pub AreLong : List (List ℕ) → Type 0
AreLong payloads = AllByRecursion (λ payload. least_payload ≤ length payload) payloads

-- a section whose marker stands at an offset of a file of this length
pub record IsSection (len at : ℕ) (s : Section) : Type 0 where
  pub behind : at + marker_size ≤ s.until
  pub within : s.until ≤ len
  pub fits : filled_to at s ≤ s.until
  pub least : AreLong s.payloads

-- sections from an offset on, each where the one before it ends. Only the last may be unfinished.
abbrev pub AreSections : ℕ → ℕ → List Section → Type 0
AreSections len at [] = ⊤
AreSections len at (s ∷ []) = IsSection len at s
AreSections len at (s ∷ t ∷ ss) =
    IsSection len at s × (filled_to at s ≡ s.until) × AreSections len s.until (t ∷ ss)

-- the sections of a front are sections
abbrev pub AreSectionsOf : ℕ → Option (List Section) → Type 0
AreSectionsOf len None = ⊤
AreSectionsOf len (Some ss) = AreSections len header_size ss

-- the bytes begin with this front
pub record IsFront (bytes : List ℕ) (id : ℕ) (front : Option (List Section)) : Type 0 where
  pub cut : bytes ≡ front_bytes id front ++ drop (length (front_bytes id front)) bytes
  pub sections : AreSectionsOf (length bytes) front

-- where the last of these sections ends, which begin at an offset
abbrev pub last_until : ℕ → List Section → ℕ
last_until at [] = at
last_until at (s ∷ ss) = last_until s.until ss
