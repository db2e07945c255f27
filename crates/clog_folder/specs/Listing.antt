-- What the names of a listing say.
use Rattle.std.specs.Prelude.{◌≡◌, ◌⊎◌, ℕ, List, [], ◌∷◌, length, Contains}
use Rattle.std.specs.declared.cmp.Ordering.{Ordering}
use Rattle.std.specs.List.Sorted.{IsStrictlySortedBy}
use Rattle.std.specs.Map.{keys_of}
use Rattle.std.specs.Ordering.{nat_cmp, ordering_then}
use Rattle.clog_spec.specs.Names.{IsSegmentName}

-- where a segment stands among the others: its id, and its version
abbrev pub SegmentPlace : Type 0
SegmentPlace = ℕ × ℕ

-- by id, and of one id by version
abbrev pub segment_cmp : SegmentPlace → SegmentPlace → Ordering
segment_cmp a b = ordering_then (nat_cmp a.0 b.0) (nat_cmp a.1 b.1)

-- the name is that of the segment of this place
abbrev pub IsSegmentAt : SegmentPlace → List ℕ → Type 0
IsSegmentAt place name = IsSegmentName name place.1 place.0

-- Of the names that have P these are all that have a place, in the order of places.
pub record AreRows {K : Type 0} (cmp : K → K → Ordering) (IsNamed : K → List ℕ → Type 0)
    (P : List ℕ → Type 0) (rows : List (K × List ℕ)) : Type 0 where
  pub ordered : IsStrictlySortedBy cmp (keys_of rows)
  pub each : (place : K) (name : List ℕ) → Contains rows (place, name)
      → P name × IsNamed place name
  pub every : (place : K) (name : List ℕ) → P name → IsNamed place name
      → Contains rows (place, name)

-- The others are those of a list that have P, in its order.
abbrev pub Picks : {A : Type 0} → (A → Type 0) → List A → List A → Type 0
Picks P [] picked = picked ≡ []
Picks P (x ∷ xs) picked =
    (P x × ((rest : List _) × (picked ≡ x ∷ rest) × Picks P xs rest))
    ⊎ ((¬ P x) × Picks P xs picked)

-- so many of the names have P
abbrev pub IsCount : (List ℕ → Type 0) → List (List ℕ) → ℕ → Type 0
IsCount P names n = (picked : List (List ℕ)) × Picks P names picked × (n ≡ length picked)
