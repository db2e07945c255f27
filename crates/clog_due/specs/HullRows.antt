-- Hulls of positions by the ordinals of their segments.
use Rattle.std.specs.Prelude.{
  ◌≡◌,
  ℕ,
  ◌<◌,
  ◌≤◌,
  ◌==◌,
  if◌then◌else◌,
  List,
  [],
  ◌∷◌,
  Option,
  None,
  ⊤,
}
use Rattle.std.specs.List.{AllByRecursion}
use Rattle.clog_base.specs.declared.position.Position.{Position}
use Rattle.clog_due.specs.declared.hulls.SegmentHull.{SegmentHull}

-- the hull of the segment of an ordinal, the empty one where there is none
abbrev pub hull_at : List SegmentHull → ℕ → Option (Position × Position)
hull_at [] o = None
hull_at (row ∷ rows) o = if row.ordinal == o then row.hull else hull_at rows o

-- these segments stand before an ordinal, from it on, or behind it
abbrev pub AreBelow : ℕ → List SegmentHull → Type 0
AreBelow o rows = AllByRecursion (λ (row : SegmentHull). row.ordinal < o) rows

abbrev pub AreFrom : ℕ → List SegmentHull → Type 0
AreFrom o rows = AllByRecursion (λ (row : SegmentHull). o ≤ row.ordinal) rows

abbrev pub AreAbove : ℕ → List SegmentHull → Type 0
AreAbove o rows = AllByRecursion (λ (row : SegmentHull). o < row.ordinal) rows

-- Their ordinals ascend.
abbrev pub Ascend : List SegmentHull → Type 0
Ascend [] = ⊤
Ascend (row ∷ rows) = AreAbove row.ordinal rows × Ascend rows

-- the first of them is the segment of an ordinal
abbrev pub BeginsAt : ℕ → List SegmentHull → Type 0
BeginsAt o [] = ⊥
BeginsAt o (row ∷ rows) = row.ordinal ≡ o
