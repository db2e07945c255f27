-- The hull of positions of one segment.
use Rattle.std.specs.Prelude.{◌≡◌, ℕ, ◌≤◌, ◌⊎◌, List, [], All, Contains, Option, Some, None, ⊤}
use Rattle.clog_base.specs.declared.position.Position.{Position}

-- the position has this id, and stands within these offsets
pub record IsBetween (least greatest p : Position) : Type 0 where
  pub segment : p.id ≡ least.id
  pub from : least.offset ≤ p.offset
  pub upto : p.offset ≤ greatest.offset

-- Both ends are among the positions, and all of these stand between them, in one segment.
pub record IsSpan (least greatest : Position) (positions : List Position) : Type 0 where
  pub has_least : Contains positions least
  pub has_greatest : Contains positions greatest
  pub between : All (IsBetween least greatest) positions

-- The ends are the least and the greatest of the positions. No positions have no ends.
abbrev pub IsHull : Option (Position × Position) → List Position → Type 0
IsHull None positions = positions ≡ []
IsHull (Some ends) positions = IsSpan ends.0 ends.1 positions

-- the hull is empty or of the segment of this id
abbrev pub IsEmptyOrOf : Option (Position × Position) → ℕ → Type 0
IsEmptyOrOf None id = ⊤
IsEmptyOrOf (Some ends) id = ends.0.id ≡ id

-- the ends stand in order, in one segment
abbrev pub AreEnds : Option (Position × Position) → Type 0
AreEnds None = ⊤
AreEnds (Some ends) = IsBetween ends.0 ends.1 ends.1

-- the wider ends are the old ones or the new position, and all three stand between them
pub record IsWidenedTo (least greatest at : Position) (wider : Position × Position) : Type 0 where
  pub lower : (wider.0 ≡ least) ⊎ (wider.0 ≡ at)
  pub upper : (wider.1 ≡ greatest) ⊎ (wider.1 ≡ at)
  pub least_between : IsBetween wider.0 wider.1 least
  pub greatest_between : IsBetween wider.0 wider.1 greatest
  pub at_between : IsBetween wider.0 wider.1 at

-- the wider ends are those of the old ones' positions and one more
abbrev pub IsWidened : Option (Position × Position) → Position → Position × Position → Type 0
IsWidened None at wider = wider ≡ (at, at)
IsWidened (Some ends) at wider = IsWidenedTo ends.0 ends.1 at wider
