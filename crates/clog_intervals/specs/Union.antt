-- The union of intervals of the log.
use Rattle.std.specs.Prelude.{List, [], ◌∷◌, ◌⊎◌, Option, Some, None, ⊤}
use Rattle.clog_base.specs.declared.position.Position.{Position}
use Rattle.clog_intervals.specs.declared.interval.Interval.{Interval}
use Rattle.clog_base.specs.Positions.{IsBelow, IsUpTo}
use Rattle.clog_intervals.specs.Hulls.{IsBetween}

-- the position stands above the interval's lower end and at or below its upper one
abbrev pub IsWithin : Interval → Position → Type 0
IsWithin interval p = IsBelow interval.lower p × IsUpTo p interval.upper

-- the position stands in one of the intervals
abbrev pub Holds : List Interval → Position → Type 0
Holds [] p = ⊥
Holds (interval ∷ intervals) p = IsWithin interval p ⊎ Holds intervals p

-- every position of a hull, not its ends alone, stands in the union
abbrev pub IsCovered : List Interval → Option (Position × Position) → Type 0
IsCovered intervals None = ⊤
IsCovered intervals (Some ends) =
    (p : Position) → IsBetween ends.0 ends.1 p → Holds intervals p

-- a position stands below each of the intervals, not next to the first
abbrev pub IsBefore : Position → List Interval → Type 0
IsBefore p [] = ⊤
IsBefore p (interval ∷ intervals) = IsBelow p interval.lower

-- None of the intervals is empty, they stand in order, and between two of them there is a gap.
abbrev pub AreApart : List Interval → Type 0
AreApart [] = ⊤
AreApart (interval ∷ intervals) =
    IsBelow interval.lower interval.upper × IsBefore interval.upper intervals × AreApart intervals
