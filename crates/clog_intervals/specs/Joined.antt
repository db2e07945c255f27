-- Where intervals stand to a place, and what joins them.
use Rattle.std.specs.Prelude.{◌≡◌, ℕ, ◌+◌, ◌≤◌, ◌⊎◌, List, length, take, drop, Option, Some, None}
use Rattle.std.specs.List.{AllByRecursion}
use Rattle.clog_base.specs.declared.position.Position.{Position}
use Rattle.clog_intervals.specs.declared.interval.Interval.{Interval}
use Rattle.clog_base.specs.Positions.{IsBelow, IsUpTo}
use Rattle.clog_intervals.specs.Union.{IsWithin, Holds}

-- each of the intervals ends below a place
abbrev pub EndBelow : Position → List Interval → Type 0
EndBelow at intervals = AllByRecursion (λ i. IsBelow i.upper at) intervals

-- each of the intervals ends at a place or above it
abbrev pub EndFrom : Position → List Interval → Type 0
EndFrom at intervals = AllByRecursion (λ i. IsUpTo at i.upper) intervals

-- each of the intervals begins at a place or below it
abbrev pub BeginUpTo : Position → List Interval → Type 0
BeginUpTo at intervals = AllByRecursion (λ i. IsUpTo i.lower at) intervals

-- each of the intervals begins above a place
abbrev pub BeginAbove : Position → List Interval → Type 0
BeginAbove at intervals = AllByRecursion (λ i. IsBelow at i.lower) intervals

-- The interval is one of these and holds the place. Behind its end is a gap.
pub record Has (intervals : List Interval) (at : Position) (found : Interval) : Type 0 where
  pub within : IsWithin found at
  pub one : (p : Position) → IsWithin found p → Holds intervals p
  pub gap :
      (p : Position) → p.id ≡ found.upper.id → p.offset ≡ found.upper.offset + 1 → Holds intervals p
      → ⊥

-- the interval that holds the place, none where no interval does
abbrev pub IsHolder : List Interval → Position → Option Interval → Type 0
IsHolder intervals at None = Holds intervals at → ⊥
IsHolder intervals at (Some found) = Has intervals at found

-- The intervals from first to last, the last excluded, are those that meet new or leave no gap
-- to it.
pub record IsRun (intervals : List Interval) (new : Interval) (first last : ℕ) : Type 0 where
  pub order : first ≤ last
  pub within : last ≤ length intervals
  pub below : EndBelow new.lower (take first intervals)
  pub others : EndFrom new.lower (drop first intervals)
  pub begun : BeginUpTo new.upper (take last intervals)
  pub above : BeginAbove new.upper (drop last intervals)

-- joined has the lesser of the lower ends of new and first, and the greater of the upper ends of
-- new and last
pub record IsJoined (new first last joined : Interval) : Type 0 where
  pub lower : (joined.lower ≡ new.lower) ⊎ (joined.lower ≡ first.lower)
  pub upper : (joined.upper ≡ new.upper) ⊎ (joined.upper ≡ last.upper)
  pub below_new : IsUpTo joined.lower new.lower
  pub below_first : IsUpTo joined.lower first.lower
  pub above_new : IsUpTo new.upper joined.upper
  pub above_last : IsUpTo last.upper joined.upper
