-- Hulls against the order of positions.
use Rattle.std.proofs.Common.{◌≡◌, ◌+◌, arith}
use Rattle.clog_base.specs.declared.position.Position.{Position}
use Rattle.clog_base.specs.Positions.{IsBelow, IsUpTo}
use Rattle.clog_intervals.specs.Hulls.{IsBetween}

-- no place stands between one and the next of its segment
pub next_is_least : (a b : Position) → b.id ≡ a.id → b.offset ≡ a.offset + 1 → (q : Position)
    → IsBelow a q → IsUpTo b q
next_is_least a b same next q above = grind arith

pub from_least : (least greatest p : Position) → IsBetween least greatest p → IsUpTo least p
from_least least greatest p h = grind arith

pub to_greatest : (least greatest p : Position) → IsBetween least greatest greatest
    → IsBetween least greatest p → IsUpTo p greatest
to_greatest least greatest p ordered h = grind arith

-- the place next to one that is within a hull, and not its last
pub next_between : (least greatest u : Position) → IsBetween least greatest greatest
    → IsUpTo least u → IsBelow u greatest
    → IsBetween least greatest (record { id = u.id; offset = u.offset + 1 })
next_between least greatest u ordered from below = record {
  segment = grind arith;
  from = grind arith;
  upto = grind arith;
}
