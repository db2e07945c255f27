-- How many groups and memtables were made, by the barriers that were issued.
use Rattle.std.specs.Prelude.{◌≡◌, ℕ, zero, suc, ◌+◌, ◌≤◌, List, length}
use Rattle.path_core.specs.declared.event.Event.{Event}
use Rattle.path_core.specs.declared.state.PathState.{PathState}
use Rattle.path_rule.specs.Issued.{issues_of}
use Rattle.path_rule.specs.Limits.{made_below}
use Rattle.path_rule.specs.Rule.{steps_by}

-- the barriers that the first n seats have issued, together
abbrev pub issued_below : ℕ → List Event → ℕ
issued_below zero es = 0
issued_below (suc n) es = issued_below n es + issues_of (steps_by n es)

-- The groups of both orders are the first of each, and one for each barrier that a seat has issued.
-- The memtables of all 16 tables are the first of each, and at most one for each such barrier, and
-- one for each seat.
pub record ArePaidFor (seats : ℕ) (events : List Event) (x : PathState) : Type 0 where
  pub groups : length x.write.tallies + length x.append.tallies ≡ 2 + issued_below seats events
  pub memtables : made_below 16 x ≤ 16 + issued_below seats events + seats
