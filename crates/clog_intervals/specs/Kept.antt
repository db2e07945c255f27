-- What contracts see of the intervals that are kept.
use Rattle.std.specs.Prelude.{ℕ, List}
use Rattle.clog_intervals.specs.declared.interval.Interval.{Interval}

-- the intervals, and for how many more there is room in memory
pub record Kept : Type 0 where
  pub intervals : List Interval
  pub room : ℕ
