-- The limits of a log's sizes.
use Rattle.std.specs.Prelude.{ℕ, ◌≤◌}
use Rattle.clog_spec.specs.Sizes.{
  most_tables,
  most_writers,
  least_capacity,
  greatest_capacity,
  most_segments,
}

pub record IsWithinLimits (tables writers capacity ordinals : ℕ) : Type 0 where
  pub some_table : 1 ≤ tables
  pub few_tables : tables ≤ most_tables
  pub some_writer : 1 ≤ writers
  pub few_writers : writers ≤ most_writers
  pub least_capacity : least_capacity ≤ capacity
  pub greatest_capacity : capacity ≤ greatest_capacity
  pub some_segment : 1 ≤ ordinals
  pub few_segments : ordinals ≤ most_segments
