-- How large a mutation may be. Lengths are in bytes.
pub use Rattle.clog_fields.specs.Limits.{IsNameLength, IsValueOf}
use Rattle.std.specs.Prelude.{length, ◌≤◌, ◌<◌}
use Rattle.std.specs.List.{AllByRecursion}
use Rattle.clog_spec.specs.Sizes.{most_tables, most_updates}
use Rattle.clog_mutation.specs.declared.mutation.Update.{Update}
use Rattle.clog_mutation.specs.declared.mutation.Mutation.{Mutation}

pub record UpdateIsWithinLimits (u : Update) : Type 0 where
  pub table : u.table.0 < most_tables
  pub column : IsNameLength (length u.column)
  pub value : IsValueOf u.cell.kind u.cell.value

pub record IsWithinLimits (m : Mutation) : Type 0 where
  pub key : IsNameLength (length m.key)
  pub some : 1 ≤ length m.updates
  pub few : length m.updates ≤ most_updates
  pub updates : AllByRecursion UpdateIsWithinLimits m.updates
