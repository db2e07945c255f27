-- The mutations that have a payload, and the bytes that are one.
pub use Rattle.clog_fields.specs.Limits.{IsNameText, IsValueText, IsStoredValue}
use Rattle.std.specs.Prelude.{◌≡◌, ℕ, List, length, ◌≤◌, ◌<◌, FitsSigned}
use Rattle.std.specs.Int.{w64}
use Rattle.std.specs.List.{AllByRecursion}
use Rattle.clog_spec.specs.Sizes.{most_tables, most_updates}
use Rattle.clog_mutation.specs.declared.mutation.Update.{Update}
use Rattle.clog_mutation.specs.declared.mutation.Mutation.{Mutation}
use Rattle.clog_mutation.specs.Payload.{payload_of}

pub record IsStoredUpdate (u : Update) : Type 0 where
  pub table : u.table.0 < most_tables
  pub column : IsNameText u.column
  pub ts : FitsSigned w64 u.cell.ts
  pub value : IsStoredValue u.cell.kind u.cell.value

-- what a payload can hold: the limits, texts in UTF-8, and numbers of their widths
pub record IsStored (m : Mutation) : Type 0 where
  pub key : IsNameText m.key
  pub some : 1 ≤ length m.updates
  pub few : length m.updates ≤ most_updates
  pub updates : AllByRecursion IsStoredUpdate m.updates

-- the bytes are the payload of the mutation
pub record IsPayload (bytes : List ℕ) (m : Mutation) : Type 0 where
  pub stored : IsStored m
  pub spelled : bytes ≡ payload_of m
