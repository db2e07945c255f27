-- When a segment may be dropped: table files stand for each table's part of it, from its first
-- position to its last.
use Rattle.std.specs.Prelude.{◌≡◌, ℕ, ◌≤◌, List, Contains}
use Rattle.clog_base.specs.declared.cell.Table.{Table}
use Rattle.clog_base.specs.declared.position.Position.{Position}
use Rattle.clog_mutation.specs.declared.mutation.Mutation.{Mutation}
use Rattle.clog_mutation.specs.declared.mutation.Update.{Update}
use Rattle.clog_mutation.specs.Stored.{IsPayload}
use Rattle.clog_scan.specs.Segment.{Entry}
use Rattle.clog_table.specs.declared.table_file.TableFile.{TableFile}
use Rattle.clog_crash.specs.Restore.{IsInInterval}

-- the entry's mutation has an update of the table
pub record Touches (entry : Entry) (table : Table) : Type 0 where
  pub mutation : Mutation
  pub said : IsPayload entry.payload mutation
  pub update : Update
  pub listed : Contains mutation.updates update
  pub same_table : update.table ≡ table

-- one of the table's files has the position in its interval
pub record IsFiled (files : List TableFile) (table : Table) (at : Position) : Type 0 where
  pub file : TableFile
  pub listed : Contains files file
  pub same_table : file.table ≡ table
  pub inside : IsInInterval file at

-- A segment with these entries, all of which it will ever have, has one; and for each table each
-- offset from the least to the greatest end of those that touch it lies in the table's files.
pub record IsDroppable (files : List TableFile) (id : ℕ) (entries : List Entry) : Type 0 where
  pub entry : Entry
  pub has_entry : Contains entries entry
  pub filed : (table : Table) (a b : Entry) → Contains entries a → Contains entries b
      → Touches a table → Touches b table → (offset : ℕ) → a.end ≤ offset → offset ≤ b.end
      → IsFiled files table (record { id = id; offset = offset })
