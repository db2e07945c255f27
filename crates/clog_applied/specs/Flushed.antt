-- How many updates a writer leaves out of table files, by the number at which it flushes.
use Rattle.std.specs.Prelude.{◌≡◌, ℕ, ◌<◌, ◌≤◌, ◌==◌, Bool, List, ◌++◌, Some, Contains}
use Rattle.std.specs.List.{filter, count_by, sum_by}
use Rattle.clog_base.specs.declared.cell.Table.{Table}
use Rattle.clog_base.specs.declared.position.Position.{Position}
use Rattle.clog_base.specs.Positions.{IsBelow, IsUpTo}
use Rattle.clog_mutation.specs.declared.mutation.Mutation.{Mutation}
use Rattle.clog_mutation.specs.declared.mutation.Update.{Update}
use Rattle.clog_table.specs.declared.table_file.TableFile.{TableFile}
use Rattle.clog_words.specs.declared.request.ApplyOptions.{ApplyOptions}
use Rattle.clog_applied.specs.Filed.{last_upper, first_of, files_of}
use Rattle.clog_applied.specs.History.{LoggedLine, logged_at, is_by, Line, share_of}

abbrev pub is_update_of : Table → Update → Bool
is_update_of table u = u.table.0 == table.0

-- how many of a mutation's updates are of a table
abbrev pub updates_of : Table → Mutation → ℕ
updates_of table m = count_by (is_update_of table) m.updates

abbrev pub updates_in : Table → Line → ℕ
updates_in table line = updates_of table line.mutation

abbrev pub updates_at : Table → LoggedLine → ℕ
updates_at table w = updates_of table w.mutation

-- these are a writer's entries above a position, in order
pub record AreAbove (history : List LoggedLine) (writer : ℕ) (at : Position)
    (above : List LoggedLine) : Type 0 where
  pub front : List LoggedLine
  pub whole : filter (is_by writer) history ≡ front ++ above
  pub are_up_to : (w : LoggedLine) → Contains front w → IsUpTo (logged_at w) at
  pub are_above : (w : LoggedLine) → Contains above w → IsBelow at (logged_at w)

-- Each writer has fewer updates of a table above the end of the table's last file than the number
-- at which it flushes, and each table of which a writer's share has so many has a file.
pub record IsFlushedAt (options : ApplyOptions) (most base : ℕ) (mutations : List Mutation)
    (history : List LoggedLine) (files : List TableFile) : Type 0 where
  pub few : (table : Table) (writer : ℕ) (above : List LoggedLine) → writer < options.writers
      → AreAbove history writer (last_upper (first_of base) (files_of table files)) above
      → sum_by (updates_at table) above < most
  pub some : (table : Table) (writer : ℕ) → writer < options.writers
      → most ≤ sum_by (updates_in table) (share_of options.writers writer mutations)
      → (file : TableFile) × Contains (files_of table files) file

-- where a number is given at which writers flush
abbrev pub FlushLimitIsMet : ApplyOptions → ℕ → List Mutation → List LoggedLine → List TableFile
    → Type 0
FlushLimitIsMet options base mutations history files =
    (most : ℕ) → options.flush_at ≡ Some most
    → IsFlushedAt options most base mutations history files
