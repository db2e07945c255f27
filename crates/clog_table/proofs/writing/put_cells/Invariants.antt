use Rattle.std.proofs.Common.{◌≡◌, ◌++◌}
use Rattle.std.specs.List.{AllByRecursion}
use Rattle.clog_table.specs.Format.{cells_bytes}
use Rattle.clog_table.specs.Limits.{IsWithinLimits, IsStoredCell}
use Rattle.clog_table.proofs.writing.put_cells.Given as goal

-- what is left completes what is to be written, and all is stored once that is
abbrev pub invariant-loop-key : goal.invariant-loop-key
invariant-loop-key l = record {
  bytes : l.out.items ++ cells_bytes l.key-iterator ≡ l.fn.out.items ++ cells_bytes l.cells.entries;
  limits : AllByRecursion (IsWithinLimits l.fn.table) l.key-iterator;
  stored : AllByRecursion (IsStoredCell l.fn.table) l.key-iterator
      → AllByRecursion (IsStoredCell l.fn.table) l.cells.entries;
}
