use Rattle.std.proofs.Common.{◌≡◌, ℕ, length, take}
use Rattle.clog_spec.specs.Sizes.{most_tables}
use Rattle.clog_due.specs.Counting.{AreTables}
use Rattle.clog_due.proofs.table_log.grown_tables.Given as goal

-- those below a number have grown, and the others are left
abbrev pub invariant-loop-table : goal.invariant-loop-table
invariant-loop-table l = record {
  next : ℕ;
  done : AreTables 0 next l.notes l.files l.grown.items;
  left : AreTables next most_tables (take l.first_note l.notes) (take l.first_file l.files)
      l.table-iterator.rest.items;
  count : l.table-iterator.rest.len ≡ length l.table-iterator.rest.items;
}
