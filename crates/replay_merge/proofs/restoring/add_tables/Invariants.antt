use Rattle.std.proofs.Common.{◌≡◌, ◌++◌, length, map}
use Rattle.clog_cells.specs.Merge.{IsMerge}
use Rattle.clog_crash.specs.Folder.{cells_of_tables}
use Rattle.clog_folder.specs.Tables.{read_of}
use Rattle.replay_merge.proofs.restoring.add_tables.Given as goal

-- what was taken is merged, and with what is left it is the whole
abbrev pub invariant-loop-held : goal.invariant-loop-held
invariant-loop-held l = record {
  merged : IsMerge (l.fn.cells ++ cells_of_tables (map read_of l.yielded)) l.cells;
  parts : l.fn.tables.items ≡ l.yielded ++ l.held-iterator.rest.items;
  count : l.held-iterator.rest.len ≡ length l.held-iterator.rest.items;
}
