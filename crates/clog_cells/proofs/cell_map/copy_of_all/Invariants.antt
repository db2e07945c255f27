use Rattle.std.proofs.Common.{◌≡◌, ◌++◌}
use Rattle.clog_cells.specs.Merge.{IsCellMap}
use Rattle.clog_cells.proofs.cell_map.copy_of_all.Given as goal

-- what is left completes the copies
abbrev pub invariant-loop-key : goal.invariant-loop-key
invariant-loop-key l = record {
  whole : l.copies.entries ++ l.key-iterator ≡ l.cells.entries;
  map : IsCellMap l.copies.entries;
}
