use Rattle.std.proofs.Common.{◌≡◌, ◌++◌}
use Rattle.clog_cells.specs.Merge.{IsMerge, IsCellMap}
use Rattle.clog_cells.proofs.cell_map.merge.Given as goal

-- what was yielded is merged
abbrev pub invariant-loop-key : goal.invariant-loop-key
invariant-loop-key l = record {
  can_next : (goal.iterator-loop-key).can_next l.key-iterator;
  is_finite : (goal.iterator-loop-key).is_finite l.key-iterator;
  map : IsCellMap l.cells.entries;
  merged : IsMerge (l.fn.cells.entries ++ l.yielded) l.cells.entries;
  parts : l.fn.others.entries ≡ l.yielded ++ l.key-iterator;
}
