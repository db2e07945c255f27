use Rattle.std.proofs.Common.{◌≡◌, ◌++◌, length, map}
use Rattle.clog_cells.specs.Batches.{Adds}
use Rattle.clog_cells.specs.Merge.{part_on}
use Rattle.clog_mutation.specs.Payload.{pair_of}
use Rattle.clog_memtable.proofs.filling.put_updates.Given as goal

-- what was taken is put, and with what is left it is the whole
abbrev pub invariant-loop-update : goal.invariant-loop-update
invariant-loop-update l = record {
  put : Adds (part_on l.table (map (pair_of l.key) l.yielded)) l.fn.cells l.cells;
  parts : l.fn.updates.items ≡ l.yielded ++ l.update-iterator.rest.items;
  count : l.update-iterator.rest.len ≡ length l.update-iterator.rest.items;
}
