use Rattle.std.proofs.Common.{map, take}
use Rattle.clog_cells.specs.Batches.{Adds}
use Rattle.clog_mutation.specs.Payload.{pair_of}
use Rattle.clog_engine.proofs.copies.put_copies.Given as goal

-- copies of the updates that were passed are put
abbrev pub invariant-loop-update : goal.invariant-loop-update
invariant-loop-update l =
    Adds (map (pair_of l.key) (take l.update-index l.updates)) l.fn.cells l.cells
