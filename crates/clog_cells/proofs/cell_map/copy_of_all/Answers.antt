use Rattle.clog_cells.proofs.InOrder.{next_merged}
use Rattle.clog_cells.proofs.cell_map.copy_of_all.Goals as goal

pub loop-key-preserved : goal.loop-key-preserved
loop-key-preserved c = record {
  whole = next_merged c.loop-key.copies.entries c.loop-key.key-iterator c.next.new.self
      c.args.cells.now.entries c.put.new.cells.entries (c.in-Some.key.now, c.in-Some.cell.now)
      (c.in_ok-key.key, c.in_ok-key.cell) c.loop-key.invariant.whole c.in-Some.ensures.steps
      c.requires.ordered c.in_ok-key.ensures c.in-Ok.ensures.merged;
  map = c.put.ensures.map;
}
