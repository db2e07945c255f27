use Rattle.std.proofs.Common.{sym, ap, length, arith}
use Rattle.clog_cells.proofs.Merging.{none_yet}
use Rattle.clog_folder.proofs.TablesRead.{part_more}
use Rattle.replay_merge.proofs.Replayed.{cells_more}
use Rattle.replay_merge.proofs.restoring.add_tables.Goals as goal

pub loop-held-init : goal.loop-held-init
loop-held-init c =
    let gives = c.into_iter-held-iterator.ensures.into_iter_gives in
    record {
      merged = none_yet c.args.cells.now c.requires;
      parts = sym gives.0;
      count = let items = ap length gives.0 in omega (arith, items, gives.1, c.args.tables.ok);
    }

pub loop-held-preserved : goal.loop-held-preserved
loop-held-preserved c =
    let l = c.loop-held in
    let steps = c.in-Some.ensures.steps in
    record {
      merged = cells_more c.args.cells.now l.cells c.merge.new.self l.yielded c.in-Some.held
          l.invariant.merged c.in_ok-merge.ensures.merged;
      parts = part_more c.args.tables.items l.yielded l.held-iterator.rest.items
          c.next.new.self.rest.items c.in-Some.held l.invariant.parts steps.0;
      count = let short = ap length steps.0 in omega (arith, short, steps.1, l.invariant.count);
    }
