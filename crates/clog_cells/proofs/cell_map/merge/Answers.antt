use Rattle.std.proofs.Common.{sym, ◌≡◌}
use Rattle.clog_cells.proofs.Merging.{none_yet, one_more, part_more}
use Rattle.clog_cells.proofs.cell_map.merge.Goals as goal

pub loop-key-init : goal.loop-key-init
loop-key-init c =
    let all : c.into_iter-key-iterator.result ≡ c.args.others.entries =
    c.into_iter-key-iterator.ensures.into_iter_gives.0 in
    record {
      can_next = tt;
      is_finite = tt;
      map = c.requires;
      merged = none_yet c.args.cells.now.entries c.requires.ordered;
      parts = sym all;
    }

pub loop-key-preserved : goal.loop-key-preserved
loop-key-preserved c = record {
  can_next = tt;
  is_finite = tt;
  map = c.put.ensures.map;
  merged = one_more c.args.cells.now.entries c.loop-key.yielded c.loop-key.cells.entries
      c.put.new.cells.entries
      (c.in-Some.key, c.in-Some.cell) c.loop-key.invariant.merged c.in-Ok.ensures.merged;
  parts = part_more c.args.others.entries c.loop-key.yielded c.loop-key.key-iterator c.next.new.self
      (c.in-Some.key, c.in-Some.cell) c.loop-key.invariant.parts c.in-Some.ensures.steps;
}
