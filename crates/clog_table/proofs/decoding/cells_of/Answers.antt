use Rattle.std.proofs.Common.{[], sym, subst, ap, ◌∙◌, length, ◌+◌, ◌<◌, arith}
use Rattle.std.proofs.Common.{length-drop}
use Rattle.clog_table.specs.Format.{head_size, behind_head}
use Rattle.clog_table.specs.Cells.{HasCells}
use Rattle.clog_table.proofs.Keys.{Pairs}
use Rattle.clog_table.proofs.Front.{no_cells, one_more, one_more-count, rest_within, refused_here}
use Rattle.clog_table.proofs.decoding.cells_of.Goals as goal

pub loop-init : goal.loop-init
loop-init c = record {
  front = subst (λ (l : Pairs). HasCells c.args.head.table c.args.head.count
      (behind_head c.args.bytes.now) l c.split_at.result.1.now)
      (sym c.new-cells.ensures)
      (subst (HasCells c.args.head.table c.args.head.count (behind_head c.args.bytes.now) [])
      (sym c.split_at.ensures.back)
      (no_cells c.args.head.table c.args.head.count (behind_head c.args.bytes.now)));
  count = ap (λ (l : Pairs). length l) c.new-cells.ensures;
}

pub overflow_sub-at : goal.overflow_sub-at
overflow_sub-at c =
    omega (
      arith,
      rest_within c.args.head.table c.args.head.count (behind_head c.args.bytes.now)
          c.loop.cells c.loop.rest.now c.loop.invariant.front,
      length-drop head_size c.args.bytes.now,
    )

pub returns-in-Err : goal.returns-in-Err
returns-in-Err c =
    let wanted : length c.loop.cells < c.args.head.count = omega (arith, c.loop.invariant.count) in
    refused_here c.args.bytes.now c.args.head.table c.args.head.count
    (behind_head c.args.bytes.now) c.loop.cells c.loop.rest.now c.in-Err.fault
    c.loop.invariant.front wanted c.in-Err.ensures

pub loop-preserved : goal.loop-preserved
loop-preserved c =
    let wanted : length c.loop.cells < c.args.head.count = omega (arith, c.loop.invariant.count) in
    record {
      front = one_more c.args.head.table c.args.head.count (behind_head c.args.bytes.now)
          c.loop.cells _ c.loop.rest.now
          c.in-Ok.behind.now
          c.loop.invariant.front wanted c.in-Ok.ensures;
      count = one_more-count c.args.head.table c.loop.cells _ c.loop.rest.now c.in-Ok.behind.now
          c.in-Ok.ensures ∙ ap (λ n. n + 1) c.loop.invariant.count;
    }

pub returns : goal.returns
returns c = (
  c.loop.invariant.front,
  omega
      (arith, c.loop.invariant.front.few, c.loop.invariant.count),
)
