use Rattle.std.proofs.Common.{◌<◌, ◌+◌, [], ◌∷◌, ◌++◌, refl, sym, ap, subst, ◌∙◌, length, arith}
use Rattle.std.proofs.Common.{length-drop}
use Rattle.clog_table.specs.Format.{head_size, behind_head}
use Rattle.clog_table.specs.Cells.{HasCells}
use Rattle.clog_table.specs.RawFields.{fields_of, pair_of}
use Rattle.clog_table.proofs.Front.{no_cells, one_more, length_push, rest_within, refused_here}
use Rattle.clog_table.proofs.checking.rest_of.Goals as goal

pub loop-init : goal.loop-init
loop-init c = record {
  cells = [];
  front = subst
      (HasCells c.args.head.table c.args.head.count (behind_head c.args.bytes.now) [])
      (sym c.split_at.ensures.back)
      (no_cells c.args.head.table c.args.head.count (behind_head c.args.bytes.now));
  ends = refl;
  count_is = refl;
}

pub overflow_sub-at : goal.overflow_sub-at
overflow_sub-at c =
    omega (
      arith,
      rest_within c.args.head.table c.args.head.count (behind_head c.args.bytes.now)
          c.loop.invariant.cells c.loop.rest.now
          c.loop.invariant.front,
      length-drop head_size c.args.bytes.now,
    )

pub returns-in-Err-clause-exact : goal.returns-in-Err-clause-exact
returns-in-Err-clause-exact c =
    let read = c.loop.invariant in
    let wanted : length read.cells < c.args.head.count = omega (arith, read.count_is) in
    refused_here c.args.bytes.now c.args.head.table c.args.head.count
    (behind_head c.args.bytes.now) read.cells c.loop.rest.now c.in-Err.fault read.front
    wanted (c.in-Err.ensures.exact c.args.head.table read.cells read.front.ordered read.ends)

pub loop-preserved : goal.loop-preserved
loop-preserved c =
    let read = c.loop.invariant in
    let pair = pair_of c.args.head.table (fields_of c.in-Ok.cell) in
    let wanted : length read.cells < c.args.head.count = omega (arith, read.count_is) in
    record {
      cells = read.cells ++ pair ∷ [];
      front = one_more c.args.head.table c.args.head.count (behind_head c.args.bytes.now)
          read.cells (read.cells ++ pair ∷ [])
          c.loop.rest.now c.in-Ok.behind.now read.front wanted
          (c.in-Ok.ensures.exact c.args.head.table read.cells read.front.ordered read.ends);
      ends = (read.cells, refl);
      count_is = length_push read.cells pair ∙ ap (λ n. n + 1) read.count_is;
    }

pub returns-clause-exact : goal.returns-clause-exact
returns-clause-exact c =
    let read = c.loop.invariant in
    (read.cells, read.front, omega (arith, read.front.few, read.count_is))
