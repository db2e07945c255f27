use Rattle.std.proofs.Common.{List, map, subst, arith}
use Rattle.std.proofs.lemmas.List.{take_all}
use Rattle.clog_cells.specs.Batches.{Adds}
use Rattle.clog_mutation.specs.declared.mutation.Update.{Update}
use Rattle.clog_mutation.specs.Payload.{pair_of}
use Rattle.clog_cells.proofs.Batched.{adds_none}
use Rattle.clog_engine.proofs.Copied.{update_next}
use Rattle.clog_engine.proofs.copies.put_copies.Goals as goal

pub loop-update-init : goal.loop-update-init
loop-update-init c = adds_none c.args.cells.now

pub loop-update-preserved : goal.loop-update-preserved
loop-update-preserved c =
    let l = c.loop-update in
    update_next c.args.cells.now l.cells c.put_copy.new.cells c.args.key.now c.args.updates.now
    l.update-index c.update-item.result c.loop-update-test.true c.update-item.is l.invariant
    c.in_ok-put_copy.ensures

pub returns : goal.returns
returns c = let l = c.loop-update in let us = c.args.updates.now in
    subst (λ (all : List Update).
    Adds (map (pair_of c.args.key.now) all) c.args.cells.now l.cells)
    (take_all l.update-index us (omega (arith, c.loop-update-test.false))) l.invariant
