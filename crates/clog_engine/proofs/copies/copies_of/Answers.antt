use Rattle.std.proofs.Common.{List, subst, arith}
use Rattle.std.proofs.lemmas.List.{take_all}
use Rattle.std.specs.List.{flat_map}
use Rattle.clog_cells.specs.Batches.{WerePut}
use Rattle.clog_mutation.specs.declared.mutation.Mutation.{Mutation}
use Rattle.clog_mutation.specs.Payload.{cells_of}
use Rattle.clog_engine.proofs.Copied.{mutation_next}
use Rattle.clog_engine.proofs.copies.copies_of.Goals as goal

pub loop-mutation-preserved : goal.loop-mutation-preserved
loop-mutation-preserved c =
    let l = c.loop-mutation in
    mutation_next l.cells c.put_copies.new.cells c.args.mutations.now l.mutation-index
    c.mutation-item.result c.as_slice.result.now c.loop-mutation-test.true c.mutation-item.is
    l.invariant c.as_slice.ensures c.in_ok-put_copies.ensures

pub returns : goal.returns
returns c = let l = c.loop-mutation in let ms = c.args.mutations.now in
    c.into_map.ensures (flat_map cells_of ms)
    (subst (λ (all : List Mutation). WerePut (flat_map cells_of all) l.cells)
    (take_all l.mutation-index ms (omega (arith, c.loop-mutation-test.false))) l.invariant)
