use Rattle.std.proofs.Common.{take}
use Rattle.std.specs.List.{flat_map}
use Rattle.clog_cells.specs.Batches.{WerePut}
use Rattle.clog_mutation.specs.Payload.{cells_of}
use Rattle.clog_engine.proofs.copies.copies_of.Given as goal

-- copies of the mutations that were passed are put
abbrev pub invariant-loop-mutation : goal.invariant-loop-mutation
invariant-loop-mutation l =
    WerePut (flat_map cells_of (take l.mutation-index l.mutations)) l.cells
