use Rattle.std.proofs.Common.{◌≡◌, ◌++◌, length, map}
use Rattle.clog_shares.specs.declared.preparing.LineWrite.TheVariants.{Waiting}
use Rattle.clog_shares.proofs.preparing.places_of.Given as goal

abbrev pub invariant-loop-mutation : goal.invariant-loop-mutation
invariant-loop-mutation l = record {
  waiting : l.places.items ++ map Waiting l.mutation-iterator.rest.items
      ≡ map Waiting l.fn.mutations.items;
  count : l.mutation-iterator.rest.len ≡ length l.mutation-iterator.rest.items;
}
