use Rattle.std.proofs.Common.{refl, sym}
use Rattle.path_tests.proofs.barriers.opened.Goals as goal

pub open-requires-clause-keeper : goal.open-requires-clause-keeper
open-requires-clause-keeper c = (
  c.in-Some.sizes,
  c.new-keeper.ensures,
  sym c.from-2.ensures,
  sym c.from-3.ensures,
  refl,
  sym c.from.ensures,
)
