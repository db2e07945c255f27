use Rattle.std.proofs.Common.{refl}
use Rattle.path_tests.proofs.turns.find_sync.Goals as goal

pub give-zero-requires-clause-desk : goal.give-zero-requires-clause-desk
give-zero-requires-clause-desk g c = λ _. c.try_advance-oldest.ensures.desk
    (c.in-Ok.ensures.desk refl)
