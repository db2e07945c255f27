use Rattle.std.proofs.Common.{arith, ap}
use Rattle.replay_queue.proofs.Steps.{takes}
use Rattle.replay_queue.proofs.working.work.Goals as goal

pub try_pop_as-requires-clause-rule : goal.try_pop_as-requires-clause-rule
try_pop_as-requires-clause-rule g c =
    let p = ap (λ v. v.parts) c.loop.invariant.view_is in takes _ _ (omega (arith, p))
