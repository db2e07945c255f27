use Rattle.std.proofs.Common.{ap, arith}
use Rattle.replay_queue.proofs.Steps.{puts, takes}
use Rattle.replay_queue.proofs.pushing.put.Goals as goal

pub push_as-requires-clause-rule : goal.push_as-requires-clause-rule
push_as-requires-clause-rule g c = (
  puts _ _ _ _ (omega (arith, c.requires.1, c.loop.invariant.parts)),
  λ items views h at. tt,
)

pub try_pop_as-requires-clause-rule : goal.try_pop_as-requires-clause-rule
try_pop_as-requires-clause-rule g c =
    let p = ap (λ v. v.parts) c.in-Err.ensures.rule.1 in
    takes _ _ (omega (arith, p, c.loop.invariant.parts, c.requires.1))
