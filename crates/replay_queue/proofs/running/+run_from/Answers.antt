use Rattle.std.proofs.Common.{arith}
use Rattle.replay_queue.proofs.Steps.{forks}
use Rattle.replay_queue.proofs.running.+run_from.Goals as goal

pub another-theirs-requires-clause-rule : goal.another-theirs-requires-clause-rule
another-theirs-requires-clause-rule g t c =
    forks _ _ (omega (arith, c.requires.queue.1, c.if-left-eq0.false))
