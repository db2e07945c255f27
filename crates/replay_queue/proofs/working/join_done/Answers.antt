use Rattle.replay_queue.proofs.Steps.{merges}
use Rattle.replay_queue.proofs.working.join_done.Goals as goal

pub absorb-requires-clause-rule : goal.absorb-requires-clause-rule
absorb-requires-clause-rule g c = merges _ _ _ _
