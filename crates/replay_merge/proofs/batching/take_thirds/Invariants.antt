use Rattle.std.proofs.Common.{length, ◌-◌}
use Rattle.replay_merge.specs.Entries.{item_of}
use Rattle.replay_merge.proofs.Rounds.{HasTaken}
use Rattle.replay_merge.proofs.batching.take_thirds.Given as goal

-- what is left to look at
abbrev pub decreases-loop-at : goal.decreases-loop-at
decreases-loop-at g l = length l.wholes - l.at

-- so much of the round was taken
abbrev pub invariant-loop-at : goal.invariant-loop-at
invariant-loop-at g l =
    HasTaken l.piping.tables.now (item_of l.batch.id) l.wholes l.first l.at l.fn.state l.state
