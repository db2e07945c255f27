use Rattle.std.proofs.Common.{map, take}
use Rattle.clog_mutation.specs.Lent.{update_lent}
use Rattle.replay_merge.specs.Merged.{Takes, keyed}
use Rattle.replay_merge.proofs.taking.take_updates.Given as goal

-- of the updates seen
abbrev pub invariant-loop-update : goal.invariant-loop-update
invariant-loop-update l =
    Takes l.tables (map (keyed l.at l.key) (map update_lent (take l.update-index l.updates)))
    l.fn.merged l.merged
