use Rattle.std.proofs.Common.{map, take}
use Rattle.replay_merge.specs.Entries.{item_of}
use Rattle.replay_merge.proofs.Tops.{Reaches}
use Rattle.replay_merge.proofs.alone.top_of.Given as goal

-- with the entries seen
abbrev pub invariant-loop-whole : goal.invariant-loop-whole
invariant-loop-whole l =
    Reaches (map (item_of l.batch.id) (take l.whole-index l.whole-items)) l.fn.top l.top
