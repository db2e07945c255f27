use Rattle.std.proofs.Common.{length, ◌+◌, ◌-◌}
use Rattle.clog_scan.proofs.WalkedSo.{WalkedSo}
use Rattle.clog_scan.proofs.walking.walk.Given as goal

-- what was read so far is given
abbrev pub invariant-loop-next : goal.invariant-loop-next
invariant-loop-next l =
    WalkedSo l.len l.id l.window l.from l.fn.until l.at l.until l.wholes.items

abbrev pub decreases-loop-next : goal.decreases-loop-next
decreases-loop-next l = l.from + length l.window - l.at
