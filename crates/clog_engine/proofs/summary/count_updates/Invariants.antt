use Rattle.std.proofs.Common.{◌≡◌, ◌≤◌, length, take}
use Rattle.clog_engine.specs.Drill.{updates_of}
use Rattle.clog_engine.proofs.summary.count_updates.Given as goal

-- the lines that were counted
abbrev pub invariant-loop-line : goal.invariant-loop-line
invariant-loop-line l =
    (l.count ≡ updates_of (take l.line-index l.lines)) × (l.line-index ≤ length l.lines)
