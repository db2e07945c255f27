use Rattle.std.proofs.Common.{length, ◌-◌}
use Rattle.clog_scan.proofs.Reached.{Reached}
use Rattle.clog_scan.proofs.reading.scan_sections.Given as goal

-- a way leads to where the cursor is, and its entries are those that were found
abbrev pub invariant-loop-next : goal.invariant-loop-next
invariant-loop-next l = Reached l.bytes l.id l.at l.until l.entries.items

abbrev pub decreases-loop-next : goal.decreases-loop-next
decreases-loop-next l = length l.bytes - l.at
