use Rattle.std.proofs.Common.{take}
use Rattle.clog_due.specs.Dropping.{AreHulls}
use Rattle.clog_due.proofs.table_log.growing.add_entries.Given as goal

-- of the entries before this one
abbrev pub invariant-loop-index : goal.invariant-loop-index
invariant-loop-index l = AreHulls l.table.0 (take l.index l.notes) l.hulls
