use Rattle.std.proofs.Common.{take}
use Rattle.clog_due.specs.Dropping.{AreClean}
use Rattle.clog_due.proofs.table_log.growing.add_files.Given as goal

-- of the files before this one
abbrev pub invariant-loop-index : goal.invariant-loop-index
invariant-loop-index l = AreClean l.table.0 (take l.index l.files) l.cleans.intervals
