use Rattle.std.proofs.Common.{take}
use Rattle.clog_memtable.specs.Filling.{IsFilled}
use Rattle.clog_memtable.proofs.memtable.cells_within.Given as goal

-- what the entries put that were seen
abbrev pub invariant-loop-note : goal.invariant-loop-note
invariant-loop-note l = IsFilled l.interval (take l.note-index l.logged) l.cells
