use Rattle.std.proofs.Common.{take}
use Rattle.clog_memtable.specs.Touched.{IsTouchedAbove}
use Rattle.clog_memtable.proofs.memtables.is_touched.Given as goal

-- none that was seen touches it above the key
abbrev pub invariant-loop-note : goal.invariant-loop-note
invariant-loop-note l = IsTouchedAbove (take l.note-index l.notes) l.table l.lower.0 → ⊥
