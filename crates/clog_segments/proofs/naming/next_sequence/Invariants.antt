use Rattle.std.proofs.Common.{take}
use Rattle.clog_crash.specs.Folder.{IsBase}
use Rattle.clog_segments.specs.Named.{HasSequence, OneHas}
use Rattle.clog_segments.proofs.naming.next_sequence.Given as goal

-- of those seen
abbrev pub invariant-loop-name : goal.invariant-loop-name
invariant-loop-name l = IsBase (OneHas (HasSequence l.table) (take l.name-index l.names)) 1 l.next
