use Rattle.std.proofs.Common.{take}
use Rattle.clog_segments.specs.Named.{HasId, IsIdBase, OneHas}
use Rattle.clog_segments.proofs.naming.base_of_names.Given as goal

-- of those seen
abbrev pub invariant-loop-name : goal.invariant-loop-name
invariant-loop-name l = IsIdBase (OneHas HasId (take l.name-index l.names)) l.fn.now l.base
