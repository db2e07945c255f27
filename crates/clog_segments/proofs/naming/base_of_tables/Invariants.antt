use Rattle.std.proofs.Common.{take}
use Rattle.clog_segments.specs.Named.{EndsIn, IsIdBase, OneHas}
use Rattle.clog_segments.proofs.naming.base_of_tables.Given as goal

-- of those seen
abbrev pub invariant-loop-held : goal.invariant-loop-held
invariant-loop-held l = IsIdBase (OneHas EndsIn (take l.held-index l.tables)) l.fn.now l.base
