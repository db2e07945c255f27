use Rattle.std.proofs.Common.{take}
use Rattle.path_machine.specs.Spans.{IsSpan}
use Rattle.path_machine.proofs.table_files.span_of.Given as goal

abbrev pub invariant-loop-note : goal.invariant-loop-note
invariant-loop-note l = IsSpan l.segment l.table (take l.note-index l.notes) l.found
