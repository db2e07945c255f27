use Rattle.clog_due.specs.Dropping.{IsClosedAndGoes}
use Rattle.clog_due.proofs.Picking.{IsPicking}
use Rattle.clog_due.proofs.droppable.all_due.Given as goal

-- of the segments seen those are listed that are closed and may go
abbrev pub invariant-loop-ordinal : goal.invariant-loop-ordinal
invariant-loop-ordinal l = IsPicking (IsClosedAndGoes l.tables l.kept.keys l.closed) l.held.keys
    l.ordinal-iterator l.due.items
