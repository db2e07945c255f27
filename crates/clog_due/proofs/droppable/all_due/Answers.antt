use Rattle.clog_due.specs.Dropping.{IsClosedAndGoes}
use Rattle.clog_due.proofs.Picking.{all_picked, picks_more}
use Rattle.clog_due.proofs.droppable.all_due.Goals as goal

pub loop-ordinal-preserved : goal.loop-ordinal-preserved
loop-ordinal-preserved c =
    picks_more (IsClosedAndGoes c.args.tables.now c.args.kept.now.keys c.args.closed)
    c.args.held.now.keys
    c.loop-ordinal.ordinal-iterator c.next.new.self c.in-Some.ordinal.now c.loop-ordinal.due.items
    c.list_due.new.due.items c.loop-ordinal.invariant c.in-Some.ensures.steps
    c.in_ok-list_due.ensures

pub returns : goal.returns
returns c =
    all_picked (IsClosedAndGoes c.args.tables.now c.args.kept.now.keys c.args.closed)
    c.args.held.now.keys
    c.loop-ordinal.ordinal-iterator c.loop-ordinal.due.items c.loop-ordinal.invariant
    c.in-None.ensures.steps.0
