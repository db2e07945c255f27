use Rattle.std.proofs.Common.{sym, ◌∙◌}
use Rattle.path_machine.proofs.steps.Asked.{writer_raises}
use Rattle.path_machine.proofs.seat_asks.raises_as_writer.Goals as goal

pub returns-then-claim-to : goal.returns-then-claim-to
returns-then-claim-to c =
    writer_raises c.args.seat.now c.args.table c.args.memtable c.args.to c.in-Some.claim c.eq.result
    c.in-Some.is (sym c.is_some.ensures ∙ c.if-claim-to.true.0) c.if-claim-to.true.1 c.eq.ensures
