use Rattle.std.proofs.Common.{sym, subst}
use Rattle.op_order.specs.Opened.{AreFirst}
use Rattle.op_order.proofs.Begins.{opening_ruled}
use Rattle.op_order.proofs.table.OpOrder.lay.Goals as goal

pub of_words-requires : goal.of_words-requires
of_words-requires g c = opening_ruled g.F.Fact.fits c.args.places c.args.first c.as_slice.result.now
    c.requires.places.0 c.requires.places.1 c.requires.fits
    (subst (AreFirst c.args.places c.args.first) (sym c.as_slice.ensures.value)
    c.in_ok-words.ensures)
