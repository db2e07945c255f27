use Rattle.std.proofs.Common.{sym, ◌∙◌}
use Rattle.clog_due.proofs.Due.{in_set}
use Rattle.clog_due.proofs.droppable.has.Goals as goal

pub returns : goal.returns
returns c =
    let is = in_set c.args.set.now c.args.number in
    (λ found. is.0 (sym c.contains.ensures ∙ found), λ there. c.contains.ensures ∙ is.1 there)
