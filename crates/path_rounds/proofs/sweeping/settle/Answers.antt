use Rattle.std.proofs.Common.{[], refl, ◌∙◌}
use Rattle.op_core.specs.declared.count.Order.TheVariants.{Append}
use Rattle.path_core.specs.declared.event.Event.TheVariants.{Look}
use Rattle.path_core.specs.declared.event.Place.TheVariants.{Current}
use Rattle.path_rule.proofs.seats.RoundsGo.{one, next}
use Rattle.path_rounds.proofs.sweeping.settle.Goals as goal

pub returns-clause-steps : goal.returns-clause-steps
returns-clause-steps g c =
    let w = c.args.member.number in let S = c.seek_current-current in
    let A = c.advance_to-holder.ensures in
    next w _ [] [] _ _ _ (A.same.1 ∙ S.ensures.same.1)
    (next w _ [] [] _ _ _ S.ensures.same.1
    (one w (Look w (Current Append)) S.result _ _ refl S.ensures.step) A.steps)
    c.gather_all.ensures.steps
