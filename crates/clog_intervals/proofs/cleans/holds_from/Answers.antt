use Rattle.std.proofs.Common.{sym, ◌∙◌}
use Rattle.clog_base.proofs.PositionOrder.{not_below-up_to, up_to-not_below}
use Rattle.clog_intervals.proofs.Unions.{covered_by_one, one_covers}
use Rattle.clog_intervals.proofs.cleans.holds_from.Goals as goal

pub returns-in-Some : goal.returns-in-Some
returns-in-Some c = (
  λ yes. covered_by_one _ _ _ _ c.requires.ordered c.in-Some.ensures
      (not_below-up_to _ _ (sym c.reaches.ensures ∙ yes)),
  λ covered. c.reaches.ensures
      ∙ up_to-not_below _ _ (one_covers _ _ _ _ c.requires.ordered c.in-Some.ensures covered),
)
