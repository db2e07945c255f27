use Rattle.std.proofs.Common.{sym, subst}
use Rattle.clog_intervals.specs.Hulls.{IsHull}
use Rattle.clog_intervals.proofs.Spans.{widened_spans}
use Rattle.clog_intervals.proofs.hull.Hull.add.Goals as goal

pub returns : goal.returns
returns c = λ positions h. widened_spans c.self.inside.ends c.args.at c.widened.result positions
    c.widened.ensures (subst (λ e. IsHull e positions) (sym c.self.view_is) h)
