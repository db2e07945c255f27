use Rattle.std.proofs.Common.{sym, ap, ◌∙◌}
use Rattle.std.proofs.lemmas.Bool.{false≢true}
use Rattle.clog_due.specs.declared.hulls.SegmentHull.{SegmentHull}
use Rattle.clog_due.proofs.HullRows.{hull_absent, hull_found, no_hull}
use Rattle.clog_due.proofs.hulls.hull_of.Goals as goal

pub returns-then-is_at : goal.returns-then-is_at
returns-then-is_at c =
    let is = sym c.index-rows-first.is in
    ap (λ (r : SegmentHull). r.hull) is
    ∙ hull_found c.args.rows.now c.count_before-first.result c.args.ordinal c.requires
    c.count_before-first.ensures.before c.count_before-first.ensures.others
    c.index-rows-first.result (c.is_at.ensures.inside c.if-is_at.true) is
    (c.is_at.ensures.found.0 c.if-is_at.true)

pub returns : goal.returns
returns c =
    no_hull c.empty.result c.empty.ensures
    ∙ sym (hull_absent c.args.rows.now c.count_before-first.result c.args.ordinal c.requires
    c.count_before-first.ensures.before c.count_before-first.ensures.others
    (λ begins. false≢true (sym c.if-is_at.false ∙ c.is_at.ensures.found.1 begins)))
