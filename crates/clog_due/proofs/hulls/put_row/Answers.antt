use Rattle.std.proofs.Common.{◌<◌, List, length, take, drop, suc, sym, ap, subst, ◌∙◌}
use Rattle.std.proofs.lemmas.Bool.{false≢true}
use Rattle.clog_due.specs.declared.hulls.SegmentHull.{SegmentHull}
use Rattle.clog_due.specs.HullRows.{AreBelow, AreFrom, Ascend, BeginsAt, hull_at}
use Rattle.clog_due.proofs.HullRows.{
  put_ascend,
  put_here,
  put_others,
  same_ascend,
  same_others,
  set_is,
}
use Rattle.clog_due.proofs.hulls.put_row.Goals as goal

-- ---- in place of another

pub returns-then-is_at-clause-ascend : goal.returns-then-is_at-clause-ascend
returns-then-is_at-clause-ascend c =
    let old = c.args.rows.now.items in
    let row = c.args.row in
    let k = c.count_before-first.result in
    let below = subst (λ (l : List SegmentHull). AreBelow row.ordinal (take k l))
    c.deref.ensures.value c.count_before-first.ensures.before in
    let from = subst (λ (l : List SegmentHull). AreFrom row.ordinal (drop k l))
    c.deref.ensures.value c.count_before-first.ensures.others in
    let inside = subst (λ (l : List SegmentHull). k < length l) c.deref-2.ensures.value
    (c.is_at.ensures.inside c.if-is_at.true) in
    let begins = subst (λ (l : List SegmentHull). BeginsAt row.ordinal (drop k l))
    c.deref-2.ensures.value (c.is_at.ensures.found.0 c.if-is_at.true) in
    subst Ascend (sym (set_is old k row inside))
    (same_ascend old k row c.requires below from inside begins)

pub returns-then-is_at-clause-here : goal.returns-then-is_at-clause-here
returns-then-is_at-clause-here c =
    let old = c.args.rows.now.items in
    let row = c.args.row in
    let k = c.count_before-first.result in
    let below = subst (λ (l : List SegmentHull). AreBelow row.ordinal (take k l))
    c.deref.ensures.value c.count_before-first.ensures.before in
    let from = subst (λ (l : List SegmentHull). AreFrom row.ordinal (drop k l))
    c.deref.ensures.value c.count_before-first.ensures.others in
    let inside = subst (λ (l : List SegmentHull). k < length l) c.deref-2.ensures.value
    (c.is_at.ensures.inside c.if-is_at.true) in
    ap (λ (l : List SegmentHull). hull_at l row.ordinal) (set_is old k row inside)
    ∙ put_here old k row c.requires below from (drop (suc k) old)

pub returns-then-is_at-clause-others : goal.returns-then-is_at-clause-others
returns-then-is_at-clause-others c o apart =
    let old = c.args.rows.now.items in
    let row = c.args.row in
    let k = c.count_before-first.result in
    let below = subst (λ (l : List SegmentHull). AreBelow row.ordinal (take k l))
    c.deref.ensures.value c.count_before-first.ensures.before in
    let from = subst (λ (l : List SegmentHull). AreFrom row.ordinal (drop k l))
    c.deref.ensures.value c.count_before-first.ensures.others in
    let inside = subst (λ (l : List SegmentHull). k < length l) c.deref-2.ensures.value
    (c.is_at.ensures.inside c.if-is_at.true) in
    let begins = subst (λ (l : List SegmentHull). BeginsAt row.ordinal (drop k l))
    c.deref-2.ensures.value (c.is_at.ensures.found.0 c.if-is_at.true) in
    ap (λ (l : List SegmentHull). hull_at l o) (set_is old k row inside)
    ∙ same_others old k row c.requires below from inside begins o apart

-- ---- among them

pub returns-clause-ascend : goal.returns-clause-ascend
returns-clause-ascend c =
    let old = c.args.rows.now.items in
    let row = c.args.row in
    let k = c.count_before-first.result in
    let below = subst (λ (l : List SegmentHull). AreBelow row.ordinal (take k l))
    c.deref.ensures.value c.count_before-first.ensures.before in
    let from = subst (λ (l : List SegmentHull). AreFrom row.ordinal (drop k l))
    c.deref.ensures.value c.count_before-first.ensures.others in
    let absent : BeginsAt row.ordinal (drop k old) → ⊥ = λ begins. false≢true
    (sym c.if-is_at.false ∙ c.is_at.ensures.found.1
    (subst (λ (l : List SegmentHull). BeginsAt row.ordinal (drop k l))
    (sym c.deref-2.ensures.value) begins)) in
    subst Ascend (sym c.in_ok-insert.ensures.items)
    (put_ascend old k row c.requires below from absent)

pub returns-clause-here : goal.returns-clause-here
returns-clause-here c =
    let old = c.args.rows.now.items in
    let row = c.args.row in
    let k = c.count_before-first.result in
    let below = subst (λ (l : List SegmentHull). AreBelow row.ordinal (take k l))
    c.deref.ensures.value c.count_before-first.ensures.before in
    let from = subst (λ (l : List SegmentHull). AreFrom row.ordinal (drop k l))
    c.deref.ensures.value c.count_before-first.ensures.others in
    ap (λ (l : List SegmentHull). hull_at l row.ordinal) c.in_ok-insert.ensures.items
    ∙ put_here old k row c.requires below from (drop k old)

pub returns-clause-others : goal.returns-clause-others
returns-clause-others c o apart =
    let old = c.args.rows.now.items in
    let row = c.args.row in
    let k = c.count_before-first.result in
    let below = subst (λ (l : List SegmentHull). AreBelow row.ordinal (take k l))
    c.deref.ensures.value c.count_before-first.ensures.before in
    let from = subst (λ (l : List SegmentHull). AreFrom row.ordinal (drop k l))
    c.deref.ensures.value c.count_before-first.ensures.others in
    ap (λ (l : List SegmentHull). hull_at l o) c.in_ok-insert.ensures.items
    ∙ put_others old k row c.requires below from o apart
