use Rattle.std.proofs.Common.{drop, subst, sym}
use Rattle.clog_intervals.specs.Union.{Holds, AreApart}
use Rattle.clog_intervals.specs.Joined.{IsRun, BeginAbove}
use Rattle.clog_intervals.proofs.Unions.{
  apart_put,
  put_adds,
  put_keeps,
  run_touched,
  joined_apart,
  joined_adds,
  joined_union,
}
use Rattle.clog_intervals.proofs.cleans.take_in.Goals as goal

pub returns-then-first-last-clause-apart : goal.returns-then-first-last-clause-apart
returns-then-first-last-clause-apart c =
    let old = c.args.intervals.now.items in
    let k = c.touched_by-first.result.0 in
    let run = subst (λ l. IsRun l c.args.new k c.touched_by-first.result.1) c.deref.ensures.value
    c.touched_by-first.ensures in
    let above = subst (λ n. BeginAbove c.args.new.upper (drop n old)) (sym c.if-first-last.true)
    run.above in
    subst AreApart (sym c.in_ok-insert.ensures.items)
    (apart_put old k c.args.new c.requires.apart c.requires.some run.below above)

pub returns-then-first-last-clause-ok : goal.returns-then-first-last-clause-ok
returns-then-first-last-clause-ok c =
    let old = c.args.intervals.now.items in
    let k = c.touched_by-first.result.0 in
    λ p. (
      λ h. put_adds old k c.args.new p (subst (λ l. Holds l p) c.in_ok-insert.ensures.items h),
      λ h. subst (λ l. Holds l p) (sym c.in_ok-insert.ensures.items)
          (put_keeps old k c.args.new p h),
    )

pub returns-clause-apart : goal.returns-clause-apart
returns-clause-apart c =
    let old = c.args.intervals.now.items in
    let first = c.touched_by-first.result.0 in
    let last = c.touched_by-first.result.1 in
    let run = subst (λ l. IsRun l c.args.new first last) c.deref.ensures.value
    c.touched_by-first.ensures in
    let touched = run_touched old first last c.index.result.now c.index-2.result.now c.args.new
    c.requires.apart c.requires.some c.if-first-last.false run c.index.ensures c.index-2.ensures in
    subst AreApart (sym c.replace_run.ensures)
    (joined_apart _ _ _ _ _ _ _ _ c.joined-joined.result touched c.joined-joined.ensures)

pub returns-clause-ok : goal.returns-clause-ok
returns-clause-ok c =
    let old = c.args.intervals.now.items in
    let first = c.touched_by-first.result.0 in
    let last = c.touched_by-first.result.1 in
    let run = subst (λ l. IsRun l c.args.new first last) c.deref.ensures.value
    c.touched_by-first.ensures in
    let touched = run_touched old first last c.index.result.now c.index-2.result.now c.args.new
    c.requires.apart c.requires.some c.if-first-last.false run c.index.ensures c.index-2.ensures in
    λ p. (
      λ h. joined_adds _ _ _ _ _ _ _ _ c.joined-joined.result touched c.joined-joined.ensures p
          (subst (λ l. Holds l p) c.replace_run.ensures h),
      λ h. subst (λ l. Holds l p) (sym c.replace_run.ensures)
          (joined_union _ _ _ _ _ _ _ _ c.joined-joined.result touched c.joined-joined.ensures p h),
    )
