use Rattle.std.proofs.Common.{sym, subst, ◌≢◌, ◌⊎◌, ◌≤◌, ◌^◌, ◌∙◌, arith}
use mathlib.Core.Logic.{inl, inr}
use Rattle.op_core.specs.CountWords.{number_in}
use Rattle.op_core.specs.declared.count.Order.TheVariants.{Write}
use Rattle.path_rule.specs.declared.view.View.{View}
use Rattle.path_rule.specs.Issued.{issued_in, opened_in}
use Rattle.path_rule.proofs.seats.Refusals.{refused, refused_at_once}
use Rattle.path_table.proofs.table.PathTable.try_start.Goals as goal
use Rattle.path_table.proofs.table.PathTable.try_start.Goals.{
  then-looked-ge-EXPIRED-via-then-looked-ge-EXPIRED,
}
use Rattle.path_table.proofs.table.PathTable.try_start.Goals.{
  then-looked-ge-EXPIRED-via-else-looked-ge-EXPIRED+then-looked-group,
}

pub returns-else-found-looked : goal.returns-else-found-looked
returns-else-found-looked g c = let s = c.args.seat.member in let a = c.look_write-group in
    let b = c.look_writers-looked in let r = c.register-found in
    let d = r.ensures.miss c.if-found-looked.false in
    let rest = refused s.seat.me.0 a.new.member.seat.me.0 b.new.member.seat.me.0
    r.new.member.seat.me.0 s.number a.new.member.number b.new.member.number Write a.result
    b.result r.result a.ensures.same.1 (b.ensures.same.1 ∙ a.ensures.same.1)
    a.ensures.step.view b.ensures.step.view d.view c.if-found-looked.false in (
      r.ensures.same.0 ∙ (b.ensures.same.0 ∙ a.ensures.same.0),
      r.ensures.same.1
          ∙ (b.ensures.same.1 ∙ a.ensures.same.1),
      rest.0,
      rest.1,
      rest.2,
    )

pub returns-then-looked-ge-EXPIRED : goal.returns-then-looked-ge-EXPIRED
returns-then-looked-ge-EXPIRED g c = let s = c.args.seat.member in let a = c.look_write-group in
    let b = c.look_writers-looked in
    let why : (2 ^ 63 ≤ b.result) ⊎ (number_in b.result ≢ a.result) =
    elim c.then-looked-ge-EXPIRED.branch [
      | then-looked-ge-EXPIRED-via-then-looked-ge-EXPIRED w ↦
          inl (let is = w.if-looked-ge-EXPIRED in omega arith)
      | then-looked-ge-EXPIRED-via-else-looked-ge-EXPIRED+then-looked-group w ↦
          inr (λ e. let low = w.if-looked-ge-EXPIRED in let is = w.if-looked-group
          in omega (arith, e))
    ] in
    let rest = refused_at_once s.seat.me.0 a.new.member.seat.me.0 b.new.member.seat.me.0
    s.number a.new.member.number Write a.result b.result a.ensures.same.1
    a.ensures.step.view b.ensures.step.view why in (
      b.ensures.same.0 ∙ a.ensures.same.0,
      b.ensures.same.1 ∙ a.ensures.same.1,
      rest.0,
      rest.1,
      rest.2,
    )

abbrev Paid : View → Type 0
Paid v = opened_in v.trail ≤ issued_in v.trail

pub invariant_of-result-clause-paid : goal.invariant_of-result-clause-paid
invariant_of-result-clause-paid g c = let s = c.args.seat in let a = c.look_write-group in
    let b = c.look_writers-looked in
    subst Paid (sym b.ensures.step.view) (subst Paid (sym a.ensures.step.view) s.paid)

pub invariant_of-result-then-found-looked-clause-paid :
    goal.invariant_of-result-then-found-looked-clause-paid
invariant_of-result-then-found-looked-clause-paid g c = let s = c.args.seat in
    let a = c.look_write-group in let b = c.look_writers-looked in let r = c.register-found in
    let d = r.ensures.hit c.if-found-looked.true in subst Paid (sym d.view)
    (subst Paid (sym b.ensures.step.view) (subst Paid (sym a.ensures.step.view) s.paid))

pub invariant_of-result-else-found-looked-clause-paid :
    goal.invariant_of-result-else-found-looked-clause-paid
invariant_of-result-else-found-looked-clause-paid g c = let s = c.args.seat in
    let a = c.look_write-group in let b = c.look_writers-looked in let r = c.register-found in
    let d = r.ensures.miss c.if-found-looked.false in subst Paid (sym d.view)
    (subst Paid (sym b.ensures.step.view) (subst Paid (sym a.ensures.step.view) s.paid))
