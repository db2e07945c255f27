use Rattle.std.proofs.Common.{◌≢◌, ◌⊎◌, ◌≤◌, ◌^◌, ◌∙◌, arith}
use mathlib.Core.Logic.{inl, inr}
use Rattle.op_core.specs.CountWords.{number_in}
use Rattle.op_core.specs.declared.count.Order.TheVariants.{Append}
use Rattle.path_rule.proofs.seats.Refusals.{refused, refused_at_once}
use Rattle.write_path.proofs.seats.WritePath.try_append.Goals as goal
use Rattle.write_path.proofs.seats.WritePath.try_append.Goals.{
  then-looked-ge-EXPIRED-via-then-looked-ge-EXPIRED,
}
use Rattle.write_path.proofs.seats.WritePath.try_append.Goals.{
  then-looked-ge-EXPIRED-via-else-looked-ge-EXPIRED+then-looked-group,
}

pub returns-then-looked-ge-EXPIRED-clause-step : goal.returns-then-looked-ge-EXPIRED-clause-step
returns-then-looked-ge-EXPIRED-clause-step g c = let s = c.args.seat.member in
    let a = c.look_append-group in let b = c.look_appenders-looked in
    let why : (2 ^ 63 ≤ b.result) ⊎ (number_in b.result ≢ a.result) =
    elim c.then-looked-ge-EXPIRED.branch [
      | then-looked-ge-EXPIRED-via-then-looked-ge-EXPIRED w ↦
          inl (let is = w.if-looked-ge-EXPIRED in omega arith)
      | then-looked-ge-EXPIRED-via-else-looked-ge-EXPIRED+then-looked-group w ↦
          inr (λ e. let low = w.if-looked-ge-EXPIRED in let is = w.if-looked-group in
          omega (arith, e))
    ] in
    let rest = refused_at_once s.seat.me.0 a.new.member.seat.me.0 b.new.member.seat.me.0
    s.number a.new.member.number Append a.result b.result a.ensures.same.1
    a.ensures.step.view b.ensures.step.view why in record {
      refused = rest.0;
      acts_stay = rest.1;
      group = rest.2.0;
      found_now = rest.2.1;
    }

pub returns-else-found-looked-clause-step : goal.returns-else-found-looked-clause-step
returns-else-found-looked-clause-step g c = let s = c.args.seat.member in
    let a = c.look_append-group in let b = c.look_appenders-looked in let r = c.join-found in
    let d = r.ensures.miss c.if-found-looked.false in
    let rest = refused s.seat.me.0 a.new.member.seat.me.0 b.new.member.seat.me.0
    r.new.member.seat.me.0 s.number a.new.member.number b.new.member.number Append a.result
    b.result r.result a.ensures.same.1 (b.ensures.same.1 ∙ a.ensures.same.1)
    a.ensures.step.view b.ensures.step.view d.0.view c.if-found-looked.false in record {
      refused = rest.0;
      acts_stay = rest.1;
      group = rest.2.0;
      found_now = rest.2.1;
    }
