use Rattle.std.proofs.Common.{[], refl, ap, ◌∙◌}
use Rattle.op_core.specs.declared.count.Order.TheVariants.{Write}
use Rattle.path_core.specs.declared.event.Event.TheVariants.{Look}
use Rattle.path_core.specs.declared.event.Place.TheVariants.{Oldest}
use Rattle.path_core.specs.Parts.{seat_table}
use Rattle.path_rule.specs.declared.view.View.{View}
use Rattle.path_rule.proofs.seats.RoundsGo.{none_yet, one}
use Rattle.path_flush.proofs.FilingTurns.{barred_same}
use Rattle.path_flush.proofs.FlushTaking.{holds_passed}
use Rattle.path_flush.proofs.SwitchGoes.{quiet_round, stage_same, then_quiet}
use Rattle.path_flush.proofs.flush_passing.await_barrier.Goals as goal

pub loop-init : goal.loop-init
loop-init g c = let m = c.args.member in let v = m.seat.me.0 in record {
  next = tt;
  finite = tt;
  stays = ((c.requires.table.0, c.requires.table.1), refl);
  steps = quiet_round m.number [] v v (none_yet m.number v v refl);
  holds = c.requires.holds;
  table = refl;
  reading = refl;
}

pub look_passed-requires : goal.look_passed-requires
look_passed-requires g c = c.loop.invariant.stays.0

pub returns-then-look_passed-group-clause-same : goal.returns-then-look_passed-group-clause-same
returns-then-look_passed-group-clause-same g c = let I = c.loop.invariant in
    let L = c.look_passed.ensures in (
      (L.same.0 ∙ I.stays.0.0, ap (λ (u : View). u.size) L.step.view ∙ I.stays.0.1),
      L.same.1 ∙ I.stays.1,
    )

pub returns-then-look_passed-group-clause-steps : goal.returns-then-look_passed-group-clause-steps
returns-then-look_passed-group-clause-steps g c = let I = c.loop.invariant in
    let L = c.look_passed in let w = c.args.member.number in let z = c.loop.member.number in
    let v = c.args.member.seat.me.0 in let u = c.loop.member.seat.me.0 in
    let x = L.new.member.seat.me.0 in
    then_quiet w z v u x I.stays.1 I.steps
    (quiet_round z [] u x (one z (Look z (Oldest Write)) L.result u x refl L.ensures.step))

pub returns-then-look_passed-group-clause-holds : goal.returns-then-look_passed-group-clause-holds
returns-then-look_passed-group-clause-holds g c = let L = c.look_passed in
    let m = c.loop.member in
    holds_passed m.seat.me L.new.member.seat.me m.number c.args.table.0 L.result L.ensures.step
    L.ensures.same.2 c.loop.invariant.holds

pub returns-then-look_passed-group-clause-table : goal.returns-then-look_passed-group-clause-table
returns-then-look_passed-group-clause-table g c = let t = c.args.table.0 in
    ap (λ (u : View). seat_table u.part t) c.look_passed.ensures.step.view
    ∙ c.loop.invariant.table

pub returns-then-look_passed-group-clause-reading :
    goal.returns-then-look_passed-group-clause-reading
returns-then-look_passed-group-clause-reading g c =
    ap (λ (u : View). u.hands.reading) c.look_passed.ensures.step.view ∙ c.loop.invariant.reading

pub returns-then-look_passed-group-clause-past : goal.returns-then-look_passed-group-clause-past
returns-then-look_passed-group-clause-past g c =
    (c.look_passed.result, c.look_passed.ensures.found, c.if-look_passed-group.true)

pub advance_apart-next-requires-clause-table : goal.advance_apart-next-requires-clause-table
advance_apart-next-requires-clause-table g c = let I = c.loop.invariant in
    let L = c.look_passed.ensures in
    (L.same.0 ∙ I.stays.0.0, ap (λ (u : View). u.size) L.step.view ∙ I.stays.0.1)

pub advance_apart-next-requires-clause-holds : goal.advance_apart-next-requires-clause-holds
advance_apart-next-requires-clause-holds g c = let L = c.look_passed in let m = c.loop.member in
    holds_passed m.seat.me L.new.member.seat.me m.number c.args.table.0 L.result L.ensures.step
    L.ensures.same.2 c.loop.invariant.holds

pub advance_apart-next-requires-clause-barred : goal.advance_apart-next-requires-clause-barred
advance_apart-next-requires-clause-barred g c = let t = c.args.table.0 in let L = c.look_passed in
    let p = c.args.member.seat.me.0.part in let q = L.new.member.seat.me.0.part in
    barred_same t p q (stage_same t p q
    (ap (λ (u : View). seat_table u.part t) L.ensures.step.view ∙ c.loop.invariant.table))
    c.requires.barred

pub loop-preserved : goal.loop-preserved
loop-preserved g c = let I = c.loop.invariant in let L = c.look_passed in
    let A = c.advance_apart-next in let t = c.args.table.0 in
    let w = c.args.member.number in let z = c.loop.member.number in
    let y = L.new.member.number in let v = c.args.member.seat.me.0 in
    let u = c.loop.member.seat.me.0 in let x = L.new.member.seat.me.0 in
    let after = A.result.0.seat.me.0 in let second = L.ensures.same.1 ∙ I.stays.1 in record {
      next = tt;
      finite = tt;
      stays = (A.ensures.same.0, A.ensures.same.1 ∙ second);
      steps = then_quiet w y v x after second (then_quiet w z v u x I.stays.1 I.steps
          (quiet_round z [] u x (one z (Look z (Oldest Write)) L.result u x refl L.ensures.step)))
          A.ensures.steps;
      holds = A.ensures.holds;
      table = A.ensures.table ∙ (ap (λ (s : View). seat_table s.part t) L.ensures.step.view
          ∙ I.table);
      reading = A.ensures.reading ∙ (ap (λ (s : View). s.hands.reading) L.ensures.step.view
          ∙ I.reading);
    }
