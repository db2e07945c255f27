use Rattle.std.proofs.Common.{◌<◌, inr, refl, sym, ap, ◌∙◌, subst, arith}
use Rattle.std.proofs.lemmas.Option.{none-some}
use Rattle.path_core.specs.declared.event.Event.TheVariants.{GiveTurn}
use Rattle.path_core.specs.declared.event.Turn.TheVariants.{Flush}
use Rattle.path_rule.specs.declared.view.PathSize.{PathSize}
use Rattle.path_rule.specs.declared.view.View.{View}
use Rattle.path_flush.proofs.FilingGoes.{quiet_one}
use Rattle.path_flush.proofs.FlushPays.{paid_quiet}
use Rattle.path_flush.proofs.FlushTaking.{rests_given}
use Rattle.path_flush.proofs.SwitchGoes.{stage_same, then_quiet}
use Rattle.path_flush.proofs.flush_passing.leave_passed.Goals as goal

pub await_barrier-member-requires-clause-barred : goal.await_barrier-member-requires-clause-barred
await_barrier-member-requires-clause-barred g c = let B = c.requires.barrier in
    inr (B.0, c.args.group, B.1)

pub give_flush-requires-clause-there : goal.give_flush-requires-clause-there
give_flush-requires-clause-there g c = subst (λ (z : PathSize). c.args.table.0 < z.tables)
    c.requires.table.1 c.requires.holds.holder.there

pub give_flush-requires-clause-through : goal.give_flush-requires-clause-through
give_flush-requires-clause-through g c = let W = c.await_barrier-member in
    let t = c.args.table.0 in let B = c.requires.barrier in
    let unread = W.ensures.reading ∙ c.requires.unread in inr (
      B.0,
      c.args.group,
      stage_same t c.args.member.seat.me.0.part W.result.seat.me.0.part W.ensures.table ∙ B.1,
      W.ensures.past,
      λ q has. absurd (none-some q (sym unread ∙ has)),
    )

pub returns-clause-same : goal.returns-clause-same
returns-clause-same g c = let W = c.await_barrier-member.ensures in
    let G = c.give_flush.ensures in (
      (G.same.0 ∙ W.same.0.0, ap (λ (u : View). u.size) G.step.view ∙ W.same.0.1),
      G.same.1 ∙ W.same.1,
    )

pub returns-clause-steps : goal.returns-clause-steps
returns-clause-steps g c = let W = c.await_barrier-member in let G = c.give_flush in
    let w = c.args.member.number in let z = W.result.number in let d = G.ensures.step in
    let v = c.args.member.seat.me.0 in let u = W.result.seat.me.0 in
    let after = G.new.member.seat.me.0 in
    then_quiet w z v u after W.ensures.same.1 W.ensures.steps
    (quiet_one z (GiveTurn z (Flush c.args.table)) 0 _ u after (refl, refl) tt tt
    (record { view = d.view; was = d.was }))

pub invariant_of-result : goal.invariant_of-result
invariant_of-result g c = let W = c.await_barrier-member in let G = c.give_flush in
    let t = c.args.table in let v = c.args.member.seat.me.0 in let u = W.result.seat.me.0 in
    let after = G.new.member.seat.me.0 in let H = W.ensures.holds in
    let few = c.args.path.now.fits.few_tables in let there = H.holder.there in
    let of = ap (λ z. z.tables) W.ensures.same.0.1 in let z = W.result.number in
    let d = G.ensures.step in
    let R = rests_given u after z t (omega (arith, few, there, of)) H.holder d
    G.ensures.others in record {
      idle = R.idle;
      unclaimed = R.unclaimed;
      free = record {
        sync = ap (λ (x : View). x.part.sync) d.view ∙ H.unsynced;
        flush = R.flush;
      };
      bare = G.ensures.same.2 ∙ H.bare;
      paid = paid_quiet {t = t.0} z u after
          (quiet_one z (GiveTurn z (Flush t)) 0 _ u after (refl, refl) tt tt
          (record { view = d.view; was = d.was }))
          (paid_quiet c.args.member.number v u W.ensures.steps c.requires.paid);
    }
