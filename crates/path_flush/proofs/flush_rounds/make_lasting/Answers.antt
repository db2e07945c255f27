use Rattle.std.proofs.Common.{refl, ◌∙◌, subst, arith}
use Rattle.path_flush.specs.declared.flush_rounds.Round.{Round}
use Rattle.path_flush.specs.FlushFilings.{MakesRound}
use Rattle.path_flush.proofs.FilingGoes.{none_made, then_filing}
use Rattle.path_flush.proofs.FilingRounds.{lasts_below, round_behind}
use Rattle.path_flush.proofs.FilingTurns.{barred_same}
use Rattle.path_flush.proofs.FlushGoes.{issued_by}
use Rattle.path_flush.proofs.flush_rounds.make_lasting.Goals as goal

pub loop-init : goal.loop-init
loop-init g c = let m = c.args.member in record {
  next = tt;
  finite = tt;
  stays = ((c.requires.table.0, c.requires.table.1), refl);
  steps = none_made m.number c.args.table.0 m.seat.me.0 m.seat.me.0 refl;
  holds = c.requires.holds;
  tables = refl;
  reading = refl;
}

pub loop-preserved : goal.loop-preserved
loop-preserved g c = let I = c.loop.invariant in let N = c.sync_beside-next in
    let w = c.args.member.number in let z = c.loop.member.number in let t = c.args.table.0 in
    let u = c.loop.member.seat.me.0 in let after = N.result.0.seat.me.0 in
    let R = subst (λ (r : Round). MakesRound z t u r after) c.in-Waits.is N.ensures.made in record {
      next = tt;
      finite = tt;
      stays = (N.ensures.same.0, N.ensures.same.1 ∙ I.stays.1);
      steps = then_filing w z t c.args.member.seat.me.0 u after I.stays.1 I.steps R;
      holds = N.ensures.holds;
      tables = N.ensures.tables ∙ I.tables;
      reading = N.ensures.reading ∙ I.reading;
    }

pub sync_beside-next-requires-clause-barred : goal.sync_beside-next-requires-clause-barred
sync_beside-next-requires-clause-barred g c = let I = c.loop.invariant in
    barred_same c.args.table.0 c.args.member.seat.me.0.part c.loop.member.seat.me.0.part
    I.steps.stage c.requires.barred

pub sync_beside-next-requires-clause-spends : goal.sync_beside-next-requires-clause-spends
sync_beside-next-requires-clause-spends g c = let I = c.loop.invariant in
    let few = issued_by c.args.member.number _ _ I.steps.made.made in
    let low = c.requires.spends in omega (arith, few, low)

pub returns-in-Lasts-clause-lasts : goal.returns-in-Lasts-clause-lasts
returns-in-Lasts-clause-lasts g c = let I = c.loop.invariant in let N = c.sync_beside-next in
    let w = c.args.member.number in let z = c.loop.member.number in let t = c.args.table.0 in
    let v = c.args.member.seat.me.0 in
    let u = c.loop.member.seat.me.0 in let after = N.result.0.seat.me.0 in
    let R = round_behind w z t v u after N.result.1 I.stays.1 I.steps N.ensures.made in
    let L = subst (λ (r : Round). MakesRound w t v r after) c.in-Lasts.is R in
    let F = c.requires.found in (
      L.0,
      lasts_below v.size.capacity c.args.bound.0 F.0 after.trail F.2
          (L.1 F.0 F.1),
    )

pub returns-in-Fails-clause-lasts : goal.returns-in-Fails-clause-lasts
returns-in-Fails-clause-lasts g c = let I = c.loop.invariant in let N = c.sync_beside-next in
    let w = c.args.member.number in let z = c.loop.member.number in let t = c.args.table.0 in
    let v = c.args.member.seat.me.0 in
    let u = c.loop.member.seat.me.0 in let after = N.result.0.seat.me.0 in
    subst (λ (r : Round). MakesRound w t v r after) c.in-Fails.is
    (round_behind w z t v u after N.result.1 I.stays.1 I.steps N.ensures.made)
