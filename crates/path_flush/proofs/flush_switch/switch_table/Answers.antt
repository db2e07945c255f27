use Rattle.std.proofs.Common.{◌<◌, ◌≤◌, ◌++◌, [], inr, refl, sym, ap, ◌∙◌, subst, arith, is_some}
use Rattle.op_core.specs.declared.count.Order.TheVariants.{Write}
use Rattle.path_core.specs.declared.event.Event.TheVariants.{Look}
use Rattle.path_core.specs.declared.event.Place.TheVariants.{Current}
use Rattle.path_core.specs.declared.seat.Switching.TheVariants.{WithBarrier}
use Rattle.path_core.specs.Parts.{seat_table}
use Rattle.path_rule.specs.declared.view.Hands.{Hands}
use Rattle.path_rule.specs.declared.view.View.{View}
use Rattle.path_rule.specs.Issued.{issued_in, most_issued, opened_in}
use Rattle.path_rule.specs.Lasts.{shows_of}
use Rattle.path_rule.proofs.moves.TableTurns.{held_at}
use Rattle.path_rule.proofs.seats.RoundsGo.{one}
use Rattle.path_flush.specs.FlushSteps.{Finalises}
use Rattle.path_flush.proofs.FlushAlone.{only_both, only_none}
use Rattle.path_flush.proofs.FlushBarring.{both_still, both_switched, final_before, final_behind}
use Rattle.path_flush.proofs.FilingTurns.{of_both}
use Rattle.path_flush.proofs.FlushGoes.{issued_by, next, of_round, still_wrote}
use Rattle.path_flush.proofs.FlushPays.{issued_up, opened_round, paid_quiet}
use Rattle.path_flush.proofs.SwitchGoes.{kept_both, oldest_same, quiet_round, stage_same}
use Rattle.path_flush.proofs.SwitchGoes.{then_quiet}
use Rattle.path_flush.proofs.StepsOpen.{none_opened, opens_both}
use Rattle.path_flush.proofs.flush_switch.switch_table.Goals as goal

pub make_final-bound-requires-clause-holder : goal.make_final-bound-requires-clause-holder
make_final-bound-requires-clause-holder g c = let m = c.args.member in
    let S = c.seek_current-current in let d = S.ensures.step in let t = c.args.table.0 in
    let w = m.number in (both_still (shows_of g.K.Keeper.holds) m.seat.me S.new.member.seat.me w t
    (one w (Look w (Current Write)) S.result _ _ refl d)
    (ap (λ (u : View). is_some (seat_table u.part t).flush) d.view ∙ c.requires.holds.holder.held)
    S.ensures.turn.0 S.ensures.hands S.ensures.same.2 c.requires.holds).holder

pub give_sync_beside-member-requires-clause-table :
    goal.give_sync_beside-member-requires-clause-table
give_sync_beside-member-requires-clause-table g c = let F = c.make_final-bound.ensures in
    let S = c.seek_current-current.ensures in let W = c.issue_write-holder.ensures in (
      W.same.0 ∙ (F.same.0 ∙ (S.same.0 ∙ c.requires.table.0)),
      W.same.3 ∙ (F.made.made.size ∙ (S.same.3 ∙ c.requires.table.1)),
    )

pub give_sync_beside-member-requires-clause-holds :
    goal.give_sync_beside-member-requires-clause-holds
give_sync_beside-member-requires-clause-holds g c = let shows = shows_of g.K.Keeper.holds in
    let m = c.args.member in let S = c.seek_current-current in let F = c.make_final-bound in
    let W = c.issue_write-holder in let d = S.ensures.step in let t = c.args.table.0 in
    let k = c.args.newest in let w = m.number in let z = S.new.member.number in
    let first = both_still shows m.seat.me S.new.member.seat.me w t
    (one w (Look w (Current Write)) S.result _ _ refl d)
    (ap (λ (u : View). is_some (seat_table u.part t).flush) d.view ∙ c.requires.holds.holder.held)
    S.ensures.turn.0 S.ensures.hands S.ensures.same.2 c.requires.holds in
    let then = both_switched shows S.new.member.seat.me F.new.member.seat.me z t k F.result.0
    F.ensures.made F.ensures.same.2 first in
    of_both shows t W.result.member.seat.me
    (both_still shows F.new.member.seat.me W.result.member.seat.me F.new.member.number t
    W.ensures.steps (held_at (seat_table W.result.member.seat.me.0.part t).flush
    (WithBarrier k S.result) (W.ensures.issued t k F.ensures.made.stage))
    W.result.holds W.ensures.hands W.ensures.same.2 then)

pub await_barrier-member-requires-clause-barred : goal.await_barrier-member-requires-clause-barred
await_barrier-member-requires-clause-barred g c = let t = c.args.table.0 in
    let k = c.args.newest in let W = c.issue_write-holder in
    let p = W.result.member.seat.me.0.part in
    let G = c.give_sync_beside-member in let q = G.result.seat.me.0.part in inr (
      k,
      c.seek_current-current.result,
      stage_same t p q (G.ensures.tables t)
          ∙ W.ensures.issued t k c.make_final-bound.ensures.made.stage,
    )

pub returns-clause-same : goal.returns-clause-same
returns-clause-same g c = let F = c.make_final-bound.ensures in
    let S = c.seek_current-current.ensures in let W = c.issue_write-holder.ensures in
    let G = c.give_sync_beside-member.ensures in let A = c.await_barrier-member.ensures in
    (A.same.0, A.same.1 ∙ (G.same.1 ∙ (W.same.1 ∙ (F.same.1 ∙ S.same.1))))

pub returns-clause-switched : goal.returns-clause-switched
returns-clause-switched g c = let m = c.args.member in
    let S = c.seek_current-current in let F = c.make_final-bound in
    let W = c.issue_write-holder in let G = c.give_sync_beside-member in
    let A = c.await_barrier-member in let M = F.ensures.made in let t = c.args.table.0 in
    let k = c.args.newest in let w = m.number in let key = F.result.0 in
    let n1 = S.ensures.same.1 in let n2 = F.ensures.same.1 ∙ n1 in
    let n3 = W.ensures.same.1 ∙ n2 in let v = m.seat.me.0 in
    let x = F.new.member.seat.me.0 in let y = W.result.member.seat.me.0 in
    let after = A.result.seat.me.0 in let p = y.part in let q = after.part in
    let same = A.ensures.table ∙ G.ensures.tables t in
    let look = of_round {t = t} w [] v S.new.member.seat.me.0
    (one w (Look w (Current Write)) S.result _ _ refl S.ensures.step) in
    let issue = quiet_round {t = t} F.new.member.number [] x y W.ensures.steps in
    let wait = then_quiet W.result.member.number G.result.number y G.result.seat.me.0 after
    G.ensures.same.1 G.ensures.steps A.ensures.steps in
    let rest = then_quiet F.new.member.number W.result.member.number x y after W.ensures.same.1
    issue wait in let older = M.made.steps ++ look.steps in record {
      made = next w F.new.member.number _ _ _ n2 (next w S.new.member.number _ _ _ n1 look M.made)
          rest.made;
      set = final_behind w t k key rest.made.steps older
          (final_before w t k key M.made.steps look.steps
          (subst (λ z. Finalises z t k key M.made.steps) n1 M.set));
      only = only_both t k rest.made.steps older (only_none t k rest.made.steps rest.none)
          (only_both t k M.made.steps look.steps M.only (only_none t k look.steps (tt, tt)));
      kept = kept_both rest.made.steps older rest.kept
          (kept_both M.made.steps look.steps M.kept (tt, tt));
      opened = let here = M.opened in
          let first = opens_both t M.made.steps look.steps in
          let all = opens_both t rest.made.steps older in
          let none = none_opened t look.steps (tt, tt) in
          let waits = none_opened t rest.made.steps rest.none in
          omega (arith, here, first, all, none, waits);
      wrote = still_wrote F.new.member.number key _ _ rest.made M.wrote;
      reading = A.ensures.reading ∙ (G.ensures.reading
          ∙ ap (λ (h : Hands). h.reading) (W.ensures.hands ∙ (M.hands ∙ S.ensures.hands)));
      drained = record {
        stage = stage_same t p q same ∙ W.ensures.issued t k M.stage;
        past = A.ensures.past;
        oldest = oldest_same t k p q same (W.ensures.oldest t k k M.stage M.oldest);
      };
      paid = let many = opened_round F.new.member.number x y W.ensures.steps in
          let one_more = M.counts in let pays = W.ensures.pays in
          let up = issued_up M.made.steps S.new.member.seat.me.0.trail in
          let is = ap issued_in M.made.trail in
          let first = subst (λ (v : View). opened_in v.trail ≤ issued_in v.trail)
          (sym S.ensures.step.view) c.requires.numbers.0 in
          paid_quiet W.result.member.number y after wait
          (omega (arith, many, one_more, pays, up, is, first));
    }

-- the memtable that was made final waits for the barrier
pub issue_write-holder-requires-clause-waiting :
    goal.issue_write-holder-requires-clause-waiting
issue_write-holder-requires-clause-waiting g c =
    let F = c.make_final-bound in record {
      table = c.args.table.0;
      memtable = c.args.newest;
      waits = F.ensures.made.stage;
    }

pub make_final-bound-requires-clause-paid : goal.make_final-bound-requires-clause-paid
make_final-bound-requires-clause-paid g c =
    subst (λ (v : View). opened_in v.trail ≤ issued_in v.trail)
    (sym c.seek_current-current.ensures.step.view) c.requires.numbers.0

pub issue_write-holder-requires-clause-spends : goal.issue_write-holder-requires-clause-spends
issue_write-holder-requires-clause-spends g c = let S = c.seek_current-current in
    let few = issued_by S.new.member.number _ _ c.make_final-bound.ensures.made.made in
    let low = subst (λ (v : View). issued_in v.trail < most_issued) (sym S.ensures.step.view)
    c.requires.numbers.1 in omega (arith, few, low)
