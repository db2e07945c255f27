use Rattle.std.proofs.Common.{ℕ, sym, subst, ◌*◌, List, ◌≡◌, suc, ◌+◌, [], ◌∷◌, refl, ap, ◌∙◌}
use Rattle.std.proofs.Common.{arith, None}
use Rattle.op_core.specs.declared.count.Order.TheVariants.{Append}
use Rattle.path_core.specs.declared.event.Event.TheVariants.{OpenGroup, MoveCurrent, Expire}
use Rattle.path_rule.specs.declared.view.OwnStep.{OwnStep}
use Rattle.path_rule.specs.declared.view.View.{View}
use Rattle.path_rule.specs.HandsAfter.{issued_hands}
use Rattle.path_rule.specs.Turns.{MarkerWaits}
use Rattle.path_rule.proofs.seats.RoundsGo.{issued_by, one, one_as, next}
use Rattle.path_rounds.proofs.BarrierIssues.{issues}
use Rattle.path_rounds.proofs.waiting.marker_barrier.Goals as goal

pub returns-clause-passed : goal.returns-clause-passed
returns-clause-passed g c =
    let past = c.advance_to.ensures.past in
    let high = past.2 in (
      (past.0, past.1, omega arith),
      c.advance_to.ensures.hands ∙ (c.expire_append.ensures.hands
          ∙ (c.move_append.ensures.hands ∙ ap (issued_hands c.args.current)
          (c.open_append.ensures.hands ∙ c.make_room-member.ensures.hands))),
    )

pub returns-clause-steps : goal.returns-clause-steps
returns-clause-steps g c =
    let w = c.args.holder.member.number in let cur = c.args.current in
    let O = c.open_append.ensures in let M = c.move_append.ensures in
    let E = c.expire_append in let A = c.advance_to.ensures in
    let B = c.make_room-member.ensures in let b = B.same.1 in let s = O.same.1 ∙ b in
    let m = M.same.1 ∙ s in let e = E.ensures.same.1 ∙ m in
    next w _ [] [] _ _ _ e (next w _ [] [] _ _ _ m (next w _ [] [] _ _ _ s
    (next w _ [] [] _ _ _ b B.steps
    (one _ (OpenGroup _ Append (cur + 1)) (65536 * (cur + 1)) _ _ refl O.step))
    (one_as _ (MoveCurrent _ Append (cur + 1)) cur _ _ _ refl M.step refl))
    (one _ (Expire _ Append cur) E.result _ _ refl E.ensures.step)) A.steps

pub returns-clause-issues : goal.returns-clause-issues
returns-clause-issues g c =
    let w = c.args.holder.member.number in let cur = c.args.current in let O = c.open_append in
    let M = c.move_append in let E = c.expire_append in
    let B = c.make_room-member in let s = O.ensures.same.1 ∙ B.ensures.same.1 in
    let m = M.ensures.same.1 ∙ s in let more : cur + 1 ≡ suc cur = omega arith in
    issues Append w cur
    (record {
      event = MoveCurrent O.new.member.number Append (cur + 1);
      found = cur;
      filed = None;
    })
    (record { event = Expire M.new.member.number Append cur; found = E.result; filed = None })
    (record {
      event = OpenGroup B.result.member.number Append (cur + 1);
      found = 65536 * (cur + 1);
      filed = None;
    } ∷ B.ensures.steps.steps)
    c.advance_to.ensures.steps.steps (λ i. MoveCurrent (s i) Append (more i))
    (λ i. Expire (m i) Append cur)
    _ O.new.member.seat.me.0 M.new.member.seat.me.0 E.new.member.seat.me.0 _
    (ap (λ (v : View). v.trail) O.ensures.step.view
    ∙ ap (λ (l : List OwnStep). record {
      event = OpenGroup B.result.member.number Append (cur + 1);
      found = 65536 * (cur + 1);
      filed = None;
    } ∷ l) B.ensures.steps.trail)
    (ap (λ (v : View). v.trail) M.ensures.step.view)
    (ap (λ (v : View). v.trail) E.ensures.step.view)
    c.advance_to.ensures.steps.trail

pub open_append-requires-clause-marker : goal.open_append-requires-clause-marker
open_append-requires-clause-marker g c = let M = c.requires.marker in let B = c.make_room-member
    in (
      M.0,
      subst (λ (n : ℕ). MarkerWaits n B.result.member.seat.me.0.part M.0)
          (sym B.ensures.same.1) (B.ensures.marker ∙ M.1),
    )

pub move_append-requires-clause-marker : goal.move_append-requires-clause-marker
move_append-requires-clause-marker g c = let M = c.requires.marker in let B = c.make_room-member in
    let O = c.open_append in (
      M.0,
      subst (λ (n : ℕ). MarkerWaits n O.new.member.seat.me.0.part M.0)
          (sym (O.ensures.same.1 ∙ B.ensures.same.1)) (O.ensures.marker ∙ (B.ensures.marker ∙ M.1)),
    )

pub open_append-requires-clause-turn : goal.open_append-requires-clause-turn
open_append-requires-clause-turn g c = let B = c.make_room-member in
    let few = issued_by _ [] _ _ B.ensures.steps in let low = c.requires.spends in
    (B.result.holds, B.ensures.saw, omega arith, omega (arith, few, low))
