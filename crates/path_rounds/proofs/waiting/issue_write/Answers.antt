use Rattle.std.proofs.Common.{get_or, ◌*◌, List, ◌≡◌, suc, ◌+◌, [], ◌∷◌, refl, ap, ◌∙◌, arith, None}
use Rattle.op_core.specs.declared.count.Order.TheVariants.{Write}
use Rattle.path_core.specs.declared.event.Event.TheVariants.{OpenGroup, MoveCurrent, Expire}
use Rattle.path_core.specs.declared.seat.SeatTable.{SeatTable}
use Rattle.path_core.specs.Parts.{untouched}
use Rattle.path_rule.specs.declared.view.OwnStep.{OwnStep}
use Rattle.path_rule.specs.declared.view.View.{View}
use Rattle.path_rule.specs.Issued.{issued_in}
use Rattle.path_rule.proofs.log.Issues.{issued_both}
use Rattle.path_rule.proofs.seats.BarredTables.{least_expired, least_moved}
use Rattle.path_rule.proofs.seats.BarredTables.{least_opened, least_quiet}
use Rattle.path_rule.proofs.seats.RoundsGo.{issued_by, one, next}
use Rattle.path_rounds.proofs.BarrierIssues.{issues}
use Rattle.path_rounds.proofs.waiting.issue_write.Goals as goal

pub returns-clause-steps : goal.returns-clause-steps
returns-clause-steps g c =
    let w = c.args.holder.member.number in let cur = c.args.current in
    let O = c.open_write.ensures in let M = c.move_write.ensures in
    let E = c.expire_write in
    let B = c.make_room-member.ensures in let b = B.same.1 in let s = O.same.1 ∙ b in
    let m = M.same.1 ∙ s in
    next w _ [] [] _ _ _ m (next w _ [] [] _ _ _ s (next w _ [] [] _ _ _ b B.steps
    (one _ (OpenGroup _ Write (cur + 1)) (65536 * (cur + 1)) _ _ refl O.step))
    (one _ (MoveCurrent _ Write (cur + 1)) cur _ _ refl M.step))
    (one _ (Expire _ Write cur) E.result _ _ refl E.ensures.step)

pub returns-clause-hands : goal.returns-clause-hands
returns-clause-hands g c = ap (λ (v : View). v.hands) c.expire_write.ensures.step.view
    ∙ (ap (λ (v : View). v.hands) c.move_write.ensures.step.view
    ∙ (ap (λ (v : View). v.hands) c.open_write.ensures.step.view
    ∙ c.make_room-member.ensures.hands))

pub returns-clause-issued : goal.returns-clause-issued
returns-clause-issued g c =
    λ t f waits. c.expire_write.ensures.stages t
    ∙ c.move_write.ensures.issued t f (c.open_write.ensures.stages t
    ∙ (c.make_room-member.ensures.stages t ∙ waits))

pub returns-clause-issues : goal.returns-clause-issues
returns-clause-issues g c =
    let w = c.args.holder.member.number in let cur = c.args.current in let O = c.open_write in
    let M = c.move_write in let E = c.expire_write in
    let B = c.make_room-member in let s = O.ensures.same.1 ∙ B.ensures.same.1 in
    let m = M.ensures.same.1 ∙ s in let more : cur + 1 ≡ suc cur = omega arith in
    issues Write w cur
    (record {
      event = MoveCurrent O.new.member.number Write (cur + 1);
      found = cur;
      filed = None;
    })
    (record { event = Expire M.new.member.number Write cur; found = E.result; filed = None })
    (record {
      event = OpenGroup B.result.member.number Write (cur + 1);
      found = 65536 * (cur + 1);
      filed = None;
    } ∷ B.ensures.steps.steps)
    [] (λ i. MoveCurrent (s i) Write (more i))
    (λ i. Expire (m i) Write cur)
    _ O.new.member.seat.me.0 M.new.member.seat.me.0 E.new.member.seat.me.0
    E.new.member.seat.me.0
    (ap (λ (v : View). v.trail) O.ensures.step.view
    ∙ ap (λ (l : List OwnStep). record {
      event = OpenGroup B.result.member.number Write (cur + 1);
      found = 65536 * (cur + 1);
      filed = None;
    } ∷ l) B.ensures.steps.trail)
    (ap (λ (v : View). v.trail) M.ensures.step.view)
    (ap (λ (v : View). v.trail) E.ensures.step.view) refl

pub returns-clause-oldest : goal.returns-clause-oldest
returns-clause-oldest g c =
    let w = c.args.holder.member.number in let cur = c.args.current in let O = c.open_write in
    let M = c.move_write in let E = c.expire_write in
    let B = c.make_room-member in let v = c.args.holder.member.seat.me.0 in
    let r = B.result.member.seat.me.0 in let o = O.new.member.seat.me.0 in
    let m = M.new.member.seat.me.0 in let e = E.new.member.seat.me.0 in
    λ t memtable k waits F.
    least_expired m e M.new.member.number cur E.result t k Write E.ensures.step
    (least_moved o m O.new.member.number (cur + 1) cur t k M.ensures.step
    (least_opened r o B.result.member.number (cur + 1) (65536 * (cur + 1)) t k Write O.ensures.step
    (least_quiet t k v r (ap (λ (l : List SeatTable). get_or l t untouched) B.ensures.tables) F)))

pub open_write-requires-clause-waiting : goal.open_write-requires-clause-waiting
open_write-requires-clause-waiting g c = let W = c.requires.waiting in record {
  table = W.table;
  memtable = W.memtable;
  waits = c.make_room-member.ensures.stages W.table ∙ W.waits;
}

pub open_write-requires-clause-turn : goal.open_write-requires-clause-turn
open_write-requires-clause-turn g c = let B = c.make_room-member in
    let few = issued_by _ [] _ _ B.ensures.steps in let low = c.requires.spends in
    (B.result.holds, B.ensures.saw, omega arith, omega (arith, few, low))

pub returns-clause-pays : goal.returns-clause-pays
returns-clause-pays g c = let B = c.make_room-member.ensures.steps in
    let before = issued_both B.steps c.args.holder.member.seat.me.0.trail in
    let first = ap issued_in B.trail in
    let one_more = ap (λ (v : View). issued_in v.trail) c.open_write.ensures.step.view in
    let moved = ap (λ (v : View). issued_in v.trail) c.move_write.ensures.step.view in
    let expired = ap (λ (v : View). issued_in v.trail) c.expire_write.ensures.step.view in
    omega (arith, before, first, one_more, moved, expired)
