use Rattle.std.proofs.Common.{◌+◌, [], refl, ◌∙◌, arith}
use Rattle.path_core.specs.declared.event.Event.TheVariants.{Look}
use Rattle.path_core.specs.declared.event.Place.TheVariants.{Count, Current, Oldest}
use Rattle.path_rule.proofs.seats.RoundsGo.{one, next}
use Rattle.path_rounds.proofs.OldestMoves.{has_moved_on, runs_still}
use Rattle.path_rounds.proofs.advancing.try_advance.Goals as goal

pub returns-then-count-group-clause-steps : goal.returns-then-count-group-clause-steps
returns-then-count-group-clause-steps g c =
    let C = c.seek_current-current in let O = c.seek_oldest-group in let N = c.seek_count-count in
    let w = c.args.member.now.number in let order = c.args.order in
    let o = C.ensures.same.1 in let n = O.ensures.same.1 ∙ o in
    next w _ [] [] _ _ _ n (next w _ [] [] _ _ _ o
    (one w (Look w (Current order)) C.result _ _ refl C.ensures.step)
    (one _ (Look _ (Oldest order)) O.result _ _ refl O.ensures.step))
    (one _ (Look _ (Count order O.result)) N.result _ _ refl N.ensures.step)

pub advance-requires-clause-group : goal.advance-requires-clause-group
advance-requires-clause-group g c =
    let C = c.seek_current-current in let O = c.seek_oldest-group in let N = c.seek_count-count in
    let below = N.ensures.below C.result c.if-count-group.false
    (O.ensures.turn.2 C.result C.ensures.turn.1) in (omega arith, omega arith)

pub returns-clause-steps : goal.returns-clause-steps
returns-clause-steps g c =
    let C = c.seek_current-current in let O = c.seek_oldest-group in let N = c.seek_count-count in
    let w = c.args.member.now.number in let order = c.args.order in
    let o = C.ensures.same.1 in let n = O.ensures.same.1 ∙ o in let a = N.ensures.same.1 ∙ n in
    next w _ [] [] _ _ _ a (next w _ [] [] _ _ _ n (next w _ [] [] _ _ _ o
    (one w (Look w (Current order)) C.result _ _ refl C.ensures.step)
    (one _ (Look _ (Oldest order)) O.result _ _ refl O.ensures.step))
    (one _ (Look _ (Count order O.result)) N.result _ _ refl N.ensures.step))
    c.advance.ensures.steps

pub returns-then-count-group-clause-answer : goal.returns-then-count-group-clause-answer
returns-then-count-group-clause-answer g c =
    let C = c.seek_current-current in let O = c.seek_oldest-group in let N = c.seek_count-count in
    runs_still c.args.order c.args.member.now.number _ _ C.result O.result N.result _ _ _ _
    C.ensures.step O.ensures.step N.ensures.step c.if-count-group.true

pub returns-clause-answer : goal.returns-clause-answer
returns-clause-answer g c =
    let C = c.seek_current-current in let O = c.seek_oldest-group in let N = c.seek_count-count in
    has_moved_on c.args.order c.args.member.now.number _ _ C.result O.result N.result _ _ _ _
    C.ensures.step O.ensures.step N.ensures.step _ (O.result + 1) _ c.if-count-group.false
    (omega arith)
    (N.ensures.same.1 ∙ (O.ensures.same.1 ∙ C.ensures.same.1)) c.advance.ensures.step
