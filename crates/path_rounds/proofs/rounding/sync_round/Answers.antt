use Rattle.std.proofs.Common.{[], sym, ◌∙◌, subst, arith}
use Rattle.path_core.specs.declared.event.Place.TheVariants.{Log}
use Rattle.path_rule.specs.declared.view.View.{View}
use Rattle.path_rule.specs.Finds.{Finds}
use Rattle.path_rule.specs.SyncAnswers.{MayAnswer}
use Rattle.path_rule.proofs.seats.Answering.{may_after, may_more}
use Rattle.path_rule.proofs.seats.Reaching.{found_on, may_less}
use Rattle.path_rule.proofs.seats.RoundsGo.{from, issued_by, next, still_wrote}
use Rattle.path_rounds.proofs.rounding.sync_round.Goals as goal

pub old_round-requires-clause-wrote : goal.old_round-requires-clause-wrote
old_round-requires-clause-wrote g c =
    let L = c.look_since-since in let T = c.settled-member in
    still_wrote L.new.member.number _ [] _ _ T.ensures.steps (L.ensures.none c.if-since.false)

pub returns-then-since-clause-answer : goal.returns-then-since-clause-answer
returns-then-since-clause-answer g c =
    let P = c.progress-member in let L = c.look_since-since in let T = c.settled-member in
    let N = c.new_round in let w = c.args.member.number in
    let opened = c.args.path.now.size.at_open in
    let number = L.ensures.same.1 ∙ P.ensures.same.0.1 in
    may_after 1 w opened N.result.1 _ T.result.seat.me.0 _
    (next w _ [] [] _ _ _ number (from w P.result.0.number [] _ _ _ P.ensures.same.0.1
    P.ensures.same.1 L.ensures.steps) T.ensures.steps)
    (subst (λ k. MayAnswer k 1 opened T.result.seat.me.0 N.result.1 N.result.0.seat.me.0)
    (T.ensures.same.1 ∙ number) N.ensures.answer)

pub returns-else-since-clause-answer : goal.returns-else-since-clause-answer
returns-else-since-clause-answer g c =
    let P = c.progress-member in let L = c.look_since-since in let T = c.settled-member in
    let N = c.old_round in let w = c.args.member.number in
    let opened = c.args.path.now.size.at_open in
    let number = L.ensures.same.1 ∙ P.ensures.same.0.1 in
    may_more 0 1 w opened N.result.1 _ _ (omega arith)
    (may_after 0 w opened N.result.1 _ T.result.seat.me.0 _
    (next w _ [] [] _ _ _ number (from w P.result.0.number [] _ _ _ P.ensures.same.0.1
    P.ensures.same.1 L.ensures.steps) T.ensures.steps)
    (subst (λ k. MayAnswer k 0 opened T.result.seat.me.0 N.result.1 N.result.0.seat.me.0)
    (T.ensures.same.1 ∙ number) N.ensures.answer))

pub returns-then-since-clause-reaches : goal.returns-then-since-clause-reaches
returns-then-since-clause-reaches g c =
    let P = c.progress-member in let L = c.look_since-since in let T = c.settled-member in
    let w = c.args.member.number in let number = L.ensures.same.1 ∙ P.ensures.same.0.1 in
    λ key F. c.new_round.ensures.reaches key (found_on w [] _ _ Log key
    (next w _ [] [] _ _ _ number (from w P.result.0.number [] _ _ _ P.ensures.same.0.1
    P.ensures.same.1 L.ensures.steps) T.ensures.steps) F)

pub returns-else-since-clause-reaches : goal.returns-else-since-clause-reaches
returns-else-since-clause-reaches g c =
    let P = c.progress-member in let L = c.look_since-since in let N = c.old_round in
    let capacity = c.args.path.now.size.capacity in
    λ key F. may_less capacity key _ N.result.1 (L.ensures.rises c.if-since.false key
    (subst (λ (v : View). Finds Log key v.trail) (sym P.ensures.same.1) F)) N.ensures.reaches

pub new_round-requires-clause-spends : goal.new_round-requires-clause-spends
new_round-requires-clause-spends g c =
    let P = c.progress-member in let L = c.look_since-since in let T = c.settled-member in
    let w = c.args.member.number in let number = L.ensures.same.1 ∙ P.ensures.same.0.1 in
    let few = issued_by w [] _ _ (next w _ [] [] _ _ _ number (from w P.result.0.number [] _ _ _
    P.ensures.same.0.1 P.ensures.same.1 L.ensures.steps) T.ensures.steps) in
    let low = c.requires.spends in omega (arith, few, low)
