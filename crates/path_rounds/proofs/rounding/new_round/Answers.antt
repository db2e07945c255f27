use Rattle.std.proofs.Common.{[], ℕ, Option, refl, sym, ap, ◌∙◌, subst, arith}
use Rattle.op_core.specs.declared.count.Order.TheVariants.{Append}
use Rattle.path_core.specs.declared.event.Cursor.TheVariants.{Stopped}
use Rattle.path_core.specs.declared.event.Event.TheVariants.{Look}
use Rattle.path_core.specs.declared.event.Place.TheVariants.{Current, CursorWord, Log}
use Rattle.path_rule.specs.declared.view.Hands.{Hands}
use Rattle.path_rule.specs.declared.view.View.{View}
use Rattle.path_rule.specs.SyncAnswers.{Answers, MayAnswer}
use Rattle.path_rule.proofs.seats.Answering.{answers_after, halted_may, may_more}
use Rattle.path_rule.proofs.seats.Reaching.{found_on, halted_reaches, reaches_less}
use Rattle.path_rule.proofs.seats.RoundsGo.{from, issued_by, next, one}
use Rattle.path_rule.proofs.seats.Staying.{none_is}
use Rattle.path_rounds.specs.Marks.{MarksNext}
use Rattle.path_rounds.proofs.rounding.new_round.Goals as goal

pub returns-then-is_some-clause-answer : goal.returns-then-is_some-clause-answer
returns-then-is_some-clause-answer g c =
    let P = c.progress-member in let H = c.look_halted-halted in
    let opened = c.args.path.now.size.at_open in let w = c.args.member.number in
    let after = H.new.member.seat.me.0 in let L = H.ensures.looked in
    subst (λ (v : View). MayAnswer w 1 opened v H.result after) P.ensures.same.1
    (subst (λ z. MayAnswer z 1 opened P.result.0.seat.me.0 H.result after) P.ensures.same.0.1
    (may_more 0 1 P.result.0.number opened H.result _ _ (omega arith)
    (halted_may P.result.0.number opened L.0 H.result _ _ L.1 L.2)))

pub returns-then-is_some-clause-reaches : goal.returns-then-is_some-clause-reaches
returns-then-is_some-clause-reaches g c = let H = c.look_halted-halted in
    λ key F. halted_reaches c.args.path.now.size.capacity key c.args.path.now.size.at_open
    H.ensures.looked.0 H.result H.ensures.looked.2

pub bar_round-member-requires-clause-current : goal.bar_round-member-requires-clause-current
bar_round-member-requires-clause-current g c = let S = c.seek_current-current in (
  c.claim_next-member.ensures.current S.result S.ensures.turn.1,
  S.ensures.below,
)

pub bar_round-member-requires-clause-spends : goal.bar_round-member-requires-clause-spends
bar_round-member-requires-clause-spends g c =
    let P = c.progress-member in let H = c.look_halted-halted in
    let S = c.seek_current-current in let w = c.args.member.number in
    let h = H.ensures.same.1 ∙ P.ensures.same.0.1 in
    let few = issued_by w [] _ _ (next w _ [] [] _ _ _ (S.ensures.same.1 ∙ h)
    (next w _ [] [] _ _ _ h
    (from w P.result.0.number [] _ _ _ P.ensures.same.0.1 P.ensures.same.1
    (one _ (Look _ (CursorWord Stopped)) H.ensures.looked.0 _ _ refl H.ensures.looked.1))
    (one _ (Look _ (Current Append)) S.result _ _ refl S.ensures.step))
    c.claim_next-member.ensures.steps) in let low = c.requires.spends in omega (arith, few, low)

pub returns-in_default-clause-answer : goal.returns-in_default-clause-answer
returns-in_default-clause-answer g c =
    let P = c.progress-member in let H = c.look_halted-halted in
    let S = c.seek_current-current in let w = c.args.member.number in
    let h = H.ensures.same.1 ∙ P.ensures.same.0.1 in
    next w _ [] [] _ _ _ (S.ensures.same.1 ∙ h) (next w _ [] [] _ _ _ h
    (from w P.result.0.number [] _ _ _ P.ensures.same.0.1 P.ensures.same.1
    (one _ (Look _ (CursorWord Stopped)) H.ensures.looked.0 _ _ refl H.ensures.looked.1))
    (one _ (Look _ (Current Append)) S.result _ _ refl S.ensures.step))
    c.claim_next-member.ensures.steps

pub returns-clause-answer : goal.returns-clause-answer
returns-clause-answer g c =
    let P = c.progress-member in let H = c.look_halted-halted in
    let S = c.seek_current-current in let w = c.args.member.number in
    let C = c.claim_next-member in let B = c.bar_round-member in
    let opened = c.args.path.now.size.at_open in
    let h = H.ensures.same.1 ∙ P.ensures.same.0.1 in let number = S.ensures.same.1 ∙ h in
    answers_after w opened B.result.1 _ C.result.0.seat.me.0 _
    (next w _ [] [] _ _ _ number (next w _ [] [] _ _ _ h
    (from w P.result.0.number [] _ _ _ P.ensures.same.0.1 P.ensures.same.1
    (one _ (Look _ (CursorWord Stopped)) H.ensures.looked.0 _ _ refl H.ensures.looked.1))
    (one _ (Look _ (Current Append)) S.result _ _ refl S.ensures.step)) C.ensures.steps)
    (subst (λ k. Answers k 1 opened C.result.0.seat.me.0 B.result.1 B.result.0.seat.me.0)
    (C.ensures.same.1 ∙ number) B.ensures.answer)

pub returns-clause-reaches : goal.returns-clause-reaches
returns-clause-reaches g c =
    let P = c.progress-member in let H = c.look_halted-halted in
    let S = c.seek_current-current in let w = c.args.member.number in
    let B = c.bar_round-member in let h = H.ensures.same.1 ∙ P.ensures.same.0.1 in
    let C = c.claim_next-member in
    let marked = subst (λ (o : Option ℕ). MarksNext S.new.member.number S.new.member.seat.me.0 o
    C.result.0.seat.me.0) c.in-Some.is C.ensures.claimed in
    let before = next w _ [] [] _ _ _ h
    (from w P.result.0.number [] _ _ _ P.ensures.same.0.1 P.ensures.same.1
    (one _ (Look _ (CursorWord Stopped)) H.ensures.looked.0 _ _ refl H.ensures.looked.1))
    (one _ (Look _ (Current Append)) S.result _ _ refl S.ensures.step) in
    λ key F. reaches_less c.args.path.now.size.capacity key c.in-Some.start B.result.1
    (marked.rises key (found_on w [] _ _ Log key before F)) B.ensures.reaches

pub claim_next-member-requires-clause-runs : goal.claim_next-member-requires-clause-runs
claim_next-member-requires-clause-runs g c = let H = c.look_halted-halted in
    c.seek_current-current.ensures.runs (H.ensures.runs (none_is H.result
    (sym c.is_some.ensures ∙ c.if-is_some.false)))

pub claim_next-member-requires-clause-turn : goal.claim_next-member-requires-clause-turn
claim_next-member-requires-clause-turn g c = let P = c.progress-member in
    let H = c.look_halted-halted in let S = c.seek_current-current in (
      record {
        holds = S.ensures.turn.0;
        unfiled = (one _ (Look _ (Current Append)) S.result _ _ refl S.ensures.step).unfiled
            H.ensures.give.unfiled;
      },
      P.ensures.found ∙ sym (ap (λ (h : Hands). h.progress) (S.ensures.hands
          ∙ (H.ensures.hands ∙ ap (λ (v : View). v.hands) P.ensures.same.1))),
    )
