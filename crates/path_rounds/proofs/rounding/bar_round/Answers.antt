use Rattle.std.proofs.Common.{◌<◌, [], sym, ◌∙◌, subst}
use Rattle.op_core.specs.declared.count.Order.TheVariants.{Append}
use Rattle.path_rule.specs.declared.view.View.{View}
use Rattle.path_rule.specs.Issued.{issued_in, most_issued}
use Rattle.path_rule.specs.Rounds.{RoundSteps}
use Rattle.path_rule.specs.SyncAnswers.{Answers}
use Rattle.path_rule.specs.Turns.{FoundRunning, MarkerWaits, TurnSaw}
use Rattle.path_rule.proofs.log.Marks.{behind_above}
use Rattle.path_rule.proofs.seats.Answering.{answers_after}
use Rattle.path_rule.proofs.seats.Reaching.{reaches_less}
use Rattle.path_rule.proofs.seats.RoundsGo.{next, still_wrote}
use Rattle.path_rounds.proofs.rounding.bar_round.Goals as goal

pub marker_barrier-holder-requires-clause-marker :
    goal.marker_barrier-holder-requires-clause-marker
marker_barrier-holder-requires-clause-marker g c =
    let P = c.progress-member.ensures.same in let w = c.args.member.number in (
      c.args.start,
      subst (λ k. MarkerWaits k c.progress-member.result.0.seat.me.0.part c.args.start)
          (sym P.0.1) (subst (λ (v : View). MarkerWaits w v.part c.args.start) (sym P.1)
          c.requires.marker.0),
    )

pub marker_barrier-holder-requires-clause-current :
    goal.marker_barrier-holder-requires-clause-current
marker_barrier-holder-requires-clause-current g c = (
  subst (λ (v : View). TurnSaw Append v.part c.args.current)
      (sym c.progress-member.ensures.same.1) c.requires.current.0,
  c.requires.current.1,
)

pub end_round-requires-clause-wrote : goal.end_round-requires-clause-wrote
end_round-requires-clause-wrote g c =
    let P = c.progress-member.ensures.same in let w = c.args.member.number in
    let M = c.marker_barrier-holder in let N = c.note_progress-member in
    let T = c.settle-member in let v = c.args.member.seat.me.0 in
    let barred = M.result.member.seat.me.0 in let after = T.result.seat.me.0 in
    let first = subst (λ (u : View). RoundSteps w 1 [] u barred) P.1
    (subst (λ k. RoundSteps k 1 [] c.progress-member.result.0.seat.me.0 barred) P.0.1
    M.ensures.steps) in
    let second = subst (λ (u : View). RoundSteps N.result.number 0 [] u after) N.ensures.same.1
    T.ensures.steps in
    still_wrote w c.args.start [] v after (next w N.result.number [] [] v barred after
    (N.ensures.same.0.1 ∙ (M.ensures.same.1 ∙ P.0.1)) first second) c.requires.wrote

pub returns-clause-answer : goal.returns-clause-answer
returns-clause-answer g c =
    let P = c.progress-member.ensures.same in let w = c.args.member.number in
    let M = c.marker_barrier-holder in let N = c.note_progress-member in
    let T = c.settle-member in let v = c.args.member.seat.me.0 in
    let barred = M.result.member.seat.me.0 in let after = T.result.seat.me.0 in
    let opened = c.args.path.now.size.at_open in let E = c.end_round in
    let number = N.ensures.same.0.1 ∙ (M.ensures.same.1 ∙ P.0.1) in
    let first = subst (λ (u : View). RoundSteps w 1 [] u barred) P.1
    (subst (λ k. RoundSteps k 1 [] c.progress-member.result.0.seat.me.0 barred) P.0.1
    M.ensures.steps) in
    let second = subst (λ (u : View). RoundSteps N.result.number 0 [] u after) N.ensures.same.1
    T.ensures.steps in
    answers_after w opened E.result.1 v after E.result.0.seat.me.0
    (next w N.result.number [] [] v barred after number first second)
    (subst (λ k. Answers k 0 opened after E.result.1 E.result.0.seat.me.0)
    (T.ensures.same.1 ∙ number) E.ensures.answer)

pub returns-clause-reaches : goal.returns-clause-reaches
returns-clause-reaches g c = let E = c.end_round in let capacity = c.args.path.now.size.capacity in
    reaches_less capacity c.args.start _ E.result.1 (behind_above capacity c.args.start)
    E.ensures.reaches

pub marker_barrier-holder-requires-clause-runs : goal.marker_barrier-holder-requires-clause-runs
marker_barrier-holder-requires-clause-runs g c = subst (λ (v : View). FoundRunning v.part)
    (sym c.progress-member.ensures.same.1) c.requires.runs

pub marker_barrier-holder-requires-clause-spends :
    goal.marker_barrier-holder-requires-clause-spends
marker_barrier-holder-requires-clause-spends g c =
    subst (λ (v : View). issued_in v.trail < most_issued) (sym c.progress-member.ensures.same.1)
    c.requires.spends
