use Rattle.std.proofs.Common.{[], Some, refl, sym, ap, ◌∙◌, subst, arith}
use Rattle.path_core.specs.declared.seat.SyncTurn.{SyncTurn}
use Rattle.path_core.specs.declared.event.Cursor.TheVariants.{Stopped}
use Rattle.path_core.specs.declared.event.Event.TheVariants.{Look}
use Rattle.path_core.specs.declared.event.Place.TheVariants.{CursorWord}
use Rattle.path_rule.specs.declared.view.Hands.{Hands}
use Rattle.path_rule.specs.declared.view.View.{View}
use Rattle.path_rule.specs.declared.answer.SyncAnswer.TheVariants as answer
use Rattle.path_rule.specs.declared.view.PathSize.{PathSize}
use Rattle.path_rule.specs.Calls.{MayGive}
use Rattle.path_rule.specs.Turns.{IsBarred}
use Rattle.path_rule.specs.declared.answer.SyncAnswer.{SyncAnswer}
use Rattle.path_core.specs.Keys.{behind_marker}
use Rattle.path_rule.specs.Reached.{Reaches}
use Rattle.path_rule.specs.SyncAnswers.{Answers, said_by}
use Rattle.path_rule.specs.SyncEnd.{TellsFaults}
use Rattle.path_rule.proofs.seats.Answering.{answers_after, ends_answers, halted_answers}
use Rattle.path_rule.proofs.seats.Reaching.{said_reaches}
use Rattle.path_rule.proofs.seats.RoundsGo.{one, still_wrote}
use Rattle.path_rule.proofs.seats.MayGives.{gives_still}
use Rattle.path_rounds.proofs.round_ends.end_round.Goals as goal

pub returns-then-now-gt0-clause-give : goal.returns-then-now-gt0-clause-give
returns-then-now-gt0-clause-give g c = let L = c.look_stopped-now in
    subst MayGive (sym L.ensures.step.view) (gives_still (λ (t : SyncTurn).
    record t { stopped = Some L.result }) (λ t. refl) (λ t. refl) c.args.member.seat.me.0 _ refl
    refl c.requires.turn.0)

pub returns-then-now-gt0-clause-answer : goal.returns-then-now-gt0-clause-answer
returns-then-now-gt0-clause-answer g c = let L = c.look_stopped-now in
    let w = c.args.member.number in let opened = c.args.path.now.size.at_open in
    let v = c.args.member.seat.me.0 in let u = L.new.member.seat.me.0 in
    subst (λ (z : PathSize). Answers w 0 opened v (answer.Stopped z.at_open L.result) u)
    (sym c.size-at_open.ensures)
    (halted_answers w opened L.result v u (L.ensures.risen c.if-now-gt0.true) L.ensures.step)

pub end_sync-member-requires-clause-turn : goal.end_sync-member-requires-clause-turn
end_sync-member-requires-clause-turn g c = let L = c.look_stopped-now in (
  subst MayGive (sym L.ensures.step.view) (gives_still (λ (t : SyncTurn).
      record t { stopped = Some L.result }) (λ t. refl) (λ t. refl) c.args.member.seat.me.0 _ refl
      refl c.requires.turn.0),
  ap (λ (v : View). v.hands.progress.gathered) L.ensures.step.view ∙ c.requires.turn.1,
  (
    L.ensures.turn.0,
    L.ensures.turn.1,
    L.ensures.turn.2 ∙ ap Some (let none = c.if-now-gt0.false in omega arith),
  ),
)

pub end_sync-member-requires-clause-marker : goal.end_sync-member-requires-clause-marker
end_sync-member-requires-clause-marker g c =
    subst (λ (h : Hands). IsBarred h c.args.upto)
    (sym (ap (λ (v : View). v.hands) c.look_stopped-now.ensures.step.view)) c.requires.marker

pub returns-clause-answer : goal.returns-clause-answer
returns-clause-answer g c =
    let L = c.look_stopped-now in let E = c.end_sync-member in let w = c.args.member.number in
    let opened = c.args.path.now.size.at_open in let v = c.args.member.seat.me.0 in
    let first = one w (Look w (CursorWord Stopped)) L.result v L.new.member.seat.me.0 refl
    L.ensures.step in
    subst (λ (a : SyncAnswer). Answers w 0 opened v a E.result.0.seat.me.0) (sym c.said_by.ensures)
    (answers_after w opened _ v L.new.member.seat.me.0 _ first
    (subst (λ k. Answers k 0 opened L.new.member.seat.me.0 (said_by E.result.1)
    E.result.0.seat.me.0) L.ensures.same.1
    (ends_answers L.new.member.number opened c.args.upto L.new.member.seat.me.0 _ E.result.1
    (subst (λ n. TellsFaults n E.result.1)
    (ap (λ (v : View). v.hands.lasting.at_open) L.ensures.step.view ∙ c.requires.opened)
    E.ensures.counts) (still_wrote w c.args.upto [] v L.new.member.seat.me.0 first
    c.requires.wrote) E.ensures.steps)))

pub returns-clause-reaches : goal.returns-clause-reaches
returns-clause-reaches g c = let E = c.end_sync-member in
    let capacity = c.args.path.now.size.capacity in let key = behind_marker capacity c.args.upto in
    subst (Reaches capacity key) (sym c.said_by.ensures)
    (said_reaches capacity key E.result.1 E.ensures.reaches)
