use Rattle.std.proofs.Common.{[], Some, refl, sym, subst, arith}
use Rattle.path_core.specs.declared.event.Cursor.TheVariants.{Stopped}
use Rattle.path_core.specs.declared.event.Event.TheVariants.{Look}
use Rattle.path_core.specs.declared.event.Place.TheVariants.{CursorWord}
use Rattle.path_core.specs.declared.seat.SyncTurn.{SyncTurn}
use Rattle.path_rule.specs.declared.answer.SyncAnswer.TheVariants.{Done}
use Rattle.path_rule.specs.declared.answer.SyncAnswer.TheVariants as answer
use Rattle.path_rule.specs.declared.view.PathSize.{PathSize}
use Rattle.path_rule.specs.Calls.{MayGive}
use Rattle.path_rule.specs.SyncAnswers.{Answers}
use Rattle.path_rule.proofs.seats.Answering.{answers_after, found_answers, halted_answers}
use Rattle.path_rule.proofs.seats.MayGives.{gives_still}
use Rattle.path_rule.proofs.seats.RoundsGo.{one, still_wrote}
use Rattle.path_rounds.proofs.round_ends.first_round.Goals as goal

pub returns-then-now-gt0-clause-give : goal.returns-then-now-gt0-clause-give
returns-then-now-gt0-clause-give g c = let L = c.look_stopped-now in
    subst MayGive (sym L.ensures.step.view) (gives_still (λ (t : SyncTurn).
    record t { stopped = Some L.result }) (λ t. refl) (λ t. refl) c.args.member.seat.me.0 _ refl
    refl c.requires.turn.0)

pub returns-then-now-gt0-clause-answer : goal.returns-then-now-gt0-clause-answer
returns-then-now-gt0-clause-answer g c = let L = c.look_stopped-now in
    let w = c.args.member.number in let opened = c.args.path.now.size.at_open in
    let v = c.args.member.seat.me.0 in let u = L.new.member.seat.me.0 in
    subst (λ (z : PathSize). Answers w 0 opened v (answer.Stopped z.at_open L.result) u)
    (sym c.size-at_open.ensures)
    (halted_answers w opened L.result v u (L.ensures.risen c.if-now-gt0.true) L.ensures.step)

pub returns-clause-give : goal.returns-clause-give
returns-clause-give g c = let L = c.look_stopped-now in
    c.look_lent-synced.ensures.give (subst MayGive (sym L.ensures.step.view)
    (gives_still (λ (t : SyncTurn). record t { stopped = Some L.result }) (λ t. refl) (λ t. refl)
    c.args.member.seat.me.0 _ refl refl c.requires.turn.0))

pub returns-clause-answer : goal.returns-clause-answer
returns-clause-answer g c =
    let L = c.look_stopped-now in let S = c.look_lent-synced in let w = c.args.member.number in
    let v = c.args.member.seat.me.0 in let u = L.new.member.seat.me.0 in
    let opened = c.args.path.now.size.at_open in
    let first = one w (Look w (CursorWord Stopped)) L.result v u refl L.ensures.step in
    answers_after w opened _ v u _ first
    (subst (λ k. Answers k 0 opened u (Done S.result) S.new.member.seat.me.0) L.ensures.same.1
    (found_answers L.new.member.number opened 0 S.result u _ (omega arith)
    (still_wrote w 0 [] v u first c.requires.wrote) S.ensures.step))

pub returns-clause-reaches : goal.returns-clause-reaches
returns-clause-reaches g c = c.look_lent-synced.ensures.goes_on.front
