use Rattle.std.proofs.Common.{Some, refl, sym, ap, ◌∙◌, subst, arith}
use Rattle.std.proofs.lemmas.Option.{none-some}
use Rattle.path_core.specs.declared.seat.SyncTurn.{SyncTurn}
use Rattle.path_rule.specs.declared.answer.SyncAnswer.TheVariants as answer
use Rattle.path_rule.specs.declared.view.PathSize.{PathSize}
use Rattle.path_rule.specs.Calls.{MayGive}
use Rattle.path_rule.proofs.seats.MayGives.{gives_still}
use Rattle.path_rounds.proofs.round_ends.look_halted.Goals as goal

pub returns-then-now-gt0-clause-give : goal.returns-then-now-gt0-clause-give
returns-then-now-gt0-clause-give g c = let L = c.look_stopped-now in
    subst MayGive (sym L.ensures.step.view) (gives_still (λ (t : SyncTurn).
    record t { stopped = Some L.result }) (λ t. refl) (λ t. refl) c.args.member.now.seat.me.0 _
    refl refl c.requires.turn)

pub returns-else-now-gt0-clause-give : goal.returns-else-now-gt0-clause-give
returns-else-now-gt0-clause-give g c = let L = c.look_stopped-now in
    subst MayGive (sym L.ensures.step.view) (gives_still (λ (t : SyncTurn).
    record t { stopped = Some L.result }) (λ t. refl) (λ t. refl) c.args.member.now.seat.me.0 _
    refl refl c.requires.turn)

pub returns-then-now-gt0-clause-looked : goal.returns-then-now-gt0-clause-looked
returns-then-now-gt0-clause-looked g c = let L = c.look_stopped-now in
    let said = ap (λ (z : PathSize). answer.Stopped z.at_open L.result) c.size-at_open.ensures in
    (L.result, L.ensures.step, (said, L.ensures.risen c.if-now-gt0.true))

pub returns-else-now-gt0-clause-looked : goal.returns-else-now-gt0-clause-looked
returns-else-now-gt0-clause-looked g c = let L = c.look_stopped-now in
    (L.result, L.ensures.step, let none = c.if-now-gt0.false in omega (arith, none))

pub returns-then-now-gt0-clause-runs : goal.returns-then-now-gt0-clause-runs
returns-then-now-gt0-clause-runs g c = λ none. absurd (none-some _ (sym none))

pub returns-else-now-gt0-clause-runs : goal.returns-else-now-gt0-clause-runs
returns-else-now-gt0-clause-runs g c = let T = c.look_stopped-now.ensures.turn in
    λ _. (T.0, T.1, T.2 ∙ ap Some (let none = c.if-now-gt0.false in omega (arith, none)))
