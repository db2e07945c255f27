use Rattle.std.proofs.Common.{refl, ap, ◌∙◌, subst, arith}
use Rattle.path_core.specs.declared.event.Event.TheVariants.{Look}
use Rattle.path_core.specs.declared.event.Place.TheVariants.{TurnWord}
use Rattle.path_core.specs.declared.event.Turn.TheVariants.{Sync}
use Rattle.path_rule.specs.declared.view.View.{View}
use Rattle.path_rule.specs.Issued.{issued_in}
use Rattle.path_rule.specs.SyncAnswers.{MayAnswer}
use Rattle.path_rule.proofs.seats.Answering.{may_after}
use Rattle.path_rule.proofs.seats.RoundsGo.{one}
use Rattle.write_path.proofs.seats.WritePath.try_sync.Goals as goal

pub returns-then-found-ne0-clause-answer : goal.returns-then-found-ne0-clause-answer
returns-then-found-ne0-clause-answer g c = let w = c.args.seat.member.number in
    let L = c.look_turn-seat in
    one w (Look w (TurnWord Sync)) L.result.1 _ _ refl L.ensures.looked

pub sync_free-requires-clause-spends : goal.sync_free-requires-clause-spends
sync_free-requires-clause-spends g c =
    let same = ap (λ (v : View). issued_in v.trail) c.look_turn-seat.ensures.looked.view in
    let low = c.requires.spends in omega (arith, same, low)

pub returns-clause-same : goal.returns-clause-same
returns-clause-same g c = let F = c.sync_free.ensures in
    (F.same.0, F.same.1 ∙ c.look_turn-seat.ensures.same.1)

pub returns-clause-answer : goal.returns-clause-answer
returns-clause-answer g c = let w = c.args.seat.member.number in let L = c.look_turn-seat in
    let F = c.sync_free in let opened = c.args.self.now.table.size.at_open in
    let v = c.args.seat.member.seat.me.0 in let u = L.result.0.member.seat.me.0 in
    let after = F.result.0.member.seat.me.0 in
    may_after 1 w opened F.result.1 v u after
    (one w (Look w (TurnWord Sync)) L.result.1 v u refl L.ensures.looked)
    (subst (λ k. MayAnswer k 1 opened u F.result.1 after) L.ensures.same.1 F.ensures.answer)
