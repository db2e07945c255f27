use Rattle.std.proofs.Common.{[], Option, refl, ◌∙◌, subst, arith}
use Rattle.path_rule.specs.declared.answer.SyncAnswer.{SyncAnswer}
use Rattle.path_rule.specs.Rounds.{RoundSteps}
use Rattle.path_rule.specs.SyncAnswers.{MayAnswer}
use Rattle.path_rule.proofs.seats.RoundsGo.{both, issued_by, none_yet}
use Rattle.write_path.proofs.SyncLists.{answered}
use Rattle.write_path.proofs.seats.WritePath.sync.Goals as goal

pub returns-in-Some-answer-clause-syncs : goal.returns-in-Some-answer-clause-syncs
returns-in-Some-answer-clause-syncs g c =
    let I = c.loop.invariant in let T = c.sync_once-next in
    let opened = c.args.self.now.table.size.at_open in let u = c.loop.seat.member.seat.me.0 in
    let after = T.result.0.member.seat.me.0 in
    answered c.args.seat.member.number opened c.args.seat.member.seat.me.0 u after
    T.result.1 c.in-Some-answer.answer c.in-Some-answer.is I.steps
    (subst (λ k. MayAnswer k 1 opened u T.result.1 after) I.stays.1 T.ensures.answer)

pub returns-in-Some-answer-clause-issued : goal.returns-in-Some-answer-clause-issued
returns-in-Some-answer-clause-issued g c =
    let I = c.loop.invariant in let T = c.sync_once-next in let w = c.args.seat.member.number in
    let opened = c.args.self.now.table.size.at_open in let u = c.loop.seat.member.seat.me.0 in
    let after = T.result.0.member.seat.me.0 in
    let S = answered w opened c.args.seat.member.seat.me.0 u after
    T.result.1 c.in-Some-answer.answer c.in-Some-answer.is I.steps
    (subst (λ k. MayAnswer k 1 opened u T.result.1 after) I.stays.1 T.ensures.answer)
    in issued_by w S.answers.puts _ _ S.answers.steps

pub sync_once-next-requires-clause-spends : goal.sync_once-next-requires-clause-spends
sync_once-next-requires-clause-spends g c = let low = c.requires.spends in
    let few = issued_by c.args.seat.member.number [] _ _ c.loop.invariant.steps in
    omega (arith, few, low)

pub loop-init : goal.loop-init
loop-init g c = let m = c.args.seat.member in record {
  next = tt;
  finite = tt;
  stays = (c.requires.table, refl);
  steps = none_yet m.number m.seat.me.0 m.seat.me.0 refl;
}

pub loop-preserved : goal.loop-preserved
loop-preserved g c =
    let I = c.loop.invariant in let T = c.sync_once-next in
    let opened = c.args.self.now.table.size.at_open in let u = c.loop.seat.member.seat.me.0 in
    let after = T.result.0.member.seat.me.0 in let z = c.loop.seat.member.number in
    let more = subst (λ (a : Option SyncAnswer). MayAnswer z 1 opened u a after) c.in-None-answer.is
    T.ensures.answer in record {
      next = tt;
      finite = tt;
      stays = ((T.ensures.same.0.0, T.ensures.same.0.1), T.ensures.same.1 ∙ I.stays.1);
      steps = both c.args.seat.member.number [] [] _ u after I.steps
          (subst (λ k. RoundSteps k 0 [] u after) I.stays.1 more);
    }
