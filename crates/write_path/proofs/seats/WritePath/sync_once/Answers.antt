use Rattle.std.proofs.Common.{[], Option, subst, arith}
use Rattle.path_rule.specs.declared.answer.SyncAnswer.{SyncAnswer}
use Rattle.path_rule.specs.SyncAnswers.{MayAnswer}
use Rattle.path_rule.proofs.seats.Answering.{may_after, may_more}
use Rattle.path_rule.proofs.seats.RoundsGo.{issued_by}
use Rattle.write_path.proofs.seats.WritePath.sync_once.Goals as goal

pub returns-in-None-clause-answer : goal.returns-in-None-clause-answer
returns-in-None-clause-answer g c =
    let w = c.args.seat.member.number in let A = c.try_await-seat in let T = c.try_sync in
    let opened = c.args.self.now.table.size.at_open in
    let v = c.args.seat.member.seat.me.0 in let u = A.result.0.member.seat.me.0 in
    let after = T.result.0.member.seat.me.0 in
    may_after 1 w opened T.result.1 v u after
    (subst (λ (a : Option SyncAnswer). MayAnswer w 0 opened v a u) c.in-None.is A.ensures.answer)
    (subst (λ k. MayAnswer k 1 opened u T.result.1 after) A.ensures.same.1 T.ensures.answer)

pub returns-in-Some-clause-answer : goal.returns-in-Some-clause-answer
returns-in-Some-clause-answer g c = let A = c.try_await-seat in
    let w = c.args.seat.member.number in let opened = c.args.self.now.table.size.at_open in
    let v = c.args.seat.member.seat.me.0 in let u = A.result.0.member.seat.me.0 in
    subst (λ (a : Option SyncAnswer). MayAnswer w 1 opened v a u) c.in-Some.is
    (may_more 0 1 w opened A.result.1 v u (omega arith) A.ensures.answer)

pub try_sync-requires-clause-spends : goal.try_sync-requires-clause-spends
try_sync-requires-clause-spends g c =
    let w = c.args.seat.member.number in let A = c.try_await-seat in
    let opened = c.args.self.now.table.size.at_open in
    let v = c.args.seat.member.seat.me.0 in let u = A.result.0.member.seat.me.0 in
    let few = issued_by w [] v u (subst (λ (a : Option SyncAnswer). MayAnswer w 0 opened v a u)
    c.in-None.is A.ensures.answer) in let low = c.requires.spends in omega (arith, few, low)
