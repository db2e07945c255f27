use Rattle.std.proofs.Common.{◌≤◌, [], inl, ◌∙◌, subst, arith}
use Rattle.path_rule.proofs.seats.RoundsGo.{issued_by as round_issued}
use Rattle.path_flush.specs.FlushSteps.{Finalises}
use Rattle.path_flush.specs.Opens.{opens}
use Rattle.path_flush.proofs.FlushAlone.{only_both, only_none}
use Rattle.path_flush.proofs.FlushAnswers.{flushed, got_turn, newest_later}
use Rattle.path_flush.proofs.FlushBarring.{final_before}
use Rattle.path_flush.proofs.FlushGoes.{issued_by, next, of_round}
use Rattle.path_flush.proofs.FlushPays.{paid_on, paid_round}
use Rattle.path_flush.proofs.FlushTaking.{of_table}
use Rattle.path_flush.proofs.SwitchGoes.{kept_both, newest_same, oldest_same, round_kept}
use Rattle.path_flush.proofs.SwitchGoes.{round_none}
use Rattle.path_flush.proofs.StepsOpen.{opens_both, round_opens}
use Rattle.path_flush.proofs.flushing.flush_newest.Goals as goal

pub take_sync_beside-member-requires-clause-holds :
    goal.take_sync_beside-member-requires-clause-holds
take_sync_beside-member-requires-clause-holds g c =
    of_table c.args.table.0 c.args.member.seat.me c.requires.holds

pub switch_table-member-requires-clause-turn : goal.switch_table-member-requires-clause-turn
switch_table-member-requires-clause-turn g c = let t = c.args.table.0 in
    let p = c.args.member.seat.me.0.part in
    let q = c.take_sync_beside-member.result.seat.me.0.part in
    let same = c.take_sync_beside-member.ensures.tables t in let F = c.requires.turn in (
      newest_same t c.args.newest p q same F.0,
      oldest_same t c.args.newest p q same F.1,
      F.2,
    )

pub switch_table-member-requires-clause-numbers : goal.switch_table-member-requires-clause-numbers
switch_table-member-requires-clause-numbers g c = let w = c.args.member.number in
    let T = c.take_sync_beside-member.ensures.steps in
    let few = round_issued w [] _ _ T in let low = c.requires.numbers.1 in
    (paid_round w _ _ T c.requires.numbers.0, omega (arith, few, low))

pub retire_memtable-member-requires-clause-stage : goal.retire_memtable-member-requires-clause-stage
retire_memtable-member-requires-clause-stage g c =
    let D = c.switch_table-member.ensures.switched.drained in
    inl (c.switch_table-member.result.2, D.stage, D.past)

pub retire_memtable-member-requires-clause-oldest :
    goal.retire_memtable-member-requires-clause-oldest
retire_memtable-member-requires-clause-oldest g c =
    c.switch_table-member.ensures.switched.drained.oldest

pub retire_memtable-member-requires-clause-unread :
    goal.retire_memtable-member-requires-clause-unread
retire_memtable-member-requires-clause-unread g c =
    c.switch_table-member.ensures.switched.reading
    ∙ (c.take_sync_beside-member.ensures.steps.reading ∙ c.requires.holds.unread)

pub retire_memtable-member-requires-clause-spends :
    goal.retire_memtable-member-requires-clause-spends
retire_memtable-member-requires-clause-spends g c = let T = c.take_sync_beside-member in
    let first = round_issued c.args.member.number [] _ _ T.ensures.steps in
    let then = issued_by T.result.number _ _ c.switch_table-member.ensures.switched.made in
    let low = c.requires.numbers.1 in omega (arith, first, then, low)

pub end_flush-requires-clause-barrier : goal.end_flush-requires-clause-barrier
end_flush-requires-clause-barrier g c = (
  c.args.newest,
  c.retire_memtable-member.ensures.retired.steps.stage
      ∙ c.switch_table-member.ensures.switched.drained.stage,
)

pub end_flush-requires-clause-paid : goal.end_flush-requires-clause-paid
end_flush-requires-clause-paid g c = let W = c.switch_table-member in
    paid_on W.result.0.number _ _ c.retire_memtable-member.ensures.retired.steps.made
    W.ensures.switched.paid

pub returns-clause-had : goal.returns-clause-had
returns-clause-had g c = let M = c.retire_memtable-member in
    got_turn _ c.args.table.0 c.args.newest _ _ M.result.1 M.ensures.retired

pub returns-clause-flushes : goal.returns-clause-flushes
returns-clause-flushes g c = let t = c.args.table.0 in let m = c.args.newest in
    let T = c.take_sync_beside-member in let W = c.switch_table-member in
    let M = c.retire_memtable-member in let L = c.end_flush in
    let w = c.args.member.number in let z = T.result.number in let y = W.result.0.number in
    let r = M.result.0.number in
    let v = c.args.member.seat.me.0 in let u = T.result.seat.me.0 in
    let x = W.result.0.seat.me.0 in let e = M.result.0.seat.me.0 in
    let after = L.result.member.seat.me.0 in let key = W.result.1.0 in
    let S = W.ensures.switched in
    let first = T.ensures.same.1 in let second = W.ensures.same.1 ∙ first in
    let A = next w z v u x first (of_round w [] v u T.ensures.steps) S.made in
    let F = final_before w t m key S.made.steps T.ensures.steps.steps
    (subst (λ k. Finalises k t m key S.made.steps) first S.set) in
    let K = kept_both S.made.steps T.ensures.steps.steps S.kept
    (round_kept w T.ensures.steps.steps T.ensures.steps.are) in
    let all = opens_both t S.made.steps T.ensures.steps.steps in
    let none = round_opens w t T.ensures.steps.steps T.ensures.steps.are in let most = S.opened in
    let one_most : opens t A.steps ≤ 1 = omega (arith, all, none, most) in
    let only = only_both t m S.made.steps T.ensures.steps.steps S.only
    (only_none t m T.ensures.steps.steps (round_none w T.ensures.steps.steps
    T.ensures.steps.are)) in
    λ k b q same found. newest_later k w t m b v after M.result.1 same q
    (got_turn y t m x e M.result.1 M.ensures.retired) found
    (flushed w y t m key v x e after M.result.1 second r M.ensures.same.1 A F only K one_most
    S.wrote M.ensures.retired L.ensures.steps)
