use Rattle.std.proofs.Common.{[], ◌∙◌, subst, arith}
use Rattle.path_rule.proofs.seats.RoundsGo.{issued_by as round_issued}
use Rattle.path_flush.specs.FlushSteps.{Finalises}
use Rattle.path_flush.proofs.FlushBarring.{final_before}
use Rattle.path_flush.proofs.FlushGoes.{at_most, next, of_round, same_list, still_wrote}
use Rattle.path_flush.proofs.FlushPays.{paid_round}
use Rattle.path_flush.proofs.StepsOpen.{none_opened, opens_both, round_opens}
use Rattle.path_flush.proofs.SwitchAnswers.{behind, settled_bars, settled_had, settled_is}
use Rattle.path_flush.proofs.SwitchAnswers.{settled_opens}
use Rattle.path_flush.proofs.SwitchGoes.{newest_same, oldest_same}
use Rattle.path_flush.proofs.switching.switch_newest.Goals as goal

pub switch_table-member-requires-clause-turn : goal.switch_table-member-requires-clause-turn
switch_table-member-requires-clause-turn g c = let t = c.args.table.0 in
    let p = c.args.member.seat.me.0.part in
    let q = c.take_sync_beside-member.result.seat.me.0.part in
    let same = c.take_sync_beside-member.ensures.tables t in let F = c.requires.turn in (
      newest_same t c.args.newest p q same F.0,
      oldest_same t c.args.newest p q same F.1,
      F.2,
    )

pub switch_table-member-requires-clause-numbers : goal.switch_table-member-requires-clause-numbers
switch_table-member-requires-clause-numbers g c = let w = c.args.member.number in
    let T = c.take_sync_beside-member.ensures.steps in
    let few = round_issued w [] _ _ T in let low = c.requires.numbers.1 in
    (paid_round w _ _ T c.requires.numbers.0, omega (arith, few, low))

pub settle-requires-clause-drained : goal.settle-requires-clause-drained
settle-requires-clause-drained g c = c.switch_table-member.ensures.switched.drained

pub settle-requires-clause-unread : goal.settle-requires-clause-unread
settle-requires-clause-unread g c = c.switch_table-member.ensures.switched.reading
    ∙ (c.take_sync_beside-member.ensures.steps.reading ∙ c.requires.holds.unread)

pub settle-requires-clause-paid : goal.settle-requires-clause-paid
settle-requires-clause-paid g c = c.switch_table-member.ensures.switched.paid

pub returns-clause-had : goal.returns-clause-had
returns-clause-had g c = let W = c.switch_table-member in let E = c.settle in
    settled_had W.result.0.number c.args.table.0 c.args.newest W.result.1.0 W.result.0.seat.me.0
    E.result.1 E.result.0.member.seat.me.0 E.ensures.settled

pub returns-clause-switches : goal.returns-clause-switches
returns-clause-switches g c = let t = c.args.table.0 in let m = c.args.newest in
    let T = c.take_sync_beside-member in let W = c.switch_table-member in
    let w = c.args.member.number in let z = T.result.number in let y = W.result.0.number in
    let v = c.args.member.seat.me.0 in let u = T.result.seat.me.0 in
    let x = W.result.0.seat.me.0 in let after = c.settle.result.0.member.seat.me.0 in
    let key = W.result.1.0 in let E = c.settle.ensures in let S = W.ensures.switched in
    let first = T.ensures.same.1 in let second = W.ensures.same.1 ∙ first in
    let A = next w z v u x first (of_round w [] v u T.ensures.steps) S.made in
    let F = final_before w t m key S.made.steps T.ensures.steps.steps
    (subst (λ k. Finalises k t m key S.made.steps) first S.set) in
    let B = next w y v x after second A E.steps.made in
    let all = opens_both t E.steps.made.steps A.steps in
    let before = opens_both t S.made.steps T.ensures.steps.steps in
    let none = round_opens w t T.ensures.steps.steps T.ensures.steps.are in
    let no_more = none_opened t E.steps.made.steps E.steps.none in let most = S.opened in
    let may = settled_opens y t m key x c.settle.result.1 after E.settled in
    let bars = settled_bars y t m key x c.settle.result.1 after E.settled in
    λ k b q same. behind k w t b v after c.settle.result.1 same q
    (settled_had y t m key x c.settle.result.1 after E.settled) (record {
      steps = at_most w v after (omega (arith, bars)) B;
      opened = omega (arith, all, before, none, no_more, most, may);
      list = same_list w v after B;
      is = settled_is w y t m key v x after c.settle.result.1 E.steps.made.steps A second F
          (still_wrote y key x after E.steps.made S.wrote) E.settled;
    })
