use Rattle.std.proofs.Common.{◌++◌, List, [], sym, ap, ◌∙◌}
use Rattle.std.proofs.lemmas.List.{append_assoc}
use Rattle.path_rule.specs.declared.view.OwnStep.{OwnStep}
use Rattle.path_rule.specs.Lasts.{shows_of}
use Rattle.path_flush.proofs.FilingGoes.{then_unswitched, unswitched}
use Rattle.path_flush.proofs.FilingTurns.{of_both}
use Rattle.path_flush.proofs.FlushGoes.{of_round}
use Rattle.path_flush.proofs.FlushPays.{paid_on, paid_round}
use Rattle.path_flush.proofs.SwitchGoes.{quiet_round, retires_behind, stage_same}
use Rattle.path_flush.proofs.flush_retire.leave_empty.Goals as goal

pub retire_read-member-requires-clause-sees : goal.retire_read-member-requires-clause-sees
retire_read-member-requires-clause-sees g c = let S = c.requires.sees in (
  S.0,
  c.take_sync_beside-member.ensures.steps.reading ∙ S.1,
  S.2,
  S.3,
  S.4,
  S.5,
  S.6,
  S.7,
)

pub end_flush-requires-clause-holds : goal.end_flush-requires-clause-holds
end_flush-requires-clause-holds g c = let R = c.retire_read-member in
    of_both (shows_of g.K.Keeper.holds) c.args.table.0 R.result.seat.me R.ensures.holds

pub end_flush-requires-clause-barrier : goal.end_flush-requires-clause-barrier
end_flush-requires-clause-barrier g c = let t = c.args.table.0 in
    let T = c.take_sync_beside-member in (
      c.args.memtable,
      c.retire_read-member.ensures.stage
          ∙ (stage_same t c.args.member.seat.me.0.part T.result.seat.me.0.part
          (T.ensures.tables t) ∙ c.requires.barrier),
    )

pub end_flush-requires-clause-paid : goal.end_flush-requires-clause-paid
end_flush-requires-clause-paid g c = let T = c.take_sync_beside-member in
    paid_on T.result.number _ _ c.retire_read-member.ensures.steps
    (paid_round c.args.member.number _ _ T.ensures.steps c.requires.paid)

pub returns-clause-same : goal.returns-clause-same
returns-clause-same g c = let T = c.take_sync_beside-member.ensures in
    let R = c.retire_read-member.ensures in let E = c.end_flush.ensures in
    (E.same.0, E.same.1 ∙ (R.same.1 ∙ T.same.1))

pub returns-clause-steps : goal.returns-clause-steps
returns-clause-steps g c = let T = c.take_sync_beside-member in let R = c.retire_read-member in
    let w = c.args.member.number in let v = c.args.member.seat.me.0 in
    let u = T.result.seat.me.0 in let x = R.result.seat.me.0 in
    then_unswitched w R.result.number v x _ (R.ensures.same.1 ∙ T.ensures.same.1)
    (then_unswitched w T.result.number v u x T.ensures.same.1
    (unswitched w v u (quiet_round w [] v u T.ensures.steps)) R.ensures.steps)
    (unswitched _ _ _ c.end_flush.ensures.steps)

pub returns-clause-retires : goal.returns-clause-retires
returns-clause-retires g c = let T = c.take_sync_beside-member in
    let w = c.args.member.number in let v = c.args.member.seat.me.0 in
    let u = T.result.seat.me.0 in let t = c.args.table.0 in
    let E = c.retire_read-member.ensures.retires in let R = E.0 in
    let L = c.end_flush.ensures.steps.made in
    retires_behind w T.result.number t c.args.memtable v u _ T.ensures.same.1
    (of_round {t = t} w [] v u T.ensures.steps) (
      record {
        before = R.before;
        since = R.since;
        read = R.read;
        sees = R.sees;
        was = R.was;
        put = record {
          newer = L.steps ++ R.put.newer;
          is = L.trail ∙ (ap (λ (l : List OwnStep). L.steps ++ l) R.put.is
              ∙ sym (append_assoc L.steps R.put.newer _));
        };
      },
      E.1,
      E.2,
    )
