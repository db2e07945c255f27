use Rattle.std.proofs.Common.{◌∙◌}
use Rattle.path_flush.proofs.FlushPays.{paid_quiet}
use Rattle.path_flush.proofs.SwitchGoes.{stage_same, then_quiet}
use Rattle.path_flush.proofs.flush_ending.end_flush.Goals as goal

pub leave_passed-requires-clause-unread : goal.leave_passed-requires-clause-unread
leave_passed-requires-clause-unread g c =
    c.give_sync_beside-member.ensures.reading ∙ c.requires.unread

pub leave_passed-requires-clause-barrier : goal.leave_passed-requires-clause-barrier
leave_passed-requires-clause-barrier g c = let G = c.give_sync_beside-member in
    let t = c.args.table.0 in let B = c.requires.barrier in (
      B.0,
      stage_same t c.args.member.seat.me.0.part G.result.seat.me.0.part (G.ensures.tables t)
          ∙ B.1,
    )

pub leave_passed-requires-clause-paid : goal.leave_passed-requires-clause-paid
leave_passed-requires-clause-paid g c =
    paid_quiet c.args.member.number _ _ c.give_sync_beside-member.ensures.steps c.requires.paid

pub returns-clause-same : goal.returns-clause-same
returns-clause-same g c = let G = c.give_sync_beside-member.ensures in
    let L = c.leave_passed.ensures in (L.same.0, L.same.1 ∙ G.same.1)

pub returns-clause-steps : goal.returns-clause-steps
returns-clause-steps g c = let G = c.give_sync_beside-member in
    then_quiet c.args.member.number G.result.number _ _ _ G.ensures.same.1 G.ensures.steps
    c.leave_passed.ensures.steps
