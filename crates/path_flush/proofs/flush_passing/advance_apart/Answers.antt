use Rattle.std.proofs.Common.{[], ap, ◌∙◌}
use Rattle.path_rule.specs.declared.view.Hands.{Hands}
use Rattle.path_rule.specs.Lasts.{shows_of}
use Rattle.path_rule.proofs.seats.RoundsGo.{next}
use Rattle.path_flush.proofs.FilingTurns.{barred_quiet, barred_same, both_round}
use Rattle.path_flush.proofs.FlushBarring.{desk_still}
use Rattle.path_flush.proofs.SwitchGoes.{quiet_round, stage_same, then_quiet}
use Rattle.path_flush.proofs.flush_passing.advance_apart.Goals as goal

pub give_sync_beside-requires-clause-table : goal.give_sync_beside-requires-clause-table
give_sync_beside-requires-clause-table g c = let S = c.in-Ok.ensures.same in
    let A = c.try_advance-tried.ensures in (A.same.0 ∙ S.0.0, A.same.3 ∙ S.0.1)

pub give_sync_beside-requires-clause-holds : goal.give_sync_beside-requires-clause-holds
give_sync_beside-requires-clause-holds g c = let shows = shows_of g.K.Keeper.holds in
    let t = c.args.table.0 in let m = c.in-Ok.member in let O = c.in-Ok.ensures in
    let A = c.try_advance-tried in let a = A.new.member.seat.me in
    let p = c.args.member.seat.me.0.part in let q = m.seat.me.0.part in
    both_round shows m.seat.me a m.number t [] A.ensures.steps
    (barred_quiet t q (barred_same t p q (stage_same t p q (O.tables t)) c.requires.barred))
    A.ensures.turn (desk_still shows m.seat.me.0.hands a.0.hands m.seat.me.1 a.1 A.ensures.hands
    A.ensures.same.2 O.holds.desk) O.holds.holder

pub returns-in-Ok-clause-same : goal.returns-in-Ok-clause-same
returns-in-Ok-clause-same g c = let S = c.in-Ok.ensures.same in
    let A = c.try_advance-tried.ensures in let G = c.give_sync_beside.ensures in
    (G.same.0, G.same.1 ∙ (A.same.1 ∙ S.1))

pub returns-in-Ok-clause-steps : goal.returns-in-Ok-clause-steps
returns-in-Ok-clause-steps g c = let O = c.in-Ok.ensures in let A = c.try_advance-tried in
    let w = c.args.member.number in let m = c.in-Ok.member in let z = A.new.member.number in
    let v = c.args.member.seat.me.0 in let u = m.seat.me.0 in let x = A.new.member.seat.me.0 in
    let after = c.give_sync_beside.result.seat.me.0 in
    then_quiet w z v x after (A.ensures.same.1 ∙ O.same.1)
    (quiet_round w [] v x (next w m.number [] [] v u x O.same.1 O.steps A.ensures.steps))
    c.give_sync_beside.ensures.steps

pub returns-in-Ok-clause-table : goal.returns-in-Ok-clause-table
returns-in-Ok-clause-table g c = let t = c.args.table.0 in let O = c.in-Ok.ensures in
    let p = c.args.member.seat.me.0.part in let q = c.in-Ok.member.seat.me.0.part in
    c.give_sync_beside.ensures.tables t ∙ (c.try_advance-tried.ensures.steps.tables t
    (barred_quiet t q (barred_same t p q (stage_same t p q (O.tables t)) c.requires.barred))
    ∙ O.tables t)

pub returns-in-Ok-clause-reading : goal.returns-in-Ok-clause-reading
returns-in-Ok-clause-reading g c = c.give_sync_beside.ensures.reading
    ∙ (ap (λ (h : Hands). h.reading) c.try_advance-tried.ensures.hands
    ∙ c.in-Ok.ensures.steps.reading)

pub returns-in-Err-clause-steps : goal.returns-in-Err-clause-steps
returns-in-Err-clause-steps g c = quiet_round c.args.member.number [] _ _ c.in-Err.ensures.steps

pub returns-in-Err-clause-table : goal.returns-in-Err-clause-table
returns-in-Err-clause-table g c = c.in-Err.ensures.tables c.args.table.0

pub returns-in-Err-clause-reading : goal.returns-in-Err-clause-reading
returns-in-Err-clause-reading g c = c.in-Err.ensures.steps.reading
