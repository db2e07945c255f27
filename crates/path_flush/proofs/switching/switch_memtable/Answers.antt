use Rattle.std.proofs.Common.{◌∙◌, arith}
use Rattle.path_flush.proofs.FlushGoes.{issued_by}
use Rattle.path_flush.proofs.FlushPays.{paid_quiet}
use Rattle.path_flush.proofs.SwitchAnswers.{busy_is, waits_is}
use Rattle.path_flush.proofs.SwitchGoes.{then_quiet}
use Rattle.path_flush.proofs.switching.switch_memtable.Goals as goal

pub returns-in-Err-clause-switches : goal.returns-in-Err-clause-switches
returns-in-Err-clause-switches g c = let step = c.in-Err.ensures.step in
    busy_is c.args.seat.member.number c.in-Err.found c.args.table c.args.seat.member.seat.me.0
    c.in-Err.seat.member.seat.me.0 step.1 step.0

pub returns-in-Left-clause-switches : goal.returns-in-Left-clause-switches
returns-in-Left-clause-switches g c = let O = c.in-Ok in let M = c.look_memtables in
    let first = O.ensures.same.1 in
    waits_is c.args.seat.member.number O.member.number M.new.member.number c.args.table.0
    c.in-Left.memtable c.args.seat.member.seat.me.0 O.member.seat.me.0 M.new.member.seat.me.0
    c.leave_table.result.member.seat.me.0 first (M.ensures.same.1 ∙ first) O.ensures.step
    c.in-Left.ensures.found c.leave_table.ensures.steps

pub leave_table-requires-clause-paid : goal.leave_table-requires-clause-paid
leave_table-requires-clause-paid g c = let O = c.in-Ok in let M = c.look_memtables in
    paid_quiet O.member.number _ _ M.ensures.steps
    (paid_quiet c.args.seat.member.number _ _ O.ensures.step c.args.seat.paid)

pub switch_newest-requires-clause-turn : goal.switch_newest-requires-clause-turn
switch_newest-requires-clause-turn g c = let K = c.in-Free.ensures.known in (K.2, K.1, K.0)

pub switch_newest-requires-clause-numbers : goal.switch_newest-requires-clause-numbers
switch_newest-requires-clause-numbers g c = let O = c.in-Ok in let M = c.look_memtables in
    let w = c.args.seat.member.number in let z = O.member.number in
    let first = issued_by w _ _ O.ensures.step.made in
    let then = issued_by z _ _ M.ensures.steps.made in let low = c.requires.spends in (
      paid_quiet z _ _ M.ensures.steps (paid_quiet w _ _ O.ensures.step c.args.seat.paid),
      omega (arith, first, then, low),
    )

pub returns-in-Free-clause-switches : goal.returns-in-Free-clause-switches
returns-in-Free-clause-switches g c = let O = c.in-Ok in let M = c.look_memtables in
    let first = O.ensures.same.1 in let w = c.args.seat.member.number in
    let v = c.args.seat.member.seat.me.0 in let u = O.member.seat.me.0 in
    let x = M.new.member.seat.me.0 in
    c.switch_newest.ensures.switches w v
    (then_quiet w O.member.number v u x first O.ensures.step M.ensures.steps)
    (M.ensures.same.1 ∙ first)
