use Rattle.std.proofs.Common.{sym, ◌∙◌, arith}
use Rattle.path_flush.proofs.FilingGoes.{then_unswitched, unswitched}
use Rattle.path_flush.proofs.FlushAnswers.{later, left_then, left_turn, more_flushed}
use Rattle.path_flush.proofs.FlushGoes.{issued_by}
use Rattle.path_flush.proofs.FlushPays.{paid_on, paid_quiet}
use Rattle.path_flush.proofs.flushing.flush_taken.Goals as goal

pub flush_newest-requires-clause-settled : goal.flush_newest-requires-clause-settled
flush_newest-requires-clause-settled g c = c.look_memtables.ensures.stage ∙ c.requires.settled

pub flush_newest-requires-clause-turn : goal.flush_newest-requires-clause-turn
flush_newest-requires-clause-turn g c = let K = c.in-Free.ensures.known in (K.2, K.1, K.0)

pub flush_newest-requires-clause-numbers : goal.flush_newest-requires-clause-numbers
flush_newest-requires-clause-numbers g c = let Q = c.look_memtables.ensures.steps in
    let w = c.args.member.number in let few = issued_by w _ _ Q.made in
    let low = c.requires.numbers.1 in
    (paid_quiet w _ _ Q c.requires.numbers.0, omega (arith, few, low))

pub returns-in-Free-clause-flushes : goal.returns-in-Free-clause-flushes
returns-in-Free-clause-flushes g c = let F = c.in-Free.ensures.found in
    let N = c.flush_newest in
    more_flushed c.args.member.number c.args.table.0 c.args.member.seat.me.0
    N.result.0.member.seat.me.0 N.result.1 (omega arith)
    (N.ensures.flushes c.args.member.number c.args.member.seat.me.0 F.0
    c.look_memtables.ensures.same.1 F.1)

pub flush_left-member-requires-clause-there : goal.flush_left-member-requires-clause-there
flush_left-member-requires-clause-there g c = c.in-Left.ensures.known.0

pub flush_left-member-requires-clause-left : goal.flush_left-member-requires-clause-left
flush_left-member-requires-clause-left g c = let K = c.in-Left.ensures.known in (K.1, K.2)

pub flush_left-member-requires-clause-settled : goal.flush_left-member-requires-clause-settled
flush_left-member-requires-clause-settled g c = c.look_memtables.ensures.stage ∙ c.requires.settled

pub flush_left-member-requires-clause-spends : goal.flush_left-member-requires-clause-spends
flush_left-member-requires-clause-spends g c =
    let few = issued_by c.args.member.number _ _ c.look_memtables.ensures.steps.made in
    let low = c.requires.numbers.1 in omega (arith, few, low)

pub flush_alone-requires-clause-numbers : goal.flush_alone-requires-clause-numbers
flush_alone-requires-clause-numbers g c = let L = c.look_memtables in let F = c.flush_left-member in
    let w = c.args.member.number in let z = L.new.member.number in
    let R = F.ensures.passed.retired.steps.made in
    let first = issued_by w _ _ L.ensures.steps.made in let then = issued_by z _ _ R.made in
    let low = c.requires.numbers.1 in (
      paid_on z _ _ R (paid_quiet w _ _ L.ensures.steps c.requires.numbers.0),
      omega (arith, first, then, low),
    )

pub returns-in-None-clause-flushes : goal.returns-in-None-clause-flushes
returns-in-None-clause-flushes g c = let L = c.look_memtables in let F = c.flush_left-member in
    let w = c.args.member.number in let z = L.new.member.number in
    let y = F.result.0.number in let v = c.args.member.seat.me.0 in
    let u = L.new.member.seat.me.0 in let x = F.result.0.seat.me.0 in let N = c.flush_alone in
    let number = L.ensures.same.1 in
    later w y c.args.table.0 v x N.result.0.member.seat.me.0 N.result.1
    (F.ensures.same.1 ∙ number)
    (then_unswitched w z v u x number (unswitched w v u L.ensures.steps)
    F.ensures.passed.retired.steps.made) N.ensures.had N.ensures.flushes

pub leave_table-requires-clause-paid : goal.leave_table-requires-clause-paid
leave_table-requires-clause-paid g c = let L = c.look_memtables in let F = c.flush_left-member in
    paid_on L.new.member.number _ _ F.ensures.passed.retired.steps.made
    (paid_quiet c.args.member.number _ _ L.ensures.steps c.requires.numbers.0)

pub returns-in-Some-clause-had : goal.returns-in-Some-clause-had
returns-in-Some-clause-had g c = let L = c.look_memtables in let F = c.flush_left-member in
    let P = F.ensures.passed in
    left_turn L.new.member.number c.args.table.0 c.before.before.before.in-Left.memtable
    L.new.member.seat.me.0
    F.result.0.seat.me.0 c.in-Some.answer P.told (sym c.in-Some.is ∙ P.is) P.retired

pub returns-in-Some-clause-flushes : goal.returns-in-Some-clause-flushes
returns-in-Some-clause-flushes g c = let L = c.look_memtables in let F = c.flush_left-member in
    let w = c.args.member.number in let z = L.new.member.number in let t = c.args.table.0 in
    let v = c.args.member.seat.me.0 in let u = L.new.member.seat.me.0 in
    let x = F.result.0.seat.me.0 in let after = c.leave_table.result.member.seat.me.0 in
    let a = c.in-Some.answer in let P = F.ensures.passed in
    let is = sym c.in-Some.is ∙ P.is in let m = c.before.before.before.in-Left.memtable in
    more_flushed w t v after a (omega arith)
    (later w z t v u after a L.ensures.same.1 (unswitched w v u L.ensures.steps)
    (left_turn z t m u x a P.told is P.retired)
    (left_then z F.result.0.number t m u x after a P.told F.ensures.same.1 is
    P.retired c.leave_table.ensures.steps))
