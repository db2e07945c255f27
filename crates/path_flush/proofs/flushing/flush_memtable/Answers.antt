use Rattle.std.proofs.Common.{arith}
use Rattle.path_flush.proofs.FilingGoes.{unswitched}
use Rattle.path_flush.proofs.FlushAnswers.{busy, later, took_all}
use Rattle.path_flush.proofs.FlushGoes.{issued_by}
use Rattle.path_flush.proofs.FlushPays.{paid_quiet}
use Rattle.path_flush.proofs.flushing.flush_memtable.Goals as goal

pub returns-in-Err-clause-flushes : goal.returns-in-Err-clause-flushes
returns-in-Err-clause-flushes g c = let step = c.in-Err.ensures.step in
    busy c.args.seat.member.number c.in-Err.found c.args.table c.args.seat.member.seat.me.0
    c.in-Err.seat.member.seat.me.0 step.1 step.0

pub flush_taken-requires-clause-numbers : goal.flush_taken-requires-clause-numbers
flush_taken-requires-clause-numbers g c = let Q = c.in-Ok.ensures.step in
    let w = c.args.seat.member.number in let few = issued_by w _ _ Q.made in
    let low = c.requires.spends in
    (paid_quiet w _ _ Q c.args.seat.paid, omega (arith, few, low))

pub returns-in-Ok-clause-flushes : goal.returns-in-Ok-clause-flushes
returns-in-Ok-clause-flushes g c = let O = c.in-Ok in let F = c.flush_taken in
    let w = c.args.seat.member.number in let v = c.args.seat.member.seat.me.0 in
    let t = c.args.table.0 in
    took_all w t v F.result.0.member.seat.me.0 F.result.1 F.ensures.had
    (later w O.member.number t v O.member.seat.me.0 F.result.0.member.seat.me.0 F.result.1
    O.ensures.same.1 (unswitched w v O.member.seat.me.0 O.ensures.step) F.ensures.had
    F.ensures.flushes)
