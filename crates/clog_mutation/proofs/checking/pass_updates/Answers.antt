use Rattle.std.proofs.lemmas.Result.{err_from_is_err_and}
use Rattle.clog_mutation.specs.Reading.{passed, updates_at}
use Rattle.clog_mutation.proofs.Passed.{goes_on, ends, is_done}
use Rattle.clog_mutation.proofs.checking.pass_updates.Goals as goal

pub returns-in_err-rest : goal.returns-in_err-rest
returns-in_err-rest c =
    let p = err_from_is_err_and c.from_residual.result c.from_residual.ensures.1 in
    rw (p.1, p.2)
    (ends c.args.end c.args.count c.loop.counter c.loop.rest.now
    (passed (updates_at c.args.end c.args.count c.args.bytes.now)) c.loop.invariant
    c.in_err-rest.field-0.0 c.loop-test.true c.in_err-rest.ensures)

pub loop-preserved : goal.loop-preserved
loop-preserved c =
    goes_on c.args.end c.args.count c.loop.counter c.loop.rest.now
    (passed (updates_at c.args.end c.args.count c.args.bytes.now)) c.loop.invariant
    c.in_ok-rest.rest.now c.loop-test.true c.in_ok-rest.ensures

pub returns : goal.returns
returns c =
    is_done c.args.end c.args.count c.loop.counter c.loop.rest.now
    (passed (updates_at c.args.end c.args.count c.args.bytes.now)) c.loop.invariant
    c.loop-test.false
