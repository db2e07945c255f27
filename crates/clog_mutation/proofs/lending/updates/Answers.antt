use Rattle.std.proofs.Common.{[], ◌∷◌, map, ap, ◌∙◌}
use Rattle.std.proofs.lemmas.List.{map-append}
use Rattle.std.proofs.lemmas.Result.{err_from_is_err_and}
use Rattle.clog_mutation.specs.Lent.{update_lent}
use Rattle.clog_mutation.specs.Reading.{update_at, updates_at}
use Rattle.clog_mutation.proofs.LentReading.{fails}
use Rattle.clog_mutation.proofs.Loop.{ends, goes_on, is_done}
use Rattle.clog_mutation.proofs.lending.updates.Goals as goal

pub returns-in_err-update : goal.returns-in_err-update
returns-in_err-update c =
    let p = err_from_is_err_and c.from_residual.result c.from_residual.ensures.1 in
    let fault = c.in_err-update.field-0.0 in
    rw (p.1, p.2)
    (ends fault c.args.end (map update_lent c.loop.updates.items) c.args.count c.loop.counter
    c.loop.rest.now
    (updates_at c.args.end c.args.count c.args.bytes.now) c.loop-test.true
    (fails fault (update_at c.args.end c.loop.rest.now) c.in_err-update.ensures)
    c.loop.invariant)

pub loop-preserved : goal.loop-preserved
loop-preserved c =
    rw (ap (map update_lent) c.in-Ok.ensures.items
    ∙ map-append update_lent c.loop.updates.items (c.in_ok-update.update ∷ []))
    (goes_on c.args.end (map update_lent c.loop.updates.items) c.args.count c.loop.counter
    c.loop.rest.now (update_lent c.in_ok-update.update) c.in_ok-update.after.now
    (updates_at c.args.end c.args.count c.args.bytes.now) c.loop-test.true c.in_ok-update.ensures
    c.loop.invariant)

pub returns : goal.returns
returns c = is_done c.args.end (map update_lent c.loop.updates.items) c.args.count c.loop.counter
    c.loop.rest.now (updates_at c.args.end c.args.count c.args.bytes.now) c.loop-test.false
    c.loop.invariant
