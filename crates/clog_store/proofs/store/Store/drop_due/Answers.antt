use Rattle.std.proofs.Common.{sym, subst}
use Rattle.clog_store.specs.StoreTakes.{TakesBehind}
use Rattle.clog_store.proofs.StorePuts.{quiet_on}
use Rattle.clog_store.proofs.StoreTaking.{taking_told}
use Rattle.clog_store.proofs.store.Store.drop_due.Goals as goal

pub returns-clause-quiet : goal.returns-clause-quiet
returns-clause-quiet g c still =
    let is = c.try_drop-outcome.ensures in
    (quiet_on g.D.Disk.faults c.args.self.now.notes.log c.try_drop-outcome.new.self.notes.log
    c.try_drop-outcome.result is.cause is.stops still).1

pub returns-clause-takes : goal.returns-clause-takes
returns-clause-takes g c =
    let t = c.try_drop-outcome.new.self in
    subst (TakesBehind c.args.self.now t c.args.closed) (sym c.told.ensures)
    (taking_told c.args.self.now t c.args.closed _ _ c.try_drop-outcome.result
    c.try_drop-outcome.ensures.takes)
