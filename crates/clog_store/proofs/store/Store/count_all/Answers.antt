use Rattle.std.proofs.Common.{sym, subst}
use Rattle.clog_due.specs.Dropping.{ArePlaced}
use Rattle.clog_due.proofs.NotePlaced.{logged_placed}
use Rattle.clog_store.proofs.store.Store.count_all.Goals as goal

pub count-requires-clause-placed : goal.count-requires-clause-placed
count-requires-clause-placed g c =
    subst ArePlaced (sym c.logged.ensures)
    (logged_placed c.self.inside.notes c.tell.ensures.notes)
