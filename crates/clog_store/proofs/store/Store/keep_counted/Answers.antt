use Rattle.std.proofs.Common.{sym, subst}
use Rattle.clog_due.specs.Counting.{IsCounted}
use Rattle.clog_segments.specs.StoreState.{StoreState}
use Rattle.clog_due.proofs.HeldSegments.{counted_first}
use Rattle.clog_store.proofs.store.Store.keep_counted.Goals as goal

pub invariant_of-self : goal.invariant_of-self
invariant_of-self g c =
    let s = c.args.self.now in (
      c.self.invariant.0,
      c.self.invariant.1,
      c.self.invariant.2,
      subst (λ (x : StoreState g.row.D.Denot).
          IsCounted x.notes.logged x.files x.dropped c.args.counted) (sym c.self.view_is)
          (counted_first s.notes.logged s.files s.dropped c.args.counted c.requires),
    )
