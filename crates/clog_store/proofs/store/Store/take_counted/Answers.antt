use Rattle.std.proofs.Common.{sym, subst, ◌∙◌}
use Rattle.std.specs.Prelude.{IfOk, Result}
use Rattle.clog_base.specs.declared.fault.OutOfMemory.{OutOfMemory}
use Rattle.clog_base.proofs.Follows.{if_ok}
use Rattle.clog_due.specs.declared.counted.Counted.{Counted}
use Rattle.clog_due.specs.Counting.{IsCounted, IsCountedIn}
use Rattle.clog_segments.specs.StoreState.{StoreState}
use Rattle.clog_due.proofs.HeldSegments.{counted_none}
use Rattle.clog_store.proofs.store.Store.take_counted.Goals.{in-None, in-Some}
use Rattle.clog_store.proofs.store.Store.take_counted.Goals as goal

pub returns-clause-counted : goal.returns-clause-counted
returns-clause-counted g c =
    let i = c.self.inside in
    let s = c.args.self.now in
    elim c.match-take.branch [
      | in-Some w ↦ subst (λ (r : Result Counted OutOfMemory).
          IfOk r (IsCounted s.notes.logged s.files s.dropped)) (sym w.result-is)
          (subst (λ (x : StoreState g.row.D.Denot).
          IsCounted x.notes.logged x.files x.dropped w.in-Some.counted) c.self.view_is
          (subst (IsCountedIn i.notes.logged i.files.items i.dropped.items)
          (sym c.take.ensures.value ∙ w.in-Some.is) c.self.invariant.3))
      | in-None w ↦ subst (λ (r : Result Counted OutOfMemory).
          IfOk r (IsCounted s.notes.logged s.files s.dropped)) (sym w.result-is)
          (if_ok w.nothing.result _ _ w.nothing.ensures
          (counted_none s.notes.logged s.files s.dropped))
    ]
