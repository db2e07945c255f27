use Rattle.std.proofs.Common.{ℕ, List, Contains, subst}
use Rattle.std.specs.Prelude.{◌↔◌}
use Rattle.clog_base.proofs.Follows.{if_ok}
use Rattle.clog_due.specs.declared.table_log.TableLog.{TableLog}
use Rattle.clog_due.specs.Dropping.{ArePicked, IsClosedAndGoes}
use Rattle.clog_due.proofs.Due.{due_is}
use Rattle.clog_due.proofs.counted.Counted.due.Goals as goal

pub returns : goal.returns
returns c h placed counted kept =
    let held = c.in_ok-held.held in
    let other = c.in_ok-kept.kept in
    if_ok c.all_due.result _ _ c.all_due.ensures (λ due picked.
    due_is h placed c.args.closed held other c.args.self.now counted
    (subst (λ (l : List ℕ). (o : ℕ) → Contains held.keys o ↔ Contains l o)
    c.deref.ensures.value c.in_ok-held.ensures)
    (λ o. let set = c.in_ok-kept.ensures o in let of_kept = kept o in
    (λ x. of_kept.0 (set.0 x), λ y. set.1 (of_kept.1 y))) due.items
    (subst (λ (l : List TableLog).
    ArePicked (IsClosedAndGoes l other.keys c.args.closed) held.keys due.items)
    c.deref-2.ensures.value picked))
