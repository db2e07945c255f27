use Rattle.std.proofs.Common.{◌≡◌, ◌+◌}
use Rattle.op_order.specs.Owners.{IsOwnerOf}
use Rattle.order_run.proofs.owner.reclaim_all.Given as goal

abbrev pub invariant-loop : goal.invariant-loop
invariant-loop g l = record {
  next : (goal.iterator-loop g).can_next l.iterator';
  finite : (goal.iterator-loop g).is_finite l.iterator';
  owner : IsOwnerOf l.order.table.shared.table_id l.order.places l.owner;
  same : l.owner.sequence ≡ l.fn.owner.sequence;
  freed : l.owner.oldest ≡ l.fn.owner.oldest + l.freed;
}
