use Rattle.std.proofs.Common.{◌≡◌}
use Rattle.op_order.specs.Owners.{IsOwnerOf}
use Rattle.order_run.proofs.owner.publish_all.Given as goal

abbrev pub invariant-loop : goal.invariant-loop
invariant-loop g l = IsOwnerOf l.order.table.shared.table_id l.order.places l.owner
    × (l.owner.sequence ≡ l.counter) × (l.owner.oldest ≡ l.freed)
