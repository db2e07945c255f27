use Rattle.std.proofs.Common.{◌-◌, ◌≡◌, ◌+◌}
use Rattle.op_order.specs.Owners.{values_of, looks_of, finished_from}
use Rattle.op_order.proofs.table.OpOrder.reclaim.Given as goal

abbrev pub invariant-loop-owner : goal.invariant-loop-owner
invariant-loop-owner g l = (l.owner.seat.table_id ≡ l.fn.owner.seat.table_id)
    × (l.owner.places ≡ l.fn.owner.places) × (l.owner.sequence ≡ l.fn.owner.sequence)
    × (values_of l.owner ≡ values_of l.fn.owner)
    × (l.owner.oldest ≡ l.fn.owner.oldest + l.freed)
    × (looks_of l.owner ≡ finished_from l.fn.owner.places l.fn.owner.oldest l.freed
    (looks_of l.fn.owner))

abbrev pub decreases-loop-owner : goal.decreases-loop-owner
decreases-loop-owner g l = l.owner.sequence - l.owner.oldest
