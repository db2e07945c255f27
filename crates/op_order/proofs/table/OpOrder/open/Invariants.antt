use Rattle.std.proofs.Common.{◌≡◌, ◌≤◌, ◌+◌, length, vec_capacity}
use Rattle.op_order.specs.Opened.{AreNew}
use Rattle.op_order.specs.Operations.{AreOf}
use Rattle.op_order.specs.Parts.{OwnsAs}
use Rattle.op_order.specs.Rule.{first_part}
use Rattle.op_order.proofs.table.OpOrder.open.Given as goal

abbrev pub invariant-loop : goal.invariant-loop
invariant-loop g l = (l.seat.table_id ≡ l.order.table.shared.table_id)
    × OwnsAs l.seat (record (first_part l.first) { seats = 1 + l.counter })
    × (length l.all.items ≡ l.counter) × AreOf l.order.table.shared.table_id l.all.items
    × AreNew l.all.items
    × (l.readers ≤ vec_capacity l.all)
