use Rattle.std.proofs.Common.{ap, arith}
use Rattle.op_order.specs.Parts.{part_of}
use Rattle.op_order.proofs.Barriers.{moves}
use Rattle.op_order.proofs.table.OpOrder.move_current.Goals as goal

pub store-requires : goal.store-requires
store-requires g c = let t = c.args.self.now in let z = c.args.seat.now in
    let k = t.table.shared.key.places in let n = t.table.shared.table_id.slots in
    let wide = t.wide in (
      c.requires.seat.0,
      omega arith,
      moves g.F.Fact.fits k n z.id z.me (part_of z) (ap (λ m. m.0) c.requires.seat.1) c.args.group
          c.requires.stage c.requires.group,
    )
