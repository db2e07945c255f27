use Rattle.std.proofs.Common.{ap, arith}
use Rattle.op_order.specs.Parts.{part_of}
use Rattle.op_order.proofs.Begins.{deals}
use Rattle.op_order.proofs.table.OpOrder.deal.Goals as goal

pub split_seat-seat-requires : goal.split_seat-seat-requires
split_seat-seat-requires g c = let t = c.args.self.now in let z = c.args.seat.now in
    let wide = t.wide in (
      c.requires.seat.0,
      omega arith,
      deals g.F.Fact.fits t.table.shared.key.places z.id z.me.0 (part_of z)
          (ap (λ m. m.0) c.requires.seat.1) c.requires.few,
    )
