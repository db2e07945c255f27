use Rattle.std.proofs.Common.{ap, arith}
use Rattle.op_order.specs.Parts.{read_of}
use Rattle.op_order.proofs.Readers.{looks_current}
use Rattle.op_order.proofs.table.OpOrder.look_current.Goals as goal

pub load-requires : goal.load-requires
load-requires g c = let t = c.args.self.now in let z = c.args.seat.now in
    let k = t.table.shared.key.places in let n = t.table.shared.table_id.slots in
    let wide = t.wide in (
      c.requires.0,
      omega arith,
      looks_current g.F.Fact.fits k n z.id z.me (read_of z) (ap (λ m. m.0) c.requires.1),
    )
