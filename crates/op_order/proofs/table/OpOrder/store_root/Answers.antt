use Rattle.std.proofs.Common.{ℕ, ◌+◌, ◌*◌, ◌%◌, sym, ap, ◌∙◌, subst, arith}
use mathlib.Core.Option.{none}
use Rattle.atomic_table.specs.Table.{step, Allows}
use Rattle.op_order.specs.Rule.{Ruled}
use Rattle.op_order.specs.Parts.{part_of}
use Rattle.op_order.specs.Told as told
use Rattle.op_order.proofs.Publishing.{roots}
use Rattle.op_order.proofs.table.OpOrder.store_root.Goals as goal

pub store-requires : goal.store-requires
store-requires g c = let t = c.args.self.now in let z = c.args.seat.now in
    let k = t.table.shared.key.places in let n = t.table.shared.table_id.slots in
    let wide = t.wide in
    let p = part_of z in
    let word = λ (i : ℕ). Allows (Ruled g.F.Fact.fits k) n z.id z.me 0 (λ _. i)
    (λ _. told.rooted (step n 0 i 0 none) z.me i) in (
      c.requires.seat.0,
      omega arith,
      subst word (ap (λ s. 1024 * s + s % k) (sym c.requires.next.0)
          ∙ ap (λ q. 1024 * c.args.next + c.args.next % q) t.keyed)
          (roots g.F.Fact.fits k n z.id z.me (part_of z) (ap (λ m. m.0) c.requires.seat.1)
          c.requires.stage),
    )
