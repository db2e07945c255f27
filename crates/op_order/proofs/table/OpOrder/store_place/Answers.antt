use Rattle.std.proofs.Common.{◌≡◌, ℕ, suc, ◌+◌, ◌%◌, sym, ap, ◌∙◌, subst, arith}
use mathlib.Core.Option.{none}
use Rattle.atomic_table.specs.Table.{step, Allows}
use Rattle.op_order.specs.Rule.{Ruled, value_at}
use Rattle.op_order.specs.Parts.{part_of}
use Rattle.op_order.specs.Told as told
use Rattle.op_order.proofs.Publishing.{stores}
use Rattle.op_order.proofs.table.OpOrder.store_place.Goals as goal

pub store-requires : goal.store-requires
store-requires g c = let t = c.args.self.now in let z = c.args.seat.now in
    let k = t.table.shared.key.places in let n = t.table.shared.table_id.slots in
    let wide = t.wide in
    let inside = c.value_at.ensures.inside in
    let at : c.value_at.result ≡ value_at k (suc (part_of z).sequence) = c.value_at.ensures.at
    ∙ (ap (λ s. 3 + s % t.places) c.requires.next.0 ∙ ap (λ p. 3 + suc (part_of z).sequence % p)
    (sym t.keyed)) in (
      c.requires.seat.0,
      omega arith,
      subst (λ (i : ℕ). Allows (Ruled g.F.Fact.fits k) n z.id z.me i (λ _. c.args.value)
          (λ _. told.stored (step n i c.args.value 0 none) z.me c.args.value)) (sym at)
          (stores g.F.Fact.fits k n z.id z.me (part_of z) (ap (λ m. m.0) c.requires.seat.1)
          c.args.value c.requires.rests
          (subst (λ s. g.F.Fact.fits s c.args.value) c.requires.next.0 c.requires.fits)
          (let a = c.requires.next.0 in let b = c.requires.next.1 in let e = t.keyed in omega arith)
          (let a = c.requires.next.0 in let b = c.requires.next.2 in omega arith)),
    )
