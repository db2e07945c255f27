use Rattle.std.proofs.Common.{◌≡◌, ℕ, suc, ◌+◌, ◌%◌, ◌^◌, sym, ap, ◌∙◌, subst, arith}
use mathlib.Core.Option.{none}
use Rattle.atomic_table.specs.Table.{step, Allows}
use Rattle.op_order.specs.Rule.{Ruled, count_at}
use Rattle.op_order.specs.Parts.{part_of}
use Rattle.op_order.specs.Told as told
use Rattle.op_order.proofs.Barriers.{expires}
use Rattle.op_order.proofs.table.OpOrder.expire.Goals as goal

pub fetch_add-requires : goal.fetch_add-requires
fetch_add-requires g c = let t = c.args.self.now in let z = c.args.seat.now in
    let k = t.table.shared.key.places in let n = t.table.shared.table_id.slots in
    let wide = t.wide in
    let inside = c.count_at.ensures.inside in
    let at : c.count_at.result ≡ count_at k c.args.group = c.count_at.ensures.at
    ∙ ap (λ p. 10 + p + c.args.group % suc p) (sym t.keyed) in (
      c.requires.seat.0,
      omega arith,
      subst (λ (i : ℕ). Allows (Ruled g.F.Fact.fits k) n z.id z.me i (λ n'. (n' + 2 ^ 63) % 2 ^ 64)
          (told.expired_group (step n i (2 ^ 63) 0 none) z.me)) (sym at)
          (expires g.F.Fact.fits k n z.id z.me (part_of z) (ap (λ m. m.0) c.requires.seat.1)
          c.args.group c.requires.stage c.requires.group),
    )
