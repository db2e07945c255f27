use Rattle.std.proofs.Common.{◌≡◌, ℕ, suc, ◌+◌, ◌-◌, ◌%◌, ◌^◌, List, sym, ap, ◌∙◌, subst, ap₂}
use Rattle.std.proofs.Common.{arith}
use mathlib.Core.Option.{none}
use Rattle.atomic_table.specs.Table.{step, Allows}
use Rattle.op_order.specs.declared.view.View.TheVariants.{Reads}
use Rattle.op_order.specs.Rule.{Ruled, count_at}
use Rattle.op_order.specs.Parts.{read_of}
use Rattle.op_order.specs.Told as told
use Rattle.op_order.proofs.Registers.{stops}
use Rattle.op_order.proofs.table.OpOrder.stop.Goals as goal

pub fetch_sub-requires : goal.fetch_sub-requires
fetch_sub-requires g c = let t = c.args.self.now in let z = c.args.seat.now in
    let k = t.table.shared.key.places in let n = t.table.shared.table_id.slots in
    let wide = t.wide in
    let inside = c.requires.count.1 in
    let at : c.args.count ≡ count_at k c.args.group = c.requires.count.0
    ∙ ap (λ p. 10 + p + c.args.group % suc p) (sym t.keyed) in (
      c.requires.seat.0,
      omega arith,
      subst (λ (i : ℕ). Allows (Ruled g.F.Fact.fits k) n z.id z.me i
          (λ n'. (n' + (2 ^ 64 - 1)) % 2 ^ 64)
          (told.stopped (step n i 1 0 none) z.me)) (sym at)
          (stops g.F.Fact.fits k n z.id z.me (read_of z) (ap (λ m. m.0) c.requires.seat.1)
          c.args.group c.requires.group),
    )

pub returns : goal.returns
returns g c = let z = c.args.seat.now in
    let q = c.fetch_sub.ensures.2 (read_of z) (ap (λ m. m.0) c.requires.seat.1) in (
      c.fetch_sub.result,
      (
        c.fetch_sub.ensures.0,
        q ∙ ap₂ (λ (i : ℕ) (l : List (ℕ × ℕ)).
            (Reads (told.without_group i c.fetch_sub.result (read_of z)), l)) c.requires.count.0
            (ap (λ m. m.1) c.requires.seat.1),
      ),
    )
