use Rattle.std.proofs.Common.{◌≡◌, ℕ, ◌+◌, ◌%◌, List, sym, ap, ◌∙◌, subst, ap₂, arith}
use mathlib.Core.Option.{none}
use Rattle.atomic_table.specs.Table.{step, Allows}
use Rattle.op_order.specs.declared.view.View.TheVariants.{Reads}
use Rattle.op_order.specs.Rule.{Ruled, value_at}
use Rattle.op_order.specs.Parts.{read_of}
use Rattle.op_order.specs.Told as told
use Rattle.op_order.proofs.Readers.{looks_value}
use Rattle.op_order.proofs.table.OpOrder.look_value.Goals as goal

pub load-requires : goal.load-requires
load-requires g c = let t = c.args.self.now in let z = c.args.seat.now in
    let k = t.table.shared.key.places in let n = t.table.shared.table_id.slots in
    let wide = t.wide in
    let inside = c.requires.place.1 in
    let at : c.args.place ≡ value_at k c.args.sequence = c.requires.place.0
    ∙ (ap (λ p. 3 + c.args.sequence % p) (sym t.keyed)) in (
      c.requires.seat.0,
      omega arith,
      subst (λ (i : ℕ). Allows (Ruled g.F.Fact.fits k) n z.id z.me i (λ n'. n')
          (told.saw_value g.F.Fact.fits (step n i 0 0 none) z.me)) (sym at)
          (looks_value g.F.Fact.fits k n z.id z.me (read_of z) (ap (λ m. m.0) c.requires.seat.1)
          c.args.sequence c.requires.looked),
    )

pub returns-clause-step : goal.returns-clause-step
returns-clause-step g c = let z = c.args.seat.now in
    let q = (c.load.ensures.2 (read_of z) (ap (λ m. m.0) c.requires.seat.1)).0 in (
      c.load.ensures.0,
      q ∙ ap₂ (λ (i : ℕ) (l : List (ℕ × ℕ)).
          (Reads (told.with_step i c.load.result (read_of z)), l)) c.requires.place.0
          (ap (λ m. m.1) c.requires.seat.1),
    )
