use Rattle.std.proofs.Common.{◌≡◌, ℕ, suc, ◌+◌, ◌%◌, List, sym, ap, ◌∙◌, subst, ap₂, arith}
use mathlib.Core.Option.{none}
use Rattle.atomic_table.specs.Table.{step, Allows}
use Rattle.op_order.specs.declared.view.View.TheVariants.{Reads}
use Rattle.op_order.specs.Rule.{Ruled, count_at}
use Rattle.op_order.specs.Parts.{read_of}
use Rattle.op_order.specs.Told as told
use Rattle.op_order.proofs.Readers.{looks_count}
use Rattle.op_order.proofs.table.OpOrder.look_count.Goals as goal

pub load-requires : goal.load-requires
load-requires g c = let t = c.args.self.now in let z = c.args.seat.now in
    let k = t.table.shared.key.places in let n = t.table.shared.table_id.slots in
    let wide = t.wide in
    let inside = c.requires.count.1 in
    let at : c.args.count ≡ count_at k c.args.group = c.requires.count.0
    ∙ ap (λ p. 10 + p + c.args.group % suc p) (sym t.keyed) in (
      c.requires.seat.0,
      omega arith,
      subst (λ (i : ℕ). Allows (Ruled g.F.Fact.fits k) n z.id z.me i (λ n'. n')
          (told.saw_count (step n i 0 0 none) z.me)) (sym at)
          (looks_count g.F.Fact.fits k n z.id z.me (read_of z) (ap (λ m. m.0) c.requires.seat.1)
          c.args.group),
    )

pub returns-clause-step : goal.returns-clause-step
returns-clause-step g c = let z = c.args.seat.now in
    let q = c.load.ensures.2.0 (read_of z) (ap (λ m. m.0) c.requires.seat.1) in (
      c.load.ensures.0,
      q ∙ ap₂ (λ (i : ℕ) (l : List (ℕ × ℕ)).
          (Reads (told.with_step i c.load.result (read_of z)), l)) c.requires.count.0
          (ap (λ m. m.1) c.requires.seat.1),
    )
