use Rattle.std.proofs.Common.{◌≡◌, ℕ, suc, ◌+◌, ◌*◌, ◌%◌, ◌^◌, ◌<◌, ◌≤◌, eqb, List, sym, ap, ◌∙◌}
use Rattle.std.proofs.Common.{subst, ap₂, arith}
use mathlib.Core.Option.{none}
use prog.Atomic.{either}
use Rattle.atomic_table.specs.Table.{step, Allows}
use Rattle.op_order.specs.declared.view.View.TheVariants.{Reads}
use Rattle.op_order.specs.Rule.{Ruled, count_at}
use Rattle.op_order.specs.Parts.{read_of}
use Rattle.op_order.specs.Told as told
use Rattle.op_order.proofs.Registers.{registers}
use Rattle.op_order.proofs.table.OpOrder.register.Goals as goal

pub compare_exchange-requires : goal.compare_exchange-requires
compare_exchange-requires g c = let t = c.args.self.now in let z = c.args.seat.now in
    let k = t.table.shared.key.places in let n = t.table.shared.table_id.slots in
    let wide = t.wide in
    let inside = c.requires.count.1 in let r = read_of z in let w = c.args.looked in
    let at : c.args.count ≡ count_at k r.current = c.requires.count.0
    ∙ (ap (λ p. 10 + t.places + p % suc t.places) (sym c.requires.group.0)
    ∙ ap (λ p. 10 + p + r.current % suc p) (sym t.keyed)) in
    let low : w < 2 ^ 63 = c.requires.looked.0 in
    let few : w % 65536 ≤ 64 = c.requires.looked.2 in
    let old : w % 65536 + 65536 * r.current ≡ w
    = let f = c.requires.group.0 in let e = c.requires.looked.1 in omega arith in
    let call = λ (i a b : ℕ). Allows (Ruled g.F.Fact.fits k) n z.id z.me i
    (λ n'. either (eqb n' a) b n') (told.registered (step n i a b none) z.me) in (
      c.requires.seat.0,
      omega arith,
      subst (λ (i : ℕ). call i w (w + 1)) (sym at)
          (subst (λ (a : ℕ). call (count_at k r.current) a (w + 1)) old
          (subst (λ (b : ℕ). call (count_at k r.current) (w % 65536 + 65536 * r.current) b)
          (ap suc old ∙ (let e : suc w ≡ w + 1 = omega arith in e))
          (registers g.F.Fact.fits k n z.id z.me (read_of z) (ap (λ m. m.0) c.requires.seat.1)
          (w % 65536) c.requires.idle
          (let f = c.requires.group.0 in let s = c.requires.group.1 in omega arith)
          (omega arith)))),
    )

pub returns-clause-hit : goal.returns-clause-hit
returns-clause-hit g c = λ hit. let z = c.args.seat.now in
    let q = (c.compare_exchange.ensures.2 (read_of z) (ap (λ m. m.0) c.requires.seat.1)).0 hit in (
      c.compare_exchange.ensures.0,
      q ∙ ap₂ (λ (i : ℕ) (l : List (ℕ × ℕ)).
          (Reads (told.with_group i c.compare_exchange.result (read_of z)), l))
          c.requires.count.0
          (ap (λ m. m.1) c.requires.seat.1),
    )

pub returns-clause-miss : goal.returns-clause-miss
returns-clause-miss g c = λ miss. let z = c.args.seat.now in
    let q = (c.compare_exchange.ensures.2 (read_of z) (ap (λ m. m.0) c.requires.seat.1)).1 miss in (
      c.compare_exchange.ensures.0,
      q ∙ ap₂ (λ (i : ℕ) (l : List (ℕ × ℕ)).
          (Reads (told.with_step i c.compare_exchange.result (read_of z)), l))
          c.requires.count.0
          (ap (λ m. m.1) c.requires.seat.1),
    )
