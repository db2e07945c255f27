use Rattle.std.proofs.Common.{◌≡◌, ◌≢◌, ℕ, suc, ◌+◌, ◌%◌, ◌<◌, List, sym, ap, ◌∙◌, subst, ap₂}
use Rattle.std.proofs.Common.{arith}
use mathlib.Core.Option.{none}
use Rattle.atomic_table.specs.Table.{step, Allows}
use Rattle.op_order.specs.declared.view.Stage.TheVariants.{Rest}
use Rattle.op_order.specs.declared.view.View.TheVariants.{Owns}
use Rattle.op_order.specs.Rule.{Ruled, count_at}
use Rattle.op_order.specs.Parts.{part_of}
use Rattle.op_core.specs.declared.count.Tally.TheVariants.{Expired}
use Rattle.op_core.specs.CountWords.{count_word}
use Rattle.op_order.specs.Told as told
use Rattle.op_order.proofs.Oldest.{sees_oldest}
use Rattle.op_order.proofs.table.OpOrder.look_oldest.Goals as goal

pub load-requires : goal.load-requires
load-requires g c = let t = c.args.self.now in let z = c.args.seat.now in
    let k = t.table.shared.key.places in let n = t.table.shared.table_id.slots in
    let wide = t.wide in
    let inside = c.count_at.ensures.inside in
    let at : c.count_at.result ≡ count_at k (part_of z).oldest = c.count_at.ensures.at
    ∙ (ap (λ p. 10 + t.places + p % suc t.places) (sym c.requires.oldest)
    ∙ ap (λ p. 10 + p + (part_of z).oldest % suc p) (sym t.keyed)) in (
      c.requires.seat.0,
      omega arith,
      subst (λ (i : ℕ). Allows (Ruled g.F.Fact.fits k) n z.id z.me i (λ n'. n')
          (told.saw_oldest (step n i 0 0 none) z.me)) (sym at)
          (sees_oldest g.F.Fact.fits k n z.id z.me (part_of z) (ap (λ m. m.0) c.requires.seat.1)),
    )

pub returns-clause-hit : goal.returns-clause-hit
returns-clause-hit g c = λ hit. let z = c.args.seat.now in
    let q = c.load.ensures.2 (part_of z) (ap (λ m. m.0) c.requires.seat.1) in (
      c.load.ensures.0,
      q.0 (hit ∙ ap (λ (o : ℕ). count_word o (Expired 0)) (sym c.requires.oldest))
          ∙ ap₂ (λ (i : ℕ) (l : List (ℕ × ℕ)).
          (Owns (told.with_gone (told.with_found i c.load.result (part_of z))), l))
          c.count_at.ensures.at (ap (λ m. m.1) c.requires.seat.1),
    )

pub returns-clause-miss : goal.returns-clause-miss
returns-clause-miss g c = λ miss. let z = c.args.seat.now in
    let q = c.load.ensures.2 (part_of z) (ap (λ m. m.0) c.requires.seat.1) in (
      c.load.ensures.0,
      q.1 (λ hit. miss (hit ∙ ap (λ (o : ℕ). count_word o (Expired 0)) c.requires.oldest))
          ∙ ap₂ (λ (i : ℕ) (l : List (ℕ × ℕ)).
          (Owns (told.with_found i c.load.result (part_of z)), l))
          c.count_at.ensures.at (ap (λ m. m.1) c.requires.seat.1),
    )

pub returns-clause-left : goal.returns-clause-left
returns-clause-left g c = let z = c.args.seat.now in
    subst (λ (o : ℕ). (part_of z).stage ≡ Rest → o < (part_of z).current
    → c.load.result ≢ count_word o (Expired 0) → told.HasLeft o c.load.result) c.requires.oldest
    (c.load.ensures.2 (part_of z) (ap (λ m. m.0) c.requires.seat.1)).2
