use Rattle.std.proofs.Common.{ℕ, List, Contains, get_or, subst, sym, take}
use Rattle.std.specs.Prelude.{◌↔◌}
use Rattle.std.proofs.lemmas.List.{take_all, take_more}
use Rattle.clog_due.proofs.HeldSegments.{left_more}
use Rattle.clog_due.proofs.counted.all_left.Goals as goal

pub loop-ordinal-preserved : goal.loop-ordinal-preserved
loop-ordinal-preserved c =
    let held = c.args.held.now in
    let gone = c.args.gone.now.keys in
    let i = c.loop-ordinal.ordinal-index in
    let now = c.list_left.new.left.items in
    subst (λ (l : List ℕ). (o : ℕ) → Contains now o ↔ (Contains l o × (Contains gone o → ⊥)))
    (sym (take_more held i 0 c.loop-ordinal-test.true))
    (left_more (take i held) c.loop-ordinal.left.items now gone (get_or held i 0)
    c.loop-ordinal.invariant c.in_ok-list_left.ensures)

pub returns : goal.returns
returns c =
    subst (λ (l : List ℕ). (o : ℕ) → Contains c.loop-ordinal.left.items o
    ↔ (Contains l o × (Contains c.args.gone.now.keys o → ⊥)))
    (take_all c.loop-ordinal.ordinal-index c.args.held.now c.loop-ordinal-test.false)
    c.loop-ordinal.invariant
