use Rattle.std.proofs.Common.{
  ◌≡◌,
  ◌+◌,
  ◌++◌,
  [],
  ◌∷◌,
  length,
  length-append,
  sym,
  ap,
  ◌∙◌,
  subst,
}
use Rattle.path_rule.specs.declared.slot.Slot.TheVariants.{Notes}
use Rattle.path_rule.specs.FirstBoxes.{AreEmpty}
use Rattle.path_rule.proofs.seats.Begins.{empty_more}
use Rattle.path_table.proofs.opening.empty_boxes.Goals as goal

pub loop-preserved : goal.loop-preserved
loop-preserved g c = let i = c.loop.invariant in let l = c.new.result in
    let items : c.push.new.self.items ≡ c.loop.boxes.items ++ Notes l ∷ [] =
    c.in_ok-push.ensures.items in record {
      many = ap length items ∙ (length-append c.loop.boxes.items (Notes l ∷ [])
          ∙ ap (λ n. n + 1) i.many);
      empty = subst AreEmpty (sym items)
          (empty_more c.loop.boxes.items l c.new.ensures i.empty);
    }
