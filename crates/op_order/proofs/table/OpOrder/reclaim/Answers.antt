use Rattle.std.proofs.Common.{rules, ℕ, suc, List, ◌∷◌, sym, ap, ◌∙◌, to_z-of_z, arith}
use Rattle.op_core.specs.declared.count.Tally.TheVariants.{Expired}
use Rattle.op_core.specs.CountWords.{count_word}
use Rattle.op_order.specs.declared.view.WordStep.{WordStep}
use Rattle.op_order.specs.Owners.{looks_of}
use Rattle.op_order.specs.Rule.{count_at}
use Rattle.op_order.specs.Told.{looked_at, HasLeft}
use Rattle.op_order.proofs.Windows.{advance_frees}
use Rattle.op_order.proofs.table.OpOrder.reclaim.Goals as goal

pub returns-then-owner-group-clause-reclaimed : goal.returns-then-owner-group-clause-reclaimed
returns-then-owner-group-clause-reclaimed g c =
    let l = c.loop-owner in let E = c.advance_once-found.ensures in
    let group = l.owner.oldest in let found = c.advance_once-found.result in
    let left : HasLeft group found = E.stays c.if-owner-group.true in
    let told = c.count_in.ensures group (Expired (suc left.0)) left.3 (omega arith) left.1 in
    record {
      published = search rules;
      values = search rules;
      freed = search rules;
      places = let w = c.args.owner.now in advance_frees w.places w.oldest w.sequence l.freed
          w.rests.5 (let below = c.loop-owner-test.true in let at = l.invariant.4 in
          let same = l.invariant.2 in omega arith);
      stops = (
        search rules,
        search rules,
        (
          left.0,
          (grind (arith, to_z-of_z)) ∙ told,
          E.look
              ∙ (ap (λ (p : ℕ). looked_at (count_at p group) found ∷ looks_of l.owner)
              (sym E.owner.0.1)
              ∙ (ap (λ (n : ℕ). looked_at (count_at c.advance_once-found.new.owner.places group)
              n ∷ looks_of l.owner) left.1
              ∙ ap (λ (t : List WordStep). looked_at
              (count_at c.advance_once-found.new.owner.places group)
              (count_word group (Expired (suc left.0))) ∷ t) l.invariant.5)),
        ),
      );
    }
