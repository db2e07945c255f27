use Rattle.std.proofs.Common.{◌≤◌, ap, sym, ◌∙◌, subst, arith}
use Rattle.path_rule.specs.declared.view.View.{View}
use Rattle.path_rule.specs.Issued.{issued_in, opened_in}
use Rattle.path_flush.proofs.FlushHeld.{flush_given, flush_may}
use Rattle.path_flush.proofs.giving.give_flush_turn.Goals as goal

pub give_flush-requires-clause-through : goal.give_flush-requires-clause-through
give_flush-requires-clause-through g c = flush_may c.args.table c.args.member c.requires.holds

pub invariant_of-result : goal.invariant_of-result
invariant_of-result g c = let m = c.args.member in let d = c.give_flush.ensures in
    let H = c.requires.holds in let few = c.args.path.now.fits.few_tables in
    let there = H.there in let of = ap (λ z. z.tables) c.requires.table.1 in record {
      idle = record {
        write = ap (λ (v : View). v.part.write) d.step.view ∙ H.idle.write;
        append = ap (λ (v : View). v.part.append) d.step.view ∙ H.idle.append;
      };
      unclaimed = ap (λ (v : View). v.part.claim) d.step.view ∙ H.unclaimed;
      free = flush_given c.args.table m c.give_flush.new.member (omega (arith, few, there, of)) H
          d.step d.others;
      bare = d.same.2 ∙ H.bare;
      paid = subst (λ (v : View). opened_in v.trail ≤ issued_in v.trail) (sym d.step.view)
          c.requires.paid;
    }
