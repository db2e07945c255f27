use Rattle.std.proofs.Common.{◌≤◌, refl, sym, ap, ◌∙◌, subst}
use Rattle.op_core.specs.declared.count.Order.TheVariants.{Write}
use Rattle.path_core.specs.declared.event.Carried.TheVariants.{Nothing}
use Rattle.path_core.specs.declared.event.Event.TheVariants.{Close}
use Rattle.path_core.specs.Parts.{HoldsNoTurn}
use Rattle.path_rule.specs.declared.view.View.{View}
use Rattle.path_rule.specs.Issued.{issued_in, opened_in}
use Rattle.path_rule.proofs.seats.Staying.{view_columns, free_stays}
use Rattle.path_table.proofs.table.PathTable.stop.Goals as goal

pub invariant_of-result : goal.invariant_of-result
invariant_of-result g c = let s = c.args.seat in let d = c.leave-found.ensures.step in
    let v = s.member.seat.me.0 in let e = Close s.member.number Write s.group Nothing in
    let C = view_columns v e c.leave-found.result tt in record {
      idle = record {
        write = ap (λ (v : View). v.part.write) d.view;
        append = ap
            (λ (v : View). v.part.append) d.view ∙ s.outside;
      };
      unclaimed = ap (λ (v : View). v.part.claim) d.view;
      free = subst (λ (v : View). HoldsNoTurn v.part) (sym d.view)
          (free_stays e v.part _ C refl (λ t b. refl) s.free);
      bare = c.leave-found.ensures.same.2 ∙ s.bare;
      paid = subst (λ (v : View). opened_in v.trail ≤ issued_in v.trail) (sym d.view) s.paid;
    }
