use Rattle.std.proofs.Common.{refl, sym, ap, ◌∙◌, subst, ◌≤◌}
use Rattle.atomic_table.specs.Table.{rest}
use Rattle.op_core.specs.declared.count.Order.TheVariants.{Append}
use Rattle.path_core.specs.declared.event.Carried.TheVariants.{Nothing}
use Rattle.path_core.specs.declared.event.Event.TheVariants.{Close}
use Rattle.path_core.specs.Parts.{HoldsNoTurn}
use Rattle.path_rule.specs.declared.view.View.{View}
use Rattle.path_rule.specs.Boxes.{box_of}
use Rattle.path_rule.specs.Issued.{issued_in, opened_in}
use Rattle.path_rule.proofs.seats.Staying.{view_columns, free_stays}
use Rattle.write_path.proofs.BoxKept.{carries_notes}
use Rattle.write_path.proofs.seats.WritePath.stop_append.Goals as goal

pub withdraw-found-requires-clause-box_kept : goal.withdraw-found-requires-clause-box_kept
withdraw-found-requires-clause-box_kept g c =
    let s = c.args.seat in
    carries_notes (box_of s.member.number s.group) s.member.seat.me s.carries

pub invariant_of-result : goal.invariant_of-result
invariant_of-result g c =
    let s = c.args.seat in
    let d = c.withdraw-found.ensures.step in
    let v = s.member.seat.me.0 in
    let e = Close s.member.number Append s.group Nothing in
    let C = view_columns v e c.withdraw-found.result tt in
    record {
      inside = ap (λ (v : View). v.part.write) d.view ∙ s.writes;
      outside = ap (λ (v : View). v.part.append) d.view;
      unclaimed = ap (λ (v : View). v.part.claim) d.view ∙ s.unclaimed;
      free = subst (λ (v : View). HoldsNoTurn v.part) (sym d.view)
          (free_stays e v.part _ C refl (λ t b. refl) s.free);
      bare = c.withdraw-found.ensures.same.2 ∙ ap (λ l. rest l) s.carries;
      paid = subst (λ (v : View). opened_in v.trail ≤ issued_in v.trail) (sym d.view) s.paid;
    }
