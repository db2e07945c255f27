use Rattle.std.proofs.Common.{ℕ, ◌<◌, ◌^◌, refl, sym, ap, ◌∙◌, subst, ◌≤◌}
use Rattle.op_core.specs.declared.count.Order.TheVariants.{Write}
use Rattle.path_core.specs.declared.event.Carried.TheVariants.{Applied}
use Rattle.path_core.specs.declared.event.Event.TheVariants.{Close}
use Rattle.path_core.specs.Parts.{HoldsNoTurn}
use Rattle.path_rule.specs.declared.view.View.{View}
use Rattle.path_rule.specs.Accepted.{places_of}
use Rattle.path_rule.specs.Issued.{issued_in, opened_in}
use Rattle.path_rule.proofs.seats.Staying.{view_columns, free_stays}
use Rattle.path_flush.specs.OwnWrites.{writes_of}
use Rattle.write_path.proofs.AppliedAt.{are_applied}
use Rattle.write_path.proofs.SmallSets.{bit_below}
use Rattle.write_path.proofs.seats.WritePath.finish.Goals as goal

pub leave_placed-found-requires-clause-placed : goal.leave_placed-found-requires-clause-placed
leave_placed-found-requires-clause-placed g c =
    let s = c.args.seat in record {
      tables = s.tables;
      deposited = s.noted;
      each = λ t touched. let p = c.requires.applied t
          (bit_below c.args.self.now.table.size.tables s.tables t
          (subst (λ (n : ℕ). s.tables < 2 ^ n) (ap (λ z. z.tables) c.requires.table.1) s.few)
          touched) touched in (p.0, p.1);
    }

pub leave_placed-found-requires-clause-applied : goal.leave_placed-found-requires-clause-applied
leave_placed-found-requires-clause-applied g c =
    are_applied c.args.seat c.args.self.now.table.size.tables
    (ap (λ z. z.tables) c.requires.table.1) c.requires.applied

pub invariant_of-result : goal.invariant_of-result
invariant_of-result g c =
    let s = c.args.seat in
    let d = c.leave_placed-found.ensures.step in
    let v = s.member.seat.me.0 in
    let e = Close s.member.number Write s.writing (Applied (places_of v.part)) in
    let C = view_columns v e c.leave_placed-found.result tt in
    record {
      idle = record {
        write = ap (λ (v : View). v.part.write) d.view;
        append = ap (λ (v : View). v.part.append) d.view ∙ s.left;
      };
      unclaimed = ap (λ (v : View). v.part.claim) d.view;
      free = subst (λ (v : View). HoldsNoTurn v.part) (sym d.view)
          (free_stays e v.part _ C refl (λ t b. refl) s.free);
      bare = c.leave_placed-found.ensures.same.2 ∙ s.bare;
      paid = subst (λ (v : View). opened_in v.trail ≤ issued_in v.trail) (sym d.view) s.paid;
    }

pub returns-clause-same : goal.returns-clause-same
returns-clause-same g c =
    let d = c.leave_placed-found.ensures.step in (
      (
        c.leave_placed-found.ensures.same.0 ∙ c.requires.table.0,
        ap (λ (v : View). v.size) d.view ∙ c.requires.table.1,
      ),
      c.leave_placed-found.ensures.same.1,
    )

pub returns-clause-list : goal.returns-clause-list
returns-clause-list g c =
    ap (λ (v : View). writes_of v.trail) c.leave_placed-found.ensures.step.view
