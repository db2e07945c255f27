use Rattle.std.proofs.Common.{◌≤◌, refl, sym, ap, ◌∙◌, subst}
use Rattle.path_core.specs.declared.event.Event.TheVariants.{Look}
use Rattle.path_core.specs.declared.event.Place.TheVariants.{TurnWord}
use Rattle.path_core.specs.declared.event.Turn.TheVariants.{Sync}
use Rattle.path_rule.specs.declared.view.View.{View}
use Rattle.path_rule.specs.Issued.{issued_in, opened_in}
use Rattle.path_rule.proofs.seats.RoundsGo.{one}
use Rattle.write_path.proofs.seats.WritePath.look_turn.Goals as goal

pub invariant_of-result : goal.invariant_of-result
invariant_of-result g c = let E = c.look_turn-found.ensures in let seat = c.args.seat in
    let R = (one seat.member.number (Look _ (TurnWord Sync)) c.look_turn-found.result _ _ refl
    E.step).rests (record {
      idle = seat.idle;
      unclaimed = seat.unclaimed;
      flush = seat.free.flush;
    }) in record {
      idle = R.idle;
      unclaimed = R.unclaimed;
      free = record {
        sync = ap (λ (u : View). u.part.sync) E.step.view ∙ seat.free.sync;
        flush = R.flush;
      };
      bare = E.same.2 ∙ seat.bare;
      paid = subst (λ (u : View). opened_in u.trail ≤ issued_in u.trail) (sym E.step.view)
          seat.paid;
    }
