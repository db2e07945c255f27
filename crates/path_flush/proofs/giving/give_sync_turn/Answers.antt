use Rattle.std.proofs.Common.{◌≤◌, ℕ, List, refl, ap, sym, ◌∙◌, subst}
use Rattle.atomic_table.specs.Table.{rest}
use Rattle.path_core.specs.declared.event.Event.TheVariants.{GiveTurn}
use Rattle.path_core.specs.declared.event.Turn.TheVariants.{Sync}
use Rattle.path_rule.specs.declared.slot.Slot.{Slot}
use Rattle.path_rule.specs.declared.view.View.{View}
use Rattle.path_rule.specs.HandsAfter.{unswept_hands}
use Rattle.path_rule.specs.Issued.{issued_in, opened_in}
use Rattle.path_rule.proofs.seats.RoundsGo.{one_as}
use Rattle.path_flush.proofs.giving.give_sync_turn.Goals as goal

pub invariant_of-result : goal.invariant_of-result
invariant_of-result g c = let m = c.args.member in let d = c.give_sync.ensures.step in
    let r = (one_as m.number (GiveTurn m.number Sync) 0 (unswept_hands m.seat.me.0.hands)
    m.seat.me.0 c.give_sync.new.member.seat.me.0 refl d refl).rests c.requires.holds.rests in
    record {
      idle = r.idle;
      unclaimed = r.unclaimed;
      free = record { sync = ap (λ (v : View). v.part.sync) d.view; flush = r.flush };
      bare = c.give_sync.ensures.same.2
          ∙ ap (λ (l : List (ℕ × Slot g.row.K.Denot)). rest l) c.requires.desk.1;
      paid = subst (λ (v : View). opened_in v.trail ≤ issued_in v.trail) (sym d.view)
          c.requires.paid;
    }
