use Rattle.std.proofs.Common.{refl}
use Rattle.path_core.specs.declared.event.Event.TheVariants.{GiveTurn}
use Rattle.path_core.specs.declared.event.Turn.TheVariants.{Flush}
use Rattle.path_flush.proofs.FlushGoes.{one}
use Rattle.path_flush.proofs.switching.leave_table.Goals as goal

pub returns-clause-steps : goal.returns-clause-steps
returns-clause-steps g c = let w = c.args.member.number in
    let d = c.give_flush_turn.ensures.step in record {
      made = one w (GiveTurn w (Flush c.args.table)) 0 _ _ _ (refl, refl)
          (record { view = d.view; was = d.was });
      none = (tt, tt);
      kept = (tt, tt);
    }
