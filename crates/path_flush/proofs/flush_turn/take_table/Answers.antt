use Rattle.std.proofs.Common.{◌<◌, refl, sym, subst}
use Rattle.path_core.specs.declared.event.Event.TheVariants.{TakeTurn}
use Rattle.path_core.specs.declared.event.Turn.TheVariants.{Flush}
use Rattle.path_rule.specs.declared.view.PathSize.{PathSize}
use Rattle.path_flush.proofs.FlushGoes.{one}
use Rattle.path_flush.proofs.FlushTaking.{holds_table}
use Rattle.path_flush.proofs.flush_turn.take_table.Goals as goal

pub returns-then-found-eq0-clause-step : goal.returns-then-found-eq0-clause-step
returns-then-found-eq0-clause-step g c = let w = c.args.seat.member.number in
    let D = c.take_flush-found.ensures.hit c.if-found-eq0.true in
    record {
      made = one w (TakeTurn w (Flush c.args.table)) 1 _ _ _ (refl, refl)
          (record { view = D.view; was = D.was });
      none = (tt, tt);
      kept = (tt, tt);
    }

pub returns-then-found-eq0-clause-holds : goal.returns-then-found-eq0-clause-holds
returns-then-found-eq0-clause-holds g c = let seat = c.args.seat in
    let T = c.take_flush-found in let hit = c.if-found-eq0.true in let there = c.requires.there in
    holds_table seat.member.seat.me T.new.member.seat.me seat.member.number c.args.table
    (T.ensures.hit hit)
    (subst (λ (z : PathSize). c.args.table.0 < z.tables) (sym c.requires.table.1) there)
    seat.idle seat.unclaimed seat.free seat.bare T.ensures.same.2 (T.ensures.holds hit)
    T.ensures.others (T.ensures.reads hit)
