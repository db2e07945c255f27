use Rattle.std.proofs.Common.{◌≡◌, []}
use Rattle.op_core.specs.declared.count.Order.TheVariants.{Append}
use Rattle.path_core.specs.declared.seat.Issue.TheVariants.{Rest}
use Rattle.path_rule.specs.Calls.{Holds}
use Rattle.path_rule.specs.Desks.{HasDesk}
use Rattle.path_rule.specs.Lasts.{shows_of}
use Rattle.path_rule.specs.Rounds.{RoundSteps}
use Rattle.path_rule.specs.Turns.{TurnSaw}
use Rattle.path_rule.proofs.seats.Sweeping.{SweptTo}
use Rattle.path_rounds.proofs.sweeping.gather_all.Given as goal

abbrev pub invariant-loop : goal.invariant-loop
invariant-loop g l = let h = l.initial.member.seat.me.0.hands in record {
  next : (goal.iterator-loop g).can_next l.iterator';
  finite : (goal.iterator-loop g).is_finite l.iterator';
  table : l.member.seat.table_id ≡ l.initial.member.seat.table_id;
  number : l.member.number ≡ l.initial.member.number;
  steps : RoundSteps l.initial.member.number 0 [] l.initial.member.seat.me.0 l.member.seat.me.0;
  holds : Holds Rest l.member.seat.me.0;
  saw : TurnSaw Append l.member.seat.me.0.part l.current;
  swept : SweptTo l.path.size.seats l.swept h l.member.seat.me.0.hands;
  desk : HasDesk (shows_of g.K.Keeper.holds) l.member.seat.me.0.hands.lasting
      l.member.seat.me.0.hands.pending h.progress l.member.seat.me.1;
}
