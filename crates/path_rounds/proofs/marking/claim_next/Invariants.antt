use Rattle.std.proofs.Common.{◌≡◌, []}
use Rattle.op_core.specs.declared.count.Order.TheVariants.{Append}
use Rattle.path_rule.specs.Calls.{MayGive}
use Rattle.path_rule.specs.Rounds.{RoundSteps}
use Rattle.path_rule.specs.Turns.{FoundRunning, KeepsCurrent}
use Rattle.path_rounds.proofs.marking.claim_next.Given as goal

abbrev pub invariant-loop : goal.invariant-loop
invariant-loop g l = record {
  next : (goal.iterator-loop g).can_next l.iterator';
  finite : (goal.iterator-loop g).is_finite l.iterator';
  table : l.member.seat.table_id ≡ l.initial.member.seat.table_id;
  number : l.member.number ≡ l.initial.member.number;
  boxes : l.member.seat.me.1 ≡ l.initial.member.seat.me.1;
  steps : RoundSteps l.initial.member.number 0 [] l.initial.member.seat.me.0 l.member.seat.me.0;
  give : MayGive l.member.seat.me.0;
  current : KeepsCurrent Append l.initial.member.seat.me.0.part l.member.seat.me.0.part;
  runs : FoundRunning l.member.seat.me.0.part;
  hands : l.member.seat.me.0.hands ≡ l.initial.member.seat.me.0.hands;
}
