use Rattle.std.proofs.Common.{◌≡◌, ℕ, []}
use Rattle.path_core.specs.declared.seat.Issue.TheVariants.{Rest}
use Rattle.path_core.specs.Parts.{marker_of, stage_of}
use Rattle.path_rule.specs.Calls.{Holds}
use Rattle.path_rule.specs.Rounds.{RoundSteps}
use Rattle.path_rule.specs.Turns.{FoundRunning, TurnSaw}
use Rattle.path_rounds.proofs.waiting.advance_to.Given as goal

abbrev pub invariant-loop : goal.invariant-loop
invariant-loop g l = record {
  next : (goal.iterator-loop g).can_next l.iterator';
  finite : (goal.iterator-loop g).is_finite l.iterator';
  table : l.member.seat.table_id ≡ l.initial.member.seat.table_id;
  number : l.member.number ≡ l.initial.member.number;
  size : l.member.seat.me.0.size ≡ l.initial.member.seat.me.0.size;
  boxes : l.member.seat.me.1 ≡ l.initial.member.seat.me.1;
  holds : Holds Rest l.member.seat.me.0;
  saw : TurnSaw l.order l.member.seat.me.0.part l.current;
  steps : RoundSteps l.initial.member.number 0 [] l.initial.member.seat.me.0 l.member.seat.me.0;
  marker : marker_of l.member.seat.me.0.part ≡ marker_of l.initial.member.seat.me.0.part;
  runs : FoundRunning l.initial.member.seat.me.0.part → FoundRunning l.member.seat.me.0.part;
  hands : l.member.seat.me.0.hands ≡ l.initial.member.seat.me.0.hands;
  tables : l.member.seat.me.0.part.tables ≡ l.initial.member.seat.me.0.part.tables;
  stages : (t : ℕ) → stage_of l.member.seat.me.0.part t
      ≡ stage_of l.initial.member.seat.me.0.part t;
}
