use Rattle.std.specs.Prelude.{◌≡◌}
use Rattle.path_core.specs.Parts.{seat_table}
use Rattle.path_flush.specs.FlushSteps.{QuietSteps}
use Rattle.path_flush.specs.FlushTurns.{HasTable}
use Rattle.path_flush.specs.Seats.{Stays}
use Rattle.path_flush.proofs.flush_passing.await_barrier.Given as goal

abbrev pub invariant-loop : goal.invariant-loop
invariant-loop g l = let first = l.fn.member in let t = l.fn.table.0 in record {
  next : (goal.iterator-loop g).can_next l.iterator';
  finite : (goal.iterator-loop g).is_finite l.iterator';
  stays : Stays l.path.table.shared.table_id l.path.size first l.member;
  steps : QuietSteps first.number t 0 first.seat.me.0 l.member.seat.me.0;
  holds : HasTable t l.member.seat.me;
  table : seat_table l.member.seat.me.0.part t ≡ seat_table first.seat.me.0.part t;
  reading : l.member.seat.me.0.hands.reading ≡ first.seat.me.0.hands.reading;
}
