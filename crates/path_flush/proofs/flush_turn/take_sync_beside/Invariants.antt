use Rattle.std.specs.Prelude.{◌≡◌, ℕ, []}
use Rattle.path_core.specs.Parts.{seat_table}
use Rattle.path_rule.specs.Rounds.{RoundSteps}
use Rattle.path_flush.specs.FlushTurns.{HasTable}
use Rattle.path_flush.specs.Seats.{Stays}
use Rattle.path_flush.proofs.flush_turn.take_sync_beside.Given as goal

abbrev pub invariant-loop : goal.invariant-loop
invariant-loop g l = let first = l.fn.member in record {
  next : (goal.iterator-loop g).can_next l.iterator';
  finite : (goal.iterator-loop g).is_finite l.iterator';
  stays : Stays l.path.table.shared.table_id l.path.size first l.member;
  steps : RoundSteps first.number 0 [] first.seat.me.0 l.member.seat.me.0;
  tables : (t : ℕ) → seat_table l.member.seat.me.0.part t ≡ seat_table first.seat.me.0.part t;
  holds : HasTable l.fn.table.0 l.member.seat.me;
}
