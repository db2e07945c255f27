use Rattle.std.specs.Prelude.{[]}
use Rattle.path_rule.specs.Rounds.{RoundSteps}
use Rattle.path_flush.specs.Seats.{Stays}
use Rattle.write_path.proofs.seats.WritePath.sync.Given as goal

abbrev pub invariant-loop : goal.invariant-loop
invariant-loop g l = let first = l.fn.seat.member in record {
  next : (goal.iterator-loop g).can_next l.iterator';
  finite : (goal.iterator-loop g).is_finite l.iterator';
  stays : Stays l.self.table.table.shared.table_id l.self.table.size first l.seat.member;
  steps : RoundSteps first.number 0 [] first.seat.me.0 l.seat.member.seat.me.0;
}
