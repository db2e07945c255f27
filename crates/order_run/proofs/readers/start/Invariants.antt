use Rattle.std.proofs.Common.{◌≡◌}
use Rattle.order_run.specs.Rounds.{moves_of}
use Rattle.order_run.proofs.readers.start.Given as goal

abbrev pub invariant-loop : goal.invariant-loop
invariant-loop g l = record {
  next : (goal.iterator-loop g).can_next l.iterator';
  finite : (goal.iterator-loop g).is_finite l.iterator';
  reader : l.reader.seat.table_id ≡ l.order.table.shared.table_id;
  moves : moves_of l.reader.seat ≡ moves_of l.fn.reader.seat;
}
