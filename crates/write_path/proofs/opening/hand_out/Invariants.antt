use Rattle.std.proofs.Common.{◌≡◌, ◌≤◌, vec_capacity, vec_len}
use Rattle.write_path.specs.Opened.{AreNew}
use Rattle.write_path.proofs.opening.hand_out.Given as goal

abbrev pub invariant-loop : goal.invariant-loop
invariant-loop g l = record {
  room : l.table.size.seats ≤ vec_capacity l.seats;
  many : vec_len l.seats ≡ l.counter;
  made : l.opener.made ≡ l.counter;
  of : l.opener.seat.table_id ≡ l.table.table.shared.table_id;
  size : l.opener.seat.me.0.size ≡ l.table.size;
  new : AreNew l.table.table.shared.table_id l.table.size l.counter l.seats.items;
}
