use Rattle.std.proofs.Common.{◌≡◌, [], false, Some}
use Rattle.path_rule.specs.declared.view.FlushRead.{FlushRead}
use Rattle.path_flush.specs.FlushReads.{HasRead, ReadSteps}
use Rattle.path_flush.specs.Seats.{Stays}
use Rattle.path_flush.proofs.flush_reading.read_boxes.Given as goal

abbrev pub invariant-loop-seat : goal.invariant-loop-seat
invariant-loop-seat g l = let first = l.fn.member in record {
  stays : Stays l.path.table.shared.table_id l.path.size first l.member;
  boxes : l.member.seat.me.1 ≡ first.seat.me.1;
  steps : ReadSteps first.number l.fn.table.0 first.seat.me.0 l.member.seat.me.0;
  reads : HasRead l.fn.table.0 l.fn.memtable false l.seat l.member.seat.me.0.hands;
  void : (q : FlushRead) → l.member.seat.me.0.hands.reading ≡ Some q → q.seen ≡ [];
}
