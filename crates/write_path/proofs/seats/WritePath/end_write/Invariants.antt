use Rattle.write_path.specs.Applies.{HoldsUpdates, IsAppliedBelow, IsUnappliedFrom}
use Rattle.write_path.specs.Ends.{IsUntriedFrom, IsWriteStill}
use Rattle.write_path.proofs.seats.WritePath.end_write.Given as goal

abbrev pub invariant-loop-table : goal.invariant-loop-table
invariant-loop-table g l = record {
  same : IsWriteStill l.self.table.table.shared.table_id l.self.table.size l.fn.seat l.seat;
  applied : IsAppliedBelow l.table l.seat;
  untried : IsUntriedFrom l.table l.seat;
  holds : HoldsUpdates l.seat l.prepared;
  unapplied : IsUnappliedFrom l.table l.seat;
}
