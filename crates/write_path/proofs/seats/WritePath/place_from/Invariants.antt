use Rattle.std.specs.Prelude.{◌^◌, ◌≡◌, ◌≢◌, ℕ, ◌<◌, Some}
use Rattle.path_core.specs.Parts.{seat_table}
use Rattle.path_table.specs.Members.{part_of}
use Rattle.write_path.specs.Ends.{IsSameWrite}
use Rattle.write_path.proofs.seats.WritePath.place_from.Given as goal

abbrev pub invariant-loop-memtable : goal.invariant-loop-memtable
invariant-loop-memtable g l = record {
  same : IsSameWrite l.self.table.table.shared.table_id l.self.table.size l.fn.seat l.seat;
  low : l.memtable < 2 ^ 47;
  tried : (seat_table (part_of l.seat.member) l.table.0).trying ≡ Some l.memtable;
  others : (t : ℕ) → t ≢ l.table.0 → seat_table (part_of l.seat.member) t
      ≡ seat_table (part_of l.fn.seat.member) t;
}
