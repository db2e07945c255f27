use Rattle.std.proofs.Common.{◌≡◌, ◌++◌, map, length}
use Rattle.std.specs.List.{All, range_with_len}
use Rattle.write_path.specs.Opened.{IsNewSeat, numbers_of}
use Rattle.path_threads.specs.Crews.{IsSeated, number_of}
use Rattle.path_threads.proofs.crew.crew_of.Given as goal

-- the numbers of the writers that have their seats, and those of the seats that are left, are all
abbrev pub invariant-loop-seat : goal.invariant-loop-seat
invariant-loop-seat g l = let t = l.path.table in record {
  each : All (IsSeated t.table.shared.table_id t.size) l.workers.items;
  left : All (IsNewSeat t.table.shared.table_id t.size) l.seat-iterator.rest.items;
  numbers : map number_of l.workers.items ++ numbers_of l.seat-iterator.rest.items
      ≡ range_with_len 0 t.size.seats;
  count : l.seat-iterator.rest.len ≡ length l.seat-iterator.rest.items;
}
