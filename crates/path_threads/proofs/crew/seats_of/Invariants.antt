use Rattle.std.proofs.Common.{◌≡◌, ◌++◌, map, length}
use Rattle.std.specs.List.{All, range_with_len}
use Rattle.write_path.specs.Closed.{AreOf}
use Rattle.write_path.specs.Opened.{numbers_of}
use Rattle.path_threads.specs.Crews.{IsSeated, number_of}
use Rattle.path_threads.proofs.crew.seats_of.Given as goal

-- the numbers of the seats that are back, and those of the writers that are left, are all
abbrev pub invariant-loop-worker : goal.invariant-loop-worker
invariant-loop-worker g l = let t = l.path.table in record {
  each : AreOf t.table.shared.table_id t.size l.seats.items;
  left : All (IsSeated t.table.shared.table_id t.size) l.worker-iterator.rest.items;
  numbers : numbers_of l.seats.items ++ map number_of l.worker-iterator.rest.items
      ≡ range_with_len 0 t.size.seats;
  count : l.worker-iterator.rest.len ≡ length l.worker-iterator.rest.items;
}
