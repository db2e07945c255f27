use Rattle.std.proofs.Common.{◌≤◌, ℕ, List, Option, length}
use Rattle.clog_mutation.specs.declared.mutation.Mutation.{Mutation}
use Rattle.write_path.specs.Opened.{AreNew}
use Rattle.clog_shares.specs.Crews.{AreDealt}
use Rattle.clog_shares.proofs.Seating.{SeatsFrom}
use Rattle.clog_shares.proofs.crew.seat_all.Given as goal

-- the workers behind the seats that are left have theirs, and all have their writes
abbrev pub invariant-loop-seat : goal.invariant-loop-seat
invariant-loop-seat g l = let t = l.path.table in record {
  seats : AreNew t.table.shared.table_id t.size (length l.seats.items) l.seats.items;
  few : length l.seats.items ≤ t.size.seats;
  seated : SeatsFrom t.table.shared.table_id t.size (length l.seats.items) l.workers;
  dealt : (flush : Option ℕ) (mutations : List Mutation)
      → AreDealt l.fn.sizes flush mutations l.fn.workers
      → AreDealt l.fn.sizes flush mutations l.workers;
}

abbrev pub decreases-loop-seat : goal.decreases-loop-seat
decreases-loop-seat g l = goal.left-loop-seat g l
