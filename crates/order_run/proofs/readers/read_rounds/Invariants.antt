use Rattle.std.proofs.Common.{◌≡◌, ◌*◌}
use Rattle.order_run.specs.Rounds.{moves_of}
use Rattle.order_run.proofs.readers.read_rounds.Given as goal

abbrev pub invariant-loop : goal.invariant-loop
invariant-loop g l =
    (l.reader.seat.table_id ≡ l.order.table.shared.table_id) × (l.reads ≡ l.counter)
    × (moves_of l.reader.seat ≡ 2 * l.counter)
