use Rattle.std.proofs.Common.{◌≡◌, ◌++◌, map, take, drop}
use Rattle.path_core.specs.SeatAfter.{left_table}
use Rattle.path_machine.proofs.seat_steps.leave.Given as goal

abbrev pub invariant-loop-at : goal.invariant-loop-at
invariant-loop-at l =
    l.tables ≡ map left_table (take l.at-index l.fn.tables) ++ drop l.at-index l.fn.tables
