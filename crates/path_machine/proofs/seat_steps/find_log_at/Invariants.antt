use Rattle.std.proofs.Common.{◌≡◌, ◌++◌, map, take, drop}
use Rattle.path_core.specs.SeatParts.{log_found}
use Rattle.path_machine.proofs.seat_steps.find_log_at.Given as goal

abbrev pub invariant-loop-at : goal.invariant-loop-at
invariant-loop-at l =
    l.tables ≡ map (log_found l.key) (take l.at-index l.fn.tables) ++ drop l.at-index l.fn.tables
