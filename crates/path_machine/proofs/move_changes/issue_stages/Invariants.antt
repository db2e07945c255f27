use Rattle.std.proofs.Common.{◌≡◌, ◌++◌, map, take, drop}
use Rattle.path_core.specs.SeatParts.{barrier_issued}
use Rattle.path_machine.proofs.move_changes.issue_stages.Given as goal

abbrev pub invariant-loop-at : goal.invariant-loop-at
invariant-loop-at l =
    l.tables ≡ map (barrier_issued l.group) (take l.at-index l.fn.tables)
    ++ drop l.at-index l.fn.tables
