use Rattle.std.proofs.Common.{◌≡◌, ◌++◌, map, take, drop}
use Rattle.path_core.specs.Next.{barred_marker}
use Rattle.path_machine.proofs.move_changes.bar_markers.Given as goal

abbrev pub invariant-loop-claim : goal.invariant-loop-claim
invariant-loop-claim l =
    l.claims ≡ map (barred_marker l.by l.group) (take l.claim-index l.fn.claims)
    ++ drop l.claim-index l.fn.claims
