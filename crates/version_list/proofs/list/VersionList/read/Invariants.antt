use mathlib.Core.List.{IsPrefix}
use Rattle.version_list.proofs.list.VersionList.read.Given as goal

abbrev pub invariant-loop : goal.invariant-loop
invariant-loop g l =
    (goal.iterator-loop g).can_next l.iterator' × (goal.iterator-loop g).is_finite l.iterator'
    × IsPrefix l.fn.seat l.seat
