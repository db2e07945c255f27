use Rattle.std.proofs.Common.{◌≡◌, ◌++◌, map, take, drop}
use Rattle.path_core.specs.Next.{barred}
use Rattle.path_machine.proofs.move_changes.bar.Given as goal

abbrev pub invariant-loop-memtable : goal.invariant-loop-memtable
invariant-loop-memtable l =
    l.memtables ≡ map (barred l.group) (take l.memtable-index l.fn.memtables)
    ++ drop l.memtable-index l.fn.memtables
