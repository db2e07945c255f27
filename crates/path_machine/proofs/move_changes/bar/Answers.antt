use Rattle.std.proofs.Common.{◌<◌, length, arith}
use Rattle.path_core.specs.Next.{barred}
use Rattle.path_core.proofs.lists.Mapped.{set-mapped}
use Rattle.path_machine.proofs.move_changes.bar.Goals as goal

pub loop-memtable-preserved : goal.loop-memtable-preserved
loop-memtable-preserved c =
    let inside : c.loop-memtable.memtable-index < length c.args.memtables.now = omega arith in
    let here : c.loop-memtable.memtable-index < length c.loop-memtable.memtables = omega arith in
    set-mapped (barred c.args.group) c.args.memtables.now c.loop-memtable.memtables
    c.loop-memtable.memtable-index _ c.barred.result
    inside here c.loop-memtable.invariant c.barred.ensures
