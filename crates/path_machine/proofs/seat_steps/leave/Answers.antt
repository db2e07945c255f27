use Rattle.std.proofs.Common.{◌<◌, length, arith}
use Rattle.path_core.specs.SeatAfter.{left_table}
use Rattle.path_core.proofs.lists.Mapped.{set-mapped}
use Rattle.path_machine.proofs.seat_steps.leave.Goals as goal

pub loop-at-preserved : goal.loop-at-preserved
loop-at-preserved c =
    let inside : c.loop-at.at-index < length c.args.tables.now = omega arith in
    let here : c.loop-at.at-index < length c.loop-at.tables = omega arith in
    set-mapped left_table c.args.tables.now c.loop-at.tables c.loop-at.at-index _ c.left.result
    inside here c.loop-at.invariant c.left.ensures
