use Rattle.std.proofs.Common.{◌<◌, length, arith}
use Rattle.path_core.specs.SeatParts.{barrier_issued}
use Rattle.path_core.proofs.lists.Mapped.{set-mapped}
use Rattle.path_machine.proofs.move_changes.issue_stages.Goals as goal

pub loop-at-preserved : goal.loop-at-preserved
loop-at-preserved c =
    let inside : c.loop-at.at-index < length c.args.tables.now = omega arith in
    let here : c.loop-at.at-index < length c.loop-at.tables = omega arith in
    set-mapped (barrier_issued c.args.group) c.args.tables.now c.loop-at.tables c.loop-at.at-index _
    c.barrier_issued.result
    inside here c.loop-at.invariant c.barrier_issued.ensures
