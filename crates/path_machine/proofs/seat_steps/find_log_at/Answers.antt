use Rattle.std.proofs.Common.{◌<◌, length, arith}
use Rattle.path_core.specs.SeatParts.{log_found}
use Rattle.path_core.proofs.lists.Mapped.{set-mapped}
use Rattle.path_machine.proofs.seat_steps.find_log_at.Goals as goal

pub loop-at-preserved : goal.loop-at-preserved
loop-at-preserved c =
    let inside : c.loop-at.at-index < length c.args.tables.now = omega arith in
    let here : c.loop-at.at-index < length c.loop-at.tables = omega arith in
    set-mapped (log_found c.args.key) c.args.tables.now c.loop-at.tables c.loop-at.at-index _
    c.log_found.result
    inside here c.loop-at.invariant c.log_found.ensures
