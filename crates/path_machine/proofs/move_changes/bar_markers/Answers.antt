use Rattle.std.proofs.Common.{◌<◌, length, arith}
use Rattle.path_core.specs.Next.{barred_marker}
use Rattle.path_core.proofs.lists.Mapped.{set-mapped}
use Rattle.path_machine.proofs.move_changes.bar_markers.Goals as goal

pub loop-claim-preserved : goal.loop-claim-preserved
loop-claim-preserved c =
    let inside : c.loop-claim.claim-index < length c.args.claims.now = omega arith in
    let here : c.loop-claim.claim-index < length c.loop-claim.claims = omega arith in
    set-mapped (barred_marker c.args.by c.args.group) c.args.claims.now c.loop-claim.claims
    c.loop-claim.claim-index _ c.barred_marker.result
    inside here c.loop-claim.invariant c.barred_marker.ensures
