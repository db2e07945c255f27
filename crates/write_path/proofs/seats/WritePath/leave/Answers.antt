use Rattle.op_core.specs.declared.count.Order.TheVariants.{Append, Write}
use Rattle.write_path.proofs.Growing.{keeps_on, left}
use Rattle.write_path.proofs.Rooms.{room_behind}
use Rattle.write_path.proofs.seats.WritePath.leave.Goals as goal

pub returns-clause-same : goal.returns-clause-same
returns-clause-same g c = let t = c.args.self.now.table in let id = t.table.shared.table_id in
    let B = c.stop_append-begun in let S = c.stop in let m = c.args.seat.member in
    keeps_on id t.size m B.result.member S.result.member
    (left id t.size m B.result.member B.ensures.same.0 Append c.args.seat.group B.ensures.step.0
    B.ensures.step.1)
    (left id t.size B.result.member S.result.member S.ensures.same Write B.result.group
    S.ensures.step.0 S.ensures.step.1)

pub returns-clause-room : goal.returns-clause-room
returns-clause-room g c = λ bytes since key R.
    let B = c.stop_append-begun in let S = c.stop in let size = c.args.self.now.table.size in
    room_behind size bytes since key _ _ S.ensures.step.0 Write _ _ S.ensures.step.1
    (room_behind size bytes since key _ _ B.ensures.step.0 Append _ _ B.ensures.step.1 R)
