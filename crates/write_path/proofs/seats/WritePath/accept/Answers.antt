use Rattle.write_path.proofs.PlacedAt.{same_then}
use Rattle.write_path.proofs.seats.WritePath.accept.Goals as goal

pub returns-in-Raising-clause-same : goal.returns-in-Raising-clause-same
returns-in-Raising-clause-same g c = let t = c.args.self.now.table in
    same_then t.table.shared.table_id t.size c.args.seat.now c.look_at-bound.new.seat
    c.accept_raising.new.seat c.look_at-bound.ensures.same c.accept_raising.ensures.same
