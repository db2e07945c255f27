use Rattle.write_path.proofs.PlacedAt.{same_then}
use Rattle.path_tests.proofs.above.ask_two.Goals as goal

pub returns-in-Yes-clause-same : goal.returns-in-Yes-clause-same
returns-in-Yes-clause-same g c =
    let w = c.args.path.now.table in let s = c.args.seat in let F = c.oldest-first in
    let A = c.accept in let B = c.accept-2 in
    same_then w.table.shared.table_id w.size s A.new.seat B.new.seat
    (same_then w.table.shared.table_id w.size s F.new.seat A.new.seat F.ensures.same
    A.ensures.same) B.ensures.same
