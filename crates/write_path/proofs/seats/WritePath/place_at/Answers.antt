use Rattle.std.proofs.Common.{◌∙◌, arith}
use Rattle.write_path.proofs.AppliedAt.{
  holds_still,
  placed_applied,
  placed_still,
  placed_unapplied,
  placed_untried,
  unapplied_still,
}
use Rattle.write_path.proofs.PlacedAt.{same_then}
use Rattle.write_path.proofs.seats.WritePath.place_at.Goals as goal

pub apply-requires-clause-holds : goal.apply-requires-clause-holds
apply-requires-clause-holds g c =
    let w = c.args.self.now.table in let s = c.args.seat in
    let F = c.oldest-first in let P = c.place_from-seat in
    let tried = same_then w.table.shared.table_id w.size s F.new.seat P.result.0 F.ensures.same
    P.ensures.same in
    holds_still w.table.shared.table_id w.size s P.result.0 tried c.args.prepared.now
    c.requires.holds

pub apply-requires-clause-unapplied : goal.apply-requires-clause-unapplied
apply-requires-clause-unapplied g c =
    let w = c.args.self.now.table in let s = c.args.seat in
    let F = c.oldest-first in let P = c.place_from-seat in
    let tried = same_then w.table.shared.table_id w.size s F.new.seat P.result.0 F.ensures.same
    P.ensures.same in
    λ a h is at. let low = unapplied_still w.table.shared.table_id w.size s P.result.0 tried
    c.args.table c.requires.unapplied a h is in absurd (omega (arith, low, at))

pub returns-clause-same : goal.returns-clause-same
returns-clause-same g c =
    let w = c.args.self.now.table in let s = c.args.seat in
    let F = c.oldest-first in let P = c.place_from-seat in
    let tried = same_then w.table.shared.table_id w.size s F.new.seat P.result.0 F.ensures.same
    P.ensures.same in
    placed_still w.table.shared.table_id w.size c.args.table s P.result.0 c.apply.result
    P.result.1 tried (λ t apart. P.ensures.others t apart ∙ F.ensures.others t apart)
    P.ensures.placed c.apply.ensures.same c.apply.ensures.applied c.apply.ensures.part

pub returns-clause-applied : goal.returns-clause-applied
returns-clause-applied g c =
    let w = c.args.self.now.table in let s = c.args.seat in
    let F = c.oldest-first in let P = c.place_from-seat in
    let tried = same_then w.table.shared.table_id w.size s F.new.seat P.result.0 F.ensures.same
    P.ensures.same in
    placed_applied w.table.shared.table_id w.size c.args.table s P.result.0 c.apply.result
    P.result.1 tried (λ t apart. P.ensures.others t apart ∙ F.ensures.others t apart)
    P.ensures.placed c.apply.ensures.same c.apply.ensures.applied c.apply.ensures.part

pub returns-clause-untried : goal.returns-clause-untried
returns-clause-untried g c =
    let w = c.args.self.now.table in let s = c.args.seat in
    let F = c.oldest-first in let P = c.place_from-seat in
    let tried = same_then w.table.shared.table_id w.size s F.new.seat P.result.0 F.ensures.same
    P.ensures.same in
    placed_untried w.table.shared.table_id w.size c.args.table s P.result.0 c.apply.result
    P.result.1 tried (λ t apart. P.ensures.others t apart ∙ F.ensures.others t apart)
    P.ensures.placed c.apply.ensures.same c.apply.ensures.applied c.apply.ensures.part
    c.requires.untried

pub returns-clause-unapplied : goal.returns-clause-unapplied
returns-clause-unapplied g c =
    let w = c.args.self.now.table in let s = c.args.seat in
    let F = c.oldest-first in let P = c.place_from-seat in
    let tried = same_then w.table.shared.table_id w.size s F.new.seat P.result.0 F.ensures.same
    P.ensures.same in
    placed_unapplied w.table.shared.table_id w.size c.args.table s P.result.0 c.apply.result
    P.result.1 tried (λ t apart. P.ensures.others t apart ∙ F.ensures.others t apart)
    P.ensures.placed c.apply.ensures.same c.apply.ensures.applied c.apply.ensures.part
    c.requires.unapplied
