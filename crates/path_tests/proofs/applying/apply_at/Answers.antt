use Rattle.std.proofs.Common.{◌∙◌, arith}
use Rattle.write_path.proofs.AppliedAt.{
  holds_still,
  placed_applied,
  placed_still,
  placed_unapplied,
  placed_untried,
  unapplied_still,
}
use Rattle.write_path.proofs.PlacedAt.{same_then}
use Rattle.path_tests.proofs.applying.apply_at.Goals as goal

pub apply-seat-requires-clause-holds : goal.apply-seat-requires-clause-holds
apply-seat-requires-clause-holds g c =
    let w = c.args.path.now.table in let s = c.args.seat in
    let F = c.oldest-memtable in let A = c.accept in
    let tried = same_then w.table.shared.table_id w.size s F.new.seat A.new.seat F.ensures.same
    A.ensures.same in
    holds_still w.table.shared.table_id w.size s A.new.seat tried c.args.rest.now
    c.requires.holds

pub apply-seat-requires-clause-unapplied : goal.apply-seat-requires-clause-unapplied
apply-seat-requires-clause-unapplied g c =
    let w = c.args.path.now.table in let s = c.args.seat in
    let F = c.oldest-memtable in let A = c.accept in
    let tried = same_then w.table.shared.table_id w.size s F.new.seat A.new.seat F.ensures.same
    A.ensures.same in
    λ a h is at. let low = unapplied_still w.table.shared.table_id w.size s A.new.seat tried
    c.args.table c.requires.unapplied a h is in absurd (omega (arith, low, at))

pub returns-in-Yes-clause-same : goal.returns-in-Yes-clause-same
returns-in-Yes-clause-same g c =
    let w = c.args.path.now.table in let s = c.args.seat in
    let F = c.oldest-memtable in let A = c.accept in
    let tried = same_then w.table.shared.table_id w.size s F.new.seat A.new.seat F.ensures.same
    A.ensures.same in
    placed_still w.table.shared.table_id w.size c.args.table s A.new.seat c.apply-seat.result
    F.result tried (λ t apart. A.ensures.others t apart ∙ F.ensures.others t apart)
    c.in-Yes.ensures.answer c.apply-seat.ensures.same c.apply-seat.ensures.applied
    c.apply-seat.ensures.part

pub returns-in-Yes-clause-applied : goal.returns-in-Yes-clause-applied
returns-in-Yes-clause-applied g c =
    let w = c.args.path.now.table in let s = c.args.seat in
    let F = c.oldest-memtable in let A = c.accept in
    let tried = same_then w.table.shared.table_id w.size s F.new.seat A.new.seat F.ensures.same
    A.ensures.same in
    placed_applied w.table.shared.table_id w.size c.args.table s A.new.seat c.apply-seat.result
    F.result tried (λ t apart. A.ensures.others t apart ∙ F.ensures.others t apart)
    c.in-Yes.ensures.answer c.apply-seat.ensures.same c.apply-seat.ensures.applied
    c.apply-seat.ensures.part

pub returns-in-Yes-clause-untried : goal.returns-in-Yes-clause-untried
returns-in-Yes-clause-untried g c =
    let w = c.args.path.now.table in let s = c.args.seat in
    let F = c.oldest-memtable in let A = c.accept in
    let tried = same_then w.table.shared.table_id w.size s F.new.seat A.new.seat F.ensures.same
    A.ensures.same in
    placed_untried w.table.shared.table_id w.size c.args.table s A.new.seat c.apply-seat.result
    F.result tried (λ t apart. A.ensures.others t apart ∙ F.ensures.others t apart)
    c.in-Yes.ensures.answer c.apply-seat.ensures.same c.apply-seat.ensures.applied
    c.apply-seat.ensures.part c.requires.untried

pub returns-in-Yes-clause-unapplied : goal.returns-in-Yes-clause-unapplied
returns-in-Yes-clause-unapplied g c =
    let w = c.args.path.now.table in let s = c.args.seat in
    let F = c.oldest-memtable in let A = c.accept in
    let tried = same_then w.table.shared.table_id w.size s F.new.seat A.new.seat F.ensures.same
    A.ensures.same in
    placed_unapplied w.table.shared.table_id w.size c.args.table s A.new.seat c.apply-seat.result
    F.result tried (λ t apart. A.ensures.others t apart ∙ F.ensures.others t apart)
    c.in-Yes.ensures.answer c.apply-seat.ensures.same c.apply-seat.ensures.applied
    c.apply-seat.ensures.part c.requires.unapplied
