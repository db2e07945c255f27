use Rattle.std.proofs.Common.{◌≡◌, ℕ, ◌+◌, ◌<◌, ◌^◌, sym, ◌∙◌, subst, arith}
use Rattle.write_path.proofs.AppliedAt.{holds_still, placed_applied, unapplied_still}
use Rattle.write_path.proofs.SmallSets.{bit_below}
use Rattle.path_tests.proofs.above.end_above.Goals as goal

pub apply-seat-requires-clause-holds : goal.apply-seat-requires-clause-holds
apply-seat-requires-clause-holds g c =
    let w = c.args.path.now.table in let A = c.in_ok-seat in
    holds_still w.table.shared.table_id w.size c.args.seat A.seat A.ensures.same c.args.rest
    c.requires.holds

pub apply-seat-requires-clause-unapplied : goal.apply-seat-requires-clause-unapplied
apply-seat-requires-clause-unapplied g c =
    let w = c.args.path.now.table in let A = c.in_ok-seat in
    λ a h is at. let low = unapplied_still w.table.shared.table_id w.size c.args.seat A.seat
    A.ensures.same 0 c.requires.unapplied a h is in absurd (omega (arith, low))

-- Table 0 is the write's only one.
pub finish-seat-requires-clause-applied : goal.finish-seat-requires-clause-applied
finish-seat-requires-clause-applied g c =
    let w = c.args.path.now.table in let s = c.args.seat in let A = c.in_ok-seat in
    let U = c.apply-seat in
    let one : s.tables ≡ 1 = (let is = c.if-seat-ne1.false in omega (arith, is)) in
    let first = placed_applied w.table.shared.table_id w.size 0 s A.seat U.result (A.refused + 1)
    A.ensures.same A.ensures.others A.ensures.placed U.ensures.same U.ensures.applied
    U.ensures.part (λ t none. absurd (omega (arith, none))) in
    let last = U.ensures.same.tables ∙ (A.ensures.same.tables ∙ one) in
    λ t inside touched. first t
    (bit_below 1 U.result.tables t (subst (λ (n : ℕ). n < 2 ^ 1) (sym last) (omega arith)) touched)
    touched
