use Rattle.std.proofs.Common.{
  ◌≡◌,
  ℕ,
  ◌<◌,
  ◌^◌,
  sym,
  ap,
  ◌∙◌,
  subst,
  arith,
}
use Rattle.path_core.specs.Parts.{touches}
use Rattle.write_path.proofs.AppliedAt.{applied_past}
use Rattle.write_path.proofs.SmallSets.{bit_below}
use Rattle.path_tests.proofs.applying.place_and_end.Goals as goal

-- Of the tables that are not asked, 1 and 2 and those above 3, the write has none.
pub finish-requires-clause-applied : goal.finish-requires-clause-applied
finish-requires-clause-applied g c =
    let s = c.in-Some.seat in let E = c.in-Some.ensures in let D = c.in-Some-apply_at.ensures in
    let nine : c.args.seat.tables ≡ 9 = (let is = c.if-seat-ne9.false in omega (arith, is)) in
    let first = E.same.tables ∙ nine in let last = D.same.tables ∙ first in
    let low = E.applied (λ t none. absurd (omega (arith, none))) in
    let past = applied_past 2 s (ap (λ (n : ℕ). touches n 2) first)
    (applied_past 1 s (ap (λ (n : ℕ). touches n 1) first) low) in
    λ t inside touched. D.applied past t
    (bit_below 4 c.in-Some-apply_at.seat.tables t
    (subst (λ (n : ℕ). n < 2 ^ 4) (sym last) (omega arith)) touched) touched
