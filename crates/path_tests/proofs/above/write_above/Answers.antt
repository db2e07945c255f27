use Rattle.std.proofs.Common.{ℕ, ◌+◌, ◌≤◌, ◌/◌, sym, ap, ◌∙◌, subst}
use Rattle.write_path.specs.Writes.{entry_size}
use Rattle.write_path.proofs.LeastEntry.{entry_least}
use Rattle.path_tests.proofs.above.write_above.Goals as goal

pub try_claim-requires-clause-size : goal.try_claim-requires-clause-size
try_claim-requires-clause-size g c = let p = c.requires.prepared.1 in
    let m = c.requires.prepared.0 in let is = sym (c.size.ensures ∙ p.size) in (
      subst (λ n. 30 ≤ n) is (entry_least m p.limits),
      subst (λ n. n ≤ c.args.path.now.table.size.capacity / 2) is
          (subst (λ k. entry_size m ≤ k / 2) c.requires.sized.2 p.fits),
    )

pub deposit-deposited-requires-clause-prepared : goal.deposit-deposited-requires-clause-prepared
deposit-deposited-requires-clause-prepared g c = let p = c.requires.prepared.1 in
    let s = c.in-Claimed.claimed in (
      c.args.sizes,
      2,
      c.requires.prepared.0,
      p,
      ap (λ (n : ℕ). s.start.0 + n) (sym (c.size.ensures ∙ p.size))
          ∙ c.in-Claimed.ensures.step.0,
      c.requires.sized.1,
    )
