-- A set of tables below a number is below that power of two.
use Rattle.std.proofs.Common.{
  ◌≡◌,
  ℕ,
  zero,
  suc,
  ◌/◌,
  ◌<◌,
  ◌≤◌,
  ◌^◌,
  IsTrue,
  sym,
  ap,
  ◌∙◌,
  arith,
  pow-suc,
}
use Rattle.std.specs.Int.{bit_at}
use Rattle.std.proofs.lemmas.Bool.{eqb-true}
use Rattle.std.proofs.lemmas.Nat.Bits.{
  bit_at-suc,
  bit_at-zero,
  same_from_bits,
}
use Rattle.path_core.specs.Parts.{touches}

-- a number with no bit from k on
pub below_power : (k n : ℕ) → ((i : ℕ) → k ≤ i → bit_at n i ≡ 0) → n < 2 ^ k
below_power zero n none =
    omega (arith, same_from_bits n 0 (λ i. none i (omega arith) ∙ sym (bit_at-zero i)))
below_power (suc k) n none =
    let half = below_power k (n / 2) (λ i l. sym (bit_at-suc n i) ∙ none (suc i) (omega arith)) in
    omega (arith, pow-suc 2 k, half)

-- a bit of a number below a power of two stands below the exponent
pub bit_below : (k n t : ℕ) → n < 2 ^ k → IsTrue (touches n t) → t < k
bit_below k n t low set = by k n t low (eqb-true (bit_at n t) 1 set)
  where
    by : (k n t : ℕ) → n < 2 ^ k → bit_at n t ≡ 1 → t < k
    by zero n t low set = absurd (let none : n ≡ 0 = omega arith in
        let z = ap (λ (m : ℕ). bit_at m t) none ∙ bit_at-zero t in omega arith)
    by (suc k) n zero low set = omega arith
    by (suc k) n (suc t) low set =
        let below = by k (n / 2) t (omega (arith, pow-suc 2 k)) (sym (bit_at-suc n t) ∙ set) in
        omega arith
