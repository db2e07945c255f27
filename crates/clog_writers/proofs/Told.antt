-- How a store ended whose lines were to be logged.
use Rattle.std.proofs.Common.{
  ◌≡◌,
  ℕ,
  ◌<◌,
  ◌≤◌,
  Bool,
  true,
  false,
  Option,
  Some,
  None,
  refl,
  arith,
}
use Rattle.std.specs.Prelude.{is_some}
use Rattle.std.proofs.lemmas.Bool.{true≢false}
use Rattle.clog_io.specs.Causes.{Rose}

-- no fewer faults are counted, whether a store has stopped or not
pub no_fewer : (stopped : Bool) (at_open now : ℕ) → at_open < 18446744073709551616
    → (stopped ≡ false → now ≡ at_open) → (stopped ≡ true → Rose at_open now) → at_open ≤ now
no_fewer true at_open now fits quiet risen =
    let rose = risen refl in omega (arith, fits, rose)
no_fewer false at_open now fits quiet risen = let same = quiet refl in omega (arith, same)

-- a store that has not stopped
pub runs_on : (stopped : Bool) (P : Type 0) → (stopped ≡ true → P) → (P → ⊥) → stopped ≡ false
runs_on true P so not = absurd (not (so refl))
runs_on false P so not = refl

-- an option that is none
pub none_of : {A : Type 0} (o : Option A) → is_some o ≡ false → o ≡ None
none_of None is = refl
none_of (Some x) is = absurd (true≢false is)
