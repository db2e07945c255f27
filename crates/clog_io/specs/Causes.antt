-- Counts of faults.
use Rattle.std.specs.Prelude.{◌≡◌, ℕ, ◌+◌, ◌-◌, ◌^◌, ◌≤◌, min, Result, OnOk, OnErr}

-- a count of faults one higher, which stands still at the greatest `u64`
abbrev pub risen : ℕ → ℕ
risen count = min (count + 1) (2 ^ 64 - 1)

-- a count of faults has risen, or stands at the greatest `u64`
abbrev pub Rose : ℕ → ℕ → Type 0
Rose before now = risen before ≤ now

-- A call that fails has counted it, and else the count stays.
pub record HasCause {T E : Type 0} (before now : ℕ) (result : Result T E) : Type 0 where
  pub later : before ≤ now
  pub failed : OnErr result (Rose before now)
  pub quiet : OnOk result (now ≡ before)

-- A call of an object none of whose calls fails answers Ok, and neither will a later one fail.
pub record StaysReliable {T E : Type 0} (now : Type 0) (result : Result T E) : Type 0 where
  pub answers : OnErr result ⊥
  pub still : now
