-- Bytes that a source has left and that a sink holds, where they are told.
use Rattle.std.specs.Prelude.{
  ◌≡◌,
  ℕ,
  ◌+◌,
  ◌-◌,
  ◌≤◌,
  List,
  [],
  ◌++◌,
  length,
  take,
  drop,
  Option,
  Some,
  None,
  ⊤,
}

-- a prefix of the bytes was appended
abbrev pub AppendsPrefix : Option (List ℕ) → Option (List ℕ) → List ℕ → Type 0
AppendsPrefix None new bytes = ⊤
AppendsPrefix (Some held) None bytes = ⊥
AppendsPrefix (Some held) (Some now) bytes = now ≡ held ++ take (length now - length held) bytes

-- all bytes to the end were taken
abbrev pub TakesAll : Option (List ℕ) → Option (List ℕ) → List ℕ → Type 0
TakesAll None new bytes = ⊤
TakesAll (Some left) None bytes = ⊥
TakesAll (Some left) (Some now) bytes = (bytes ≡ left) × (now ≡ [])

-- some bytes were taken from the front
abbrev pub TakesSome : Option (List ℕ) → Option (List ℕ) → Type 0
TakesSome None new = ⊤
TakesSome (Some left) None = ⊥
TakesSome (Some left) (Some now) = now ≡ drop (length left - length now) left

-- at most so many bytes were taken
abbrev pub TakesAtMost : ℕ → Option (List ℕ) → Option (List ℕ) → Type 0
TakesAtMost most None new = ⊤
TakesAtMost most (Some left) None = ⊥
TakesAtMost most (Some left) (Some now) = length left ≤ length now + most
