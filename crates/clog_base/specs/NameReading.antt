-- What a text with numbers in it is not.
use Rattle.std.specs.Prelude.{◌≢◌, ℕ, ◌<◌, ◌^◌, List, ◌++◌, codes, decimal}

-- the digits of no number below 2^64
abbrev pub IsNoNumber : List ℕ → Type 0
IsNoNumber bytes = (n : ℕ) → n < 2 ^ 64 → bytes ≢ decimal n

-- the digits of no two such numbers with a dash between them
abbrev pub IsNoPair : List ℕ → Type 0
IsNoPair bytes =
    (first second : ℕ) → first < 2 ^ 64 → second < 2 ^ 64
    → bytes ≢ decimal first ++ codes "-" ++ decimal second

-- nothing that stands between this front and this back
abbrev pub IsNotBetween : List ℕ → List ℕ → List ℕ → Type 0
IsNotBetween front back bytes = (middle : List ℕ) → bytes ≢ front ++ middle ++ back
