-- Texts with numbers in them.
use Rattle.std.specs.Prelude.{ℕ, List, ◌++◌, codes, decimal}

-- the digits of a number below 2^64 are so many at most
abbrev pub most_digits : ℕ
most_digits = 20

abbrev pub numbered : List ℕ → ℕ → List ℕ → List ℕ
numbered front number back = front ++ decimal number ++ back

abbrev pub two_numbered : List ℕ → ℕ → ℕ → List ℕ → List ℕ
two_numbered front first second back =
    front ++ decimal first ++ codes "-" ++ decimal second ++ back
