-- The lines of a file, as pieces of its bytes.
pub use Rattle.clog_spec.specs.Sizes.{line_limit}
use Rattle.std.specs.Prelude.{◌≡◌, ◌≢◌, ℕ, ◌+◌, ◌-◌, ◌≤◌, ◌==◌, List, [], ◌∷◌, ◌++◌, length, map}
use Rattle.std.specs.Prelude.{take, drop, if◌then◌else◌}
use Rattle.std.specs.List.{flat_map, AllByRecursion}

-- the first line begins with the byte
abbrev pub before_first : ℕ → List (List ℕ) → List (List ℕ)
before_first b [] = (b ∷ []) ∷ []
before_first b (line ∷ lines) = (b ∷ line) ∷ lines

-- Each 0A ends a line. What stands behind the last 0A is a line unless it is empty.
abbrev pub lines_of : List ℕ → List (List ℕ)
lines_of [] = []
lines_of (b ∷ bytes) = if b == 10 then [] ∷ lines_of bytes else before_first b (lines_of bytes)

abbrev pub HasNoNewline : List ℕ → Type 0
HasNoNewline line = AllByRecursion (λ b. b ≢ 10) line

-- a line with the 0A that ends it
abbrev pub ended : List ℕ → List ℕ
ended line = line ++ 10 ∷ []

-- the file, with 0A behind it where something stands behind its last 0A
abbrev pub closed : List ℕ → List ℕ
closed [] = []
closed (b ∷ []) = if b == 10 then 10 ∷ [] else b ∷ 10 ∷ []
closed (b ∷ c ∷ bytes) = b ∷ closed (c ∷ bytes)

-- No line holds 0A, and the lines, each with 0A behind it, are the file laid end to end. Only the
-- last line may lack its 0A in the file, and then it is not empty.
pub record AreLines (file : List ℕ) (lines : List (List ℕ)) : Type 0 where
  pub unbroken : AllByRecursion HasNoNewline lines
  pub whole : flat_map ended lines ≡ closed file

-- the bytes from the first number up to the second
abbrev pub piece_of : List ℕ → ℕ × ℕ → List ℕ
piece_of bytes range = take (range.1 - range.0) (drop range.0 bytes)

-- where lines stand that are laid end to end from a place on, each with one byte behind it
abbrev pub ranges_from : ℕ → List (List ℕ) → List (ℕ × ℕ)
ranges_from at [] = []
ranges_from at (line ∷ lines) =
    (at, at + length line) ∷ ranges_from (at + length line + 1) lines

-- the range lies within so many bytes
pub record IsRangeWithin (len : ℕ) (range : ℕ × ℕ) : Type 0 where
  pub rises : range.0 ≤ range.1
  pub within : range.1 ≤ len

-- The ranges give exactly the lines of the file, each where it stands, which are not too many.
pub record Splits (bytes : List ℕ) (ranges : List (ℕ × ℕ)) : Type 0 where
  pub placed : ranges ≡ ranges_from 0 (lines_of bytes)
  pub lines : map (piece_of bytes) ranges ≡ lines_of bytes
  pub within : AllByRecursion (IsRangeWithin (length bytes)) ranges
  pub few : length ranges ≤ line_limit
