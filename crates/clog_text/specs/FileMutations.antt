-- The mutations of a file, or its first refused line.
use Rattle.std.specs.Prelude.{◌≡◌, ℕ, ◌+◌, ◌*◌, ◌<◌, List, [], ◌∷◌, ◌++◌, length, map, take, drop}
use Rattle.std.specs.Prelude.{slice_index_or, Result, Ok, Err, IfOk, ⊤}
use Rattle.std.specs.List.{AllByRecursion}
use Rattle.clog_mutation.specs.Limits.{IsWithinLimits}
use Rattle.clog_mutation.specs.declared.mutation.Mutation.{Mutation}
use Rattle.clog_text.specs.declared.refusal.BadLine.{BadLine}
use Rattle.clog_text.specs.declared.refusal.BadLine.TheVariants.{NotJson, Field, Range, NoUpdates}
use Rattle.clog_text.specs.declared.refusal.BadLine.TheVariants.{UnknownTable, OutOfMemory}
use Rattle.clog_text.specs.FileLines.{lines_of, piece_of}
use Rattle.clog_text.specs.LineMutation.{line_mutation}

-- a line's number and why it is refused
abbrev pub Refused : Type 0
Refused = ℕ × BadLine

-- behind a line that gave this, the lines behind it give that
abbrev pub first_then : Result Mutation BadLine → ℕ → Result (List Mutation) Refused
    → Result (List Mutation) Refused
first_then (Err cause) n rest = Err (n, cause)
first_then (Ok m) n (Ok ms) = Ok (m ∷ ms)
first_then (Ok m) n (Err refused) = Err refused

-- the mutations of lines that are numbered from n on, or the first that is refused and its cause
unfoldable pub mutations_from : ℕ → List (List ℕ) → Result (List Mutation) Refused
mutations_from n [] = Ok []
mutations_from n (line ∷ lines) = first_then (line_mutation line) n (mutations_from (n + 1) lines)

-- the mutations of a file, or its first refused line, numbered from 1, and its cause
abbrev pub file_mutations : List ℕ → Result (List Mutation) Refused
file_mutations bytes = mutations_from 1 (lines_of bytes)

-- that line was the first refused, for this cause, unless memory ran out
abbrev pub FailsAt : ℕ → BadLine → Result (List Mutation) Refused → Type 0
FailsAt n NotJson reading = reading ≡ Err (n, NotJson)
FailsAt n (Field part) reading = reading ≡ Err (n, Field part)
FailsAt n (Range part) reading = reading ≡ Err (n, Range part)
FailsAt n NoUpdates reading = reading ≡ Err (n, NoUpdates)
FailsAt n UnknownTable reading = reading ≡ Err (n, UnknownTable)
FailsAt n OutOfMemory reading = ⊤

-- the answer is what the reading gives, unless memory ran out
abbrev pub GivesLines : Result (List Mutation) Refused → Result (List Mutation) Refused → Type 0
GivesLines reading (Ok ms) = reading ≡ Ok ms
GivesLines reading (Err refused) = FailsAt refused.0 refused.1 reading

-- the answer is what the file's lines give, unless memory ran out
abbrev pub GivesMutations : List ℕ → Result (List Mutation) Refused → Type 0
GivesMutations bytes = GivesLines (file_mutations bytes)

-- What lines give and then those behind them: a refusal on the left counts first.
unfoldable pub joined : Result (List Mutation) Refused → Result (List Mutation) Refused
    → Result (List Mutation) Refused
joined (Ok ms) (Ok more) = Ok (ms ++ more)
joined (Ok ms) (Err refused) = Err refused
joined (Err refused) rest = Err refused

-- ---- for private clauses: a file that is read in parts

-- what the lines of these ranges give, behind so many other lines
abbrev pub part_from : List ℕ → ℕ → List (ℕ × ℕ) → Result (List Mutation) Refused
part_from bytes before ranges = mutations_from (before + 1) (map (piece_of bytes) ranges)

-- the answer is what the part of that number gives, where each part but the last has so many lines
pub record IsPartRead (bytes : List ℕ) (ranges : List (ℕ × ℕ)) (size n : ℕ)
    (answer : Result (List Mutation) Refused) : Type 0 where
  pub reads : GivesLines (part_from bytes (n * size) (take size (drop (n * size) ranges))) answer
  pub within : IfOk answer (AllByRecursion IsWithinLimits)

-- each answer is that of its part
abbrev pub PartsRead : List ℕ → List (ℕ × ℕ) → ℕ → List (Result (List Mutation) Refused) → Type 0
PartsRead bytes ranges size answers =
    (n : ℕ) (d : Result (List Mutation) Refused) → n < length answers
    → IsPartRead bytes ranges size n (slice_index_or answers n d)
