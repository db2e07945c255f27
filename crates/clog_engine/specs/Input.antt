-- How far a mutation file is good, by the capacity of a segment.
use Rattle.std.specs.Prelude.{◌≡◌, ℕ, ◌<◌, ◌≤◌, List, length, Option, Ok, Err}
use Rattle.std.specs.List.{AllByRecursion}
use Rattle.clog_spec.specs.Sizes.{file_limit}
use Rattle.clog_io.specs.Bytes.{TakesAll}
use Rattle.clog_mutation.specs.declared.mutation.Mutation.{Mutation}
use Rattle.clog_text.specs.declared.refusal.BadLine.{BadLine}
use Rattle.clog_text.specs.declared.refusal.BadLine.TheVariants.{OutOfMemory as no_memory}
use Rattle.clog_text.specs.FileLines.{lines_of, line_limit}
use Rattle.clog_text.specs.FileMutations.{file_mutations}
use Rattle.clog_shares.specs.Fitting.{HasFittingEntry, HasLargeMutation}

-- The file is not too long, and has not too many lines.
pub record IsSplit (bytes : List ℕ) : Type 0 where
  pub few_bytes : length bytes ≤ file_limit
  pub few_lines : length (lines_of bytes) ≤ line_limit

-- Each of its lines says a mutation.
pub record IsRead (bytes : List ℕ) (mutations : List Mutation) : Type 0 where
  pub split : IsSplit bytes
  pub read : file_mutations bytes ≡ Ok mutations

-- And each mutation's entry is not too large.
pub record IsSized (capacity : ℕ) (bytes : List ℕ) (mutations : List Mutation) : Type 0 where
  pub read : IsRead bytes mutations
  pub sized : AllByRecursion (HasFittingEntry capacity) mutations

-- The file has too many lines.
pub record HasManyLines (bytes : List ℕ) : Type 0 where
  pub few_bytes : length bytes ≤ file_limit
  pub many_lines : line_limit < length (lines_of bytes)

-- The first line that is refused is this one, for this cause.
pub record HasBadLine (bytes : List ℕ) (number : ℕ) (cause : BadLine) : Type 0 where
  pub split : IsSplit bytes
  pub refused : file_mutations bytes ≡ Err (number, cause)
  pub known : cause ≡ no_memory → ⊥

-- No line is refused, and the first whose entry is too large is this one.
pub record HasLargeLine (capacity : ℕ) (bytes : List ℕ) (number size most : ℕ) : Type 0 where
  pub mutations : List Mutation
  pub read : IsRead bytes mutations
  pub large : HasLargeMutation capacity mutations number size most

-- All is good.
pub record IsGood (capacity : ℕ) (bytes : List ℕ) : Type 0 where
  pub mutations : List Mutation
  pub sized : IsSized capacity bytes mutations

-- a source was read to its end, and the bytes that it gave are such
abbrev pub Takes : Option (List ℕ) → Option (List ℕ) → (List ℕ → Type 0) → Type 0
Takes left left_now P = (bytes : List ℕ) × TakesAll left left_now bytes × P bytes
