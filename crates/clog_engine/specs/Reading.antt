-- What the steps of reading answer: for private clauses.
use Rattle.std.specs.Prelude.{◌≡◌, ℕ, ◌<◌, ◌≤◌, List, length}
use Rattle.std.specs.Prelude.{Option, IfSome, ⊤, Result, Vec}
use Rattle.std.specs.declared.alloc.Global.{Global}
use Rattle.std.specs.declared.result.Result.TheVariants as result
use Rattle.clog_base.specs.declared.fault.Quantity.TheVariants.{FileBytes, Lines}
use Rattle.clog_io.specs.Bytes.{TakesAll}
use Rattle.clog_io.specs.Causes.{Rose}
use Rattle.clog_mutation.specs.declared.mutation.Mutation.{Mutation}
use Rattle.clog_text.specs.FileLines.{lines_of, line_limit}
use Rattle.clog_text.specs.FileMutations.{file_mutations}
use Rattle.clog_text.specs.declared.refusal.BadLine.TheVariants.{OutOfMemory as no_memory}
use Rattle.clog_engine.specs.declared.status.Status.{Status}
use Rattle.clog_engine.specs.declared.status.Status.TheVariants.{
  BadLine,
  ReadFault,
  OutOfMemory,
  Limit,
}
use Rattle.clog_spec.specs.Sizes.{file_limit}

-- ---- the bytes of the source

abbrev pub BytesRefused : Option (List ℕ) → ℕ → ℕ → Status → Type 0
BytesRefused left faults now ReadFault = Rose faults now
BytesRefused left faults now OutOfMemory = ⊤
BytesRefused left faults now (Limit FileBytes most) =
    (most ≡ file_limit) × IfSome left (λ bytes. file_limit < length bytes)
BytesRefused left faults now other = ⊥

-- these bytes were taken, and the source is at its end
pub record TakesFile (left left_now : Option (List ℕ)) (bytes : List ℕ) : Type 0 where
  pub taken : TakesAll left left_now bytes
  pub few : length bytes ≤ file_limit

abbrev pub GivesBytes : Option (List ℕ) → Option (List ℕ) → ℕ → ℕ
    → Result (Vec ℕ Global) Status → Type 0
GivesBytes left left_now faults now (result.Ok bytes) = TakesFile left left_now bytes.items
GivesBytes left left_now faults now (result.Err status) = BytesRefused left faults now status

-- ---- the mutations of the file

abbrev pub MutationsRefused : List ℕ → Status → Type 0
MutationsRefused bytes (BadLine number cause) =
    (length (lines_of bytes) ≤ line_limit)
    × (file_mutations bytes ≡ result.Err (number, cause)) × (cause ≡ no_memory → ⊥)
MutationsRefused bytes OutOfMemory = ⊤
MutationsRefused bytes (Limit Lines most) =
    (most ≡ line_limit) × (line_limit < length (lines_of bytes))
MutationsRefused bytes other = ⊥

abbrev pub GivesMutations : List ℕ → Result (List Mutation) Status → Type 0
GivesMutations bytes (result.Ok mutations) =
    (length (lines_of bytes) ≤ line_limit) × (file_mutations bytes ≡ result.Ok mutations)
GivesMutations bytes (result.Err status) = MutationsRefused bytes status
