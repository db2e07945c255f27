-- What the steps up to planned lines answer: for private clauses.
use Rattle.std.specs.Prelude.{
  ◌≡◌,
  ◌<◌,
  ◌≤◌,
  ℕ,
  List,
  length,
  Bool,
  true,
  Option,
  IfSome,
  ⊤,
  Result,
}
use Rattle.std.specs.declared.result.Result.TheVariants as result
use Rattle.std.specs.List.{AllByRecursion, flat_map}
use Rattle.clog_base.specs.declared.cell.Cell.{Cell}
use Rattle.clog_base.specs.declared.cell.CellKey.{CellKey}
use Rattle.clog_base.specs.declared.fault.Quantity.TheVariants.{FileBytes, Lines}
use Rattle.clog_base.specs.declared.sizes.Sizes.{Sizes}
use Rattle.clog_spec.specs.Sizes.{file_limit}
use Rattle.clog_cells.specs.Merge.{IsMerge}
use Rattle.clog_io.specs.Bytes.{TakesAll}
use Rattle.clog_io.specs.Causes.{Rose}
use Rattle.clog_mutation.specs.declared.mutation.Mutation.{Mutation}
use Rattle.clog_mutation.specs.Payload.{cells_of}
use Rattle.clog_text.specs.FileLines.{line_limit}
use Rattle.clog_shares.specs.Fitting.{HasFittingEntry, HasLargeMutation}
use Rattle.clog_shares.specs.Planned.{IsPlanFor}
use Rattle.clog_engine.specs.declared.shares.PlannedLines.{PlannedLines}
use Rattle.clog_engine.specs.declared.status.Status.{Status}
use Rattle.clog_engine.specs.declared.status.Status.TheVariants.{
  BadLine,
  TooLarge,
  ReadFault,
  OutOfMemory,
  Limit,
}
use Rattle.clog_engine.specs.Input.{HasBadLine, HasLargeLine, HasManyLines, IsSized, Takes}

-- the cells that mutations merge to, where a dump asks for them
pub record IsCellsOf (dump : Bool) (mutations : List Mutation) (cells : List (CellKey × Cell))
    : Type 0 where
  pub merged : dump ≡ true → IsMerge (flat_map cells_of mutations) cells

-- The lines are planned, and each of them fits.
pub record ArePlanned {D : Type 0} (dump : Bool) (sizes : Sizes) (flush : Option ℕ)
    (mutations : List Mutation) (lines : PlannedLines D) : Type 0 where
  pub plan : IsPlanFor sizes flush mutations lines.plan
  pub each : AllByRecursion (HasFittingEntry sizes.capacity) mutations
  pub few : length mutations ≤ line_limit
  pub cells : IsCellsOf dump mutations lines.cells

-- why lines are not planned
abbrev pub LinesRefused : ℕ → List Mutation → Status → Type 0
LinesRefused capacity mutations (TooLarge number size most) =
    HasLargeMutation capacity mutations number size most
LinesRefused capacity mutations OutOfMemory = ⊤
LinesRefused capacity mutations other = ⊥

-- planned lines, or why there are none
abbrev pub PlansLines : {D : Type 0} → Bool → Sizes → Option ℕ → List Mutation
    → Result (PlannedLines D) Status → Type 0
PlansLines dump sizes flush mutations (result.Ok lines) =
    ArePlanned dump sizes flush mutations lines
PlansLines dump sizes flush mutations (result.Err status) =
    LinesRefused sizes.capacity mutations status

-- why a mutation file is refused by itself, or its source
abbrev pub FileRefused : ℕ → Option (List ℕ) → Option (List ℕ) → ℕ → ℕ → Status → Type 0
FileRefused capacity left left_now faults now (BadLine number cause) =
    Takes left left_now (λ bytes. HasBadLine bytes number cause)
FileRefused capacity left left_now faults now (TooLarge number size most) =
    Takes left left_now (λ bytes. HasLargeLine capacity bytes number size most)
FileRefused capacity left left_now faults now ReadFault = Rose faults now
FileRefused capacity left left_now faults now OutOfMemory = ⊤
FileRefused capacity left left_now faults now (Limit FileBytes most) =
    (most ≡ file_limit) × IfSome left (λ bytes. file_limit < length bytes)
FileRefused capacity left left_now faults now (Limit Lines most) =
    (most ≡ line_limit) × Takes left left_now HasManyLines
FileRefused capacity left left_now faults now other = ⊥

-- The source gave a file whose lines these are, planned.
pub record HasPlanned {D : Type 0} (dump : Bool) (sizes : Sizes) (flush : Option ℕ)
    (left left_now : Option (List ℕ)) (lines : PlannedLines D) : Type 0 where
  pub bytes : List ℕ
  pub taken : TakesAll left left_now bytes
  pub mutations : List Mutation
  pub sized : IsSized sizes.capacity bytes mutations
  pub planned : ArePlanned dump sizes flush mutations lines

-- the planned lines of the source, or why there are none
abbrev pub ReadsPlan : {D : Type 0} → Bool → Sizes → Option ℕ → Option (List ℕ)
    → Option (List ℕ) → ℕ → ℕ → Result (PlannedLines D) Status → Type 0
ReadsPlan dump sizes flush left left_now faults now (result.Ok lines) =
    HasPlanned dump sizes flush left left_now lines
ReadsPlan dump sizes flush left left_now faults now (result.Err status) =
    FileRefused sizes.capacity left left_now faults now status
