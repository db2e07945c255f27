-- What `apply` does to the disk and reports, and why it does not.
use Rattle.std.specs.Prelude.{◌≡◌, ◌⊎◌, ℕ, ◌<◌, List, length, false, IfSome, Result}
use Rattle.std.specs.declared.result.Result.TheVariants as result
use Rattle.clog_base.specs.declared.fault.Quantity.TheVariants.{FileBytes, Lines, SegmentBytes, Ids}
use Rattle.clog_base.specs.declared.fault.Quantity.TheVariants.{TableFiles}
use Rattle.clog_io.specs.Bytes.{TakesAll}
use Rattle.clog_io.specs.Causes.{Rose}
use Rattle.clog_mutation.specs.declared.mutation.Mutation.{Mutation}
use Rattle.clog_text.specs.FileLines.{line_limit}
use Rattle.clog_spec.specs.Sizes.{file_limit}
use Rattle.clog_words.specs.declared.request.ApplyOptions.{ApplyOptions}
use Rattle.clog_crash.specs.Folder.{IsFirstBad}
use Rattle.clog_folder.specs.Folder.{HasDamage, HasLongSegment}
use Rattle.clog_segments.specs.Named.{sequence_limit, id_limit}
use Rattle.clog_segments.specs.Opened.{HasGreatId, HasManyTables}
use Rattle.clog_applied.specs.Asked.{capacity_of}
use Rattle.clog_engine.specs.declared.status.Status.{Status}
use Rattle.clog_engine.specs.declared.status.Status.TheVariants.{BadLine, TooLarge, ReadFault}
use Rattle.clog_engine.specs.declared.status.Status.TheVariants.{DiskFault, Damaged, BadTable}
use Rattle.clog_engine.specs.declared.status.Status.TheVariants.{OutOfMemory, Limit}
use Rattle.clog_engine.specs.Input.{HasManyLines, HasBadLine, HasLargeLine, IsGood, IsSized, Takes}
use Rattle.clog_engine.specs.Logged.{AreApplied, AreLogged, KeepsAll}
use Rattle.clog_engine.specs.Outside.{Outside, IsLeftAlone}

-- The source was read to its end, and the bytes that it gave are such.
abbrev pub ReadsToEnd : Outside → (List ℕ → Type 0) → Type 0
ReadsToEnd o P = Takes o.left o.left_now P

-- The lines of the file are applied.
pub record IsApplied (o : Outside) (options : ApplyOptions) (report bytes : List ℕ) : Type 0 where
  pub mutations : List Mutation
  pub sized : IsSized (capacity_of options) bytes mutations
  pub applied : AreApplied o options mutations report

-- ---- the run is refused

-- All was good, the folder could be opened, and the run broke off while the lines were written.
pub record IsPartly (options : ApplyOptions) (o : Outside) : Type 0 where
  pub bytes : List ℕ
  pub taken : TakesAll o.left o.left_now bytes
  pub mutations : List Mutation
  pub sized : IsSized (capacity_of options) bytes mutations
  pub logged : AreLogged o options mutations 0

-- the disk was left alone, or the folder restores the same, or the first of the lines came
abbrev pub LeavesPart : ApplyOptions → Outside → Type 0
LeavesPart options o = IsLeftAlone o ⊎ (KeepsAll o ⊎ IsPartly options o)

-- the whole file was read, and each of its lines is good
abbrev pub ReadsGood : ApplyOptions → Outside → Type 0
ReadsGood options o = ReadsToEnd o (IsGood (capacity_of options))

-- Why nothing is reported, and what is left of the disk: each row with all that comes before it.
abbrev pub ApplyRefuses : ApplyOptions → Status → Outside → Type 0
ApplyRefuses options (BadLine number cause) o =
    ReadsToEnd o (λ bytes. HasBadLine bytes number cause) × IsLeftAlone o
ApplyRefuses options (TooLarge number size most) o =
    ReadsToEnd o (λ bytes. HasLargeLine (capacity_of options) bytes number size most)
    × IsLeftAlone o
ApplyRefuses options ReadFault o = Rose o.source_faults o.source_faults_now × IsLeftAlone o
ApplyRefuses options DiskFault o =
    ReadsGood options o × Rose o.disk_faults o.disk_faults_now × LeavesPart options o
ApplyRefuses options (Damaged name at cause) o =
    ReadsGood options o × IfSome o.files (λ files. HasDamage files name at cause)
    × IsLeftAlone o
ApplyRefuses options (BadTable name fault) o =
    ReadsGood options o × IfSome o.files (λ files. IsFirstBad files name fault)
    × IsLeftAlone o
ApplyRefuses options OutOfMemory o = LeavesPart options o
ApplyRefuses options (Limit FileBytes most) o =
    (most ≡ file_limit) × IfSome o.left (λ bytes. file_limit < length bytes) × IsLeftAlone o
ApplyRefuses options (Limit Lines most) o =
    (most ≡ line_limit) × ReadsToEnd o HasManyLines × IsLeftAlone o
ApplyRefuses options (Limit SegmentBytes most) o =
    (most ≡ file_limit) × ReadsGood options o × IfSome o.files (HasLongSegment false)
    × IsLeftAlone o
ApplyRefuses options (Limit TableFiles most) o =
    (most ≡ sequence_limit) × ReadsGood options o × IfSome o.files HasManyTables
    × IsLeftAlone o
ApplyRefuses options (Limit Ids most) o =
    (most ≡ id_limit) × ReadsGood options o × IfSome o.files HasGreatId × IsLeftAlone o
ApplyRefuses options other o = ⊥

-- a report, or why there is none
abbrev pub Applies : ApplyOptions → Outside → Result (List ℕ) Status → Type 0
Applies options o (result.Ok report) = ReadsToEnd o (IsApplied o options report)
Applies options o (result.Err status) = ApplyRefuses options status o
