-- What becomes of lines that are to be logged, however they came: what a crash leaves of them, what
-- is so when all of them are applied, and what is left where they are not.
use Rattle.std.specs.Prelude.{◌≡◌, ◌⊎◌, ℕ, ◌<◌, ◌≤◌, List, ◌++◌, length, map, take, false}
use Rattle.std.specs.Prelude.{Contains, Option, Some, None, IfSome, is_some, option_map, Result}
use Rattle.std.specs.declared.result.Result.TheVariants as result
use Rattle.std.specs.List.{AllPairs, flat_map}
use Rattle.clog_base.specs.declared.cell.Cell.{Cell}
use Rattle.clog_base.specs.declared.cell.CellKey.{CellKey}
use Rattle.clog_base.specs.declared.sizes.Sizes.{Sizes}
use Rattle.clog_base.specs.declared.fault.Quantity.TheVariants.{SegmentBytes, Ids, TableFiles}
use Rattle.clog_io.specs.Causes.{Rose}
use Rattle.clog_disk.specs.declared.change.Change.{Change}
use Rattle.clog_disk.specs.Files.{Files, SameTold, Told, bytes_at}
use Rattle.clog_disk.specs.Images.{IsImage}
use Rattle.clog_mutation.specs.declared.mutation.Mutation.{Mutation}
use Rattle.clog_mutation.specs.Payload.{cells_of}
use Rattle.clog_spec.specs.Sizes.{file_limit}
use Rattle.clog_words.specs.declared.request.ApplyOptions.{ApplyOptions}
use Rattle.clog_crash.specs.Covering.{Either, SameMerge}
use Rattle.clog_crash.specs.Folder.{IsFirstBad}
use Rattle.clog_crash.specs.Grown.{appends_of}
use Rattle.clog_crash.specs.Log.{NoChances, Write}
use Rattle.clog_crash.specs.Readings.{RestoresIn}
use Rattle.clog_crash.specs.Restore.{IsUndamaged}
use Rattle.clog_folder.specs.Folder.{HasDamage, HasLongSegment}
use Rattle.clog_segments.specs.Named.{sequence_limit, id_limit}
use Rattle.clog_segments.specs.Opened.{CanBeOpened, HasGreatId, HasManyTables, IsOpened}
use Rattle.clog_segments.specs.Opened.{KeepsFolder, RecoversAll, RecoversFirst, WasLeftOr}
use Rattle.clog_applied.specs.Applied.{IsAppliedRun}
use Rattle.clog_applied.specs.Closed.{ClosedRun}
use Rattle.clog_applied.specs.Filed.{BringsNoOther, IsAbove, KeepsOthers}
use Rattle.clog_applied.specs.History.{LoggedLine}
use Rattle.clog_applied.specs.Onward.{ReachesNoFurther}
use Rattle.clog_applied.specs.Printed.{ReportIsPrinted}
use Rattle.clog_closing.specs.Logs.{id_of}
use Rattle.clog_closing.specs.NextNames.{HaveNextNames}
use Rattle.clog_closing.specs.Written.{AreMadeFor, GoesBeyond, IsWrittenBy}
use Rattle.clog_writers.specs.Left.{SaysShares, said_by}
use Rattle.clog_writers.specs.Written.{BeginsIn, HasReceipts}
use Rattle.write_path.specs.declared.commit.Receipt.{Receipt}
use Rattle.clog_engine.specs.declared.status.Status.{Status}
use Rattle.clog_engine.specs.declared.status.Status.TheVariants.{DiskFault, Damaged, BadTable}
use Rattle.clog_engine.specs.declared.status.Status.TheVariants.{OutOfMemory, Limit}
use Rattle.clog_engine.specs.Outside.{Outside, IsLeftAlone}
use Rattle.clog_engine.specs.Report.{IsReport, head_with}
use Rattle.clog_engine.specs.Request.{AreSizesOf}

-- ---- what a crash leaves

-- An image restores what the folder restored before, and the first of these lines, at least so
-- many. It has no damage that was not there.
pub record AddsFirst (before : Files) (mutations : List Mutation) (least : ℕ) (image : Files)
    : Type 0 where
  pub n : ℕ
  pub enough : least ≤ n
  pub some : n ≤ length mutations
  pub restores :
      SameMerge (RestoresIn (bytes_at image))
      (Either (RestoresIn (bytes_at before)) (Contains (flat_map cells_of (take n mutations))))
  pub undamaged : IsUndamaged before → IsUndamaged image

-- The run's changes are those of a recovery, and then others whose appends have brought these
-- segments, listed in the order of their ids, each of which is above all that the folder named
-- before. By these so many writers log the lines, from a base above all that on. Without a flush
-- limit they are appends alone, or those of a drain that has begun; with one, those of writers that
-- flush; and each comes in its turn.
pub record HasWrittenLog (o : Outside) (options : ApplyOptions) (before : Files)
    (mutations : List Mutation) (log : List Write) : Type 0 where
  pub between : Option (List Change)
  pub recovered : RecoversAll before o.changes between
  pub added : List Change
  pub changes_are : o.changes_now ≡ option_map (λ made. made ++ added) between
  pub base : ℕ
  pub base_new : IsAbove before base
  pub made_for :
      AreMadeFor (is_some options.flush_at) options.archive options.drain base options.writers
      mutations o.files_now added
  pub brought : IsWrittenBy (appends_of added) log
  pub rise : AllPairs (λ (a b : Write). a.id < b.id) log
  pub new : (w : Write) → Contains log w → IsAbove before w.id

-- Where the disk tells its files, these are all changes that it tells, and the segments say a
-- history whose lines are, of each writer, the first of its share. No other name has come than
-- those of these segments, their archive names and table files.
abbrev pub Wrote : Outside → ApplyOptions → List Mutation → Type 0
Wrote o options mutations = IfSome o.files
    (λ before. (log : List Write) × (history : List LoggedLine)
    × HasWrittenLog o options before mutations log
    × SaysShares options.writers mutations log history
    × Told o.files_now (BringsNoOther (map id_of log) before))

-- A crash at any moment of the run leaves what it might have left before the run, or what restores
-- so; and a crash now at least so many of the lines. That is where nothing passes by chance for
-- what was written: the segments that were appended, which say a history whose lines are, of each
-- writer, the first of its share. Its lines come in the order of the log. Where the changes go
-- beyond appends, and there is no flush limit, a crash now leaves all of them.
pub record LeavesFirst (o : Outside) (options : ApplyOptions) (before : Files)
    (mutations : List Mutation) (least : ℕ) : Type 0 where
  pub log : List Write
  pub history : List LoggedLine
  pub wrote : HasWrittenLog o options before mutations log
  pub says : SaysShares options.writers mutations log history
  pub since : (image : Files) → o.since image → WasLeftOr o.leaves
      (λ left. NoChances log left → AddsFirst before (said_by history) 0 left) image
  pub now : (image : Files) → IsImage o.leaves_now image → NoChances log image
      → AddsFirst before (said_by history) least image
  pub at_drain : options.flush_at ≡ None → GoesBeyond wrote.added → (image : Files)
      → IsImage o.leaves_now image → NoChances log image
      → AddsFirst before (said_by history) (length mutations) image

-- where the disk tells its files, a crash leaves that
abbrev pub LastsFirst : Outside → ApplyOptions → List Mutation → ℕ → Type 0
LastsFirst o options mutations least =
    IfSome o.files (λ before. LeavesFirst o options before mutations least)

-- ---- the run ends well

-- The folder was opened at a moment that the clock told, from which and from the ids that it named
-- the base is; the run is closed, and its table files have the next names of their tables. Its
-- first line stands in the segment of that base, and it reaches no further than its lines. So its
-- promises are kept.
pub record IsRun (o : Outside) (options : ApplyOptions) (mutations : List Mutation)
    (report : List ℕ) (before after : Files) (added : List Change) : Type 0 where
  pub closed : ClosedRun options before after added mutations
  pub moment : ℕ
  pub told : o.tells moment
  pub opened : IsOpened before moment closed.base closed.opened
  pub begins : BeginsIn closed.base closed.history
  pub reach : ReachesNoFurther options closed.base closed.later closed.ids closed.history
      closed.files
  pub names : HaveNextNames closed.opened after closed.files
  pub printed : ReportIsPrinted options after (length mutations) closed.history report
  pub kept : IsAppliedRun options before after added mutations report

-- The disk tells its files and its changes still, which are those of before and others; and it has
-- turned so.
pub record Becomes (o : Outside) (made : List Change) (P : Files → List Change → Type 0) : Type 0
  where
    pub after : Files
    pub added : List Change
    pub files_are : o.files_now ≡ Some after
    pub changes_are : o.changes_now ≡ Some (made ++ added)
    pub is : P after added

-- The same of a disk that told its files and its changes before.
abbrev pub Turns : Outside → (Files → Files → List Change → Type 0) → Type 0
Turns o P = (before : Files) (made : List Change) → o.files ≡ Some before
    → o.changes ≡ Some made → Becomes o made (P before)

-- The report of lines that writers of a path have logged from some base on, over some cells: each
-- writer its share, in order.
pub record IsReported (options : ApplyOptions) (mutations : List Mutation) (report : List ℕ)
    : Type 0 where
  pub sizes : Sizes
  pub sizes_are : AreSizesOf options sizes
  pub base : ℕ
  pub receipts : List Receipt
  pub logged : HasReceipts sizes base mutations receipts
  pub cells : List (CellKey × Cell)
  pub text : IsReport options.dump (head_with options.receipts receipts) cells mutations report

-- The folder could be opened, and the lines of each writer's share came up to some place, of which
-- a crash leaves at least so many. Each file of before that is no segment stands as it was.
pub record AreLogged (o : Outside) (options : ApplyOptions) (mutations : List Mutation) (least : ℕ)
    : Type 0 where
  pub told : SameTold o.files o.files_now
  pub opened : IfSome o.files CanBeOpened
  pub wrote : Wrote o options mutations
  pub others : IfSome o.files (λ before. Told o.files_now (KeepsOthers before))
  pub lasts : LastsFirst o options mutations least

-- The lines are applied, and what the report says, whatever the disk tells. Each image of now has
-- them all.
pub record AreApplied (o : Outside) (options : ApplyOptions) (mutations : List Mutation)
    (report : List ℕ) : Type 0 where
  pub reported : IsReported options mutations report
  pub logged : AreLogged o options mutations (length mutations)
  pub run : Turns o (IsRun o options mutations report)

-- ---- the run is refused

-- The run broke off before any line was written. The folder restores the same, and each file of
-- before that is no segment stands as it was.
pub record KeepsAll (o : Outside) : Type 0 where
  pub told : SameTold o.files o.files_now
  -- the changes are those of a recovery, or the first of them
  pub changes : IfSome o.files (λ before. RecoversFirst before o.changes o.changes_now)
  pub same : IfSome o.files (λ before. Told o.files_now (KeepsFolder before))
  pub others : IfSome o.files (λ before. Told o.files_now (KeepsOthers before))
  -- and whatever a crash leaves that it might not have left before
  pub lasts : IfSome o.files (λ before. (image : Files) → o.since image
      → WasLeftOr o.leaves (KeepsFolder before) image)

-- the disk was left alone, or the folder restores the same, or the first of the lines came
abbrev pub LeavesSome : ApplyOptions → List Mutation → Outside → Type 0
LeavesSome options mutations o = IsLeftAlone o ⊎ (KeepsAll o ⊎ AreLogged o options mutations 0)

-- Why good lines are not applied, and what is left of the disk: each row with all that comes before
-- it.
abbrev pub LinesRefuse : ApplyOptions → List Mutation → Status → Outside → Type 0
LinesRefuse options mutations DiskFault o =
    Rose o.disk_faults o.disk_faults_now × LeavesSome options mutations o
LinesRefuse options mutations (Damaged name at cause) o =
    IfSome o.files (λ files. HasDamage files name at cause) × IsLeftAlone o
LinesRefuse options mutations (BadTable name fault) o =
    IfSome o.files (λ files. IsFirstBad files name fault) × IsLeftAlone o
LinesRefuse options mutations OutOfMemory o = LeavesSome options mutations o
LinesRefuse options mutations (Limit SegmentBytes most) o =
    (most ≡ file_limit) × IfSome o.files (HasLongSegment false) × IsLeftAlone o
LinesRefuse options mutations (Limit TableFiles most) o =
    (most ≡ sequence_limit) × IfSome o.files HasManyTables × IsLeftAlone o
LinesRefuse options mutations (Limit Ids most) o =
    (most ≡ id_limit) × IfSome o.files HasGreatId × IsLeftAlone o
LinesRefuse options mutations other o = ⊥

-- a report of lines that are applied, or why there is none
abbrev pub AppliesLines : ApplyOptions → List Mutation → Outside → Result (List ℕ) Status → Type 0
AppliesLines options mutations o (result.Ok report) = AreApplied o options mutations report
AppliesLines options mutations o (result.Err status) = LinesRefuse options mutations status o
