-- What a drill answers, from what its steps answered.
use Rattle.std.proofs.Common.{◌≡◌, ℕ, List, Option, Some, None, Result, Ok as ok, Err as err, inl}
use Rattle.std.proofs.Common.{inr, false, refl, sym, subst, arith}
use Rattle.std.specs.Prelude.{is_some}
use Rattle.clog_base.specs.declared.fault.Quantity.TheVariants.{FileBytes, Lines, SegmentBytes, Ids}
use Rattle.clog_base.specs.declared.fault.Quantity.TheVariants.{TableFiles}
use Rattle.clog_disk.specs.Files.{Files, Told}
use Rattle.std.specs.List.{AllByRecursion}
use Rattle.clog_mutation.specs.declared.mutation.Mutation.{Mutation}
use Rattle.clog_words.specs.declared.request.ApplyOptions.{ApplyOptions}
use Rattle.clog_crash.specs.Folder.{IsFirstBad}
use Rattle.clog_folder.specs.Folder.{HasDamage, HasLongSegment}
use Rattle.clog_shares.specs.Fitting.{HasFittingEntry}
use Rattle.clog_engine.specs.Completes.{IsReplayable}
use Rattle.clog_engine.specs.declared.status.Status.{Status}
use Rattle.clog_engine.specs.declared.status.Status.TheVariants.{Ok, Usage, BadLine, TooLarge}
use Rattle.clog_engine.specs.declared.status.Status.TheVariants.{ReadFault, WriteFault, DiskFault}
use Rattle.clog_engine.specs.declared.status.Status.TheVariants.{Damaged, BadTable, OutOfMemory}
use Rattle.clog_engine.specs.declared.status.Status.TheVariants.{Limit, Absent}
use Rattle.clog_engine.specs.Drill.{DrillRefuses, DrillsLines, IsRefusedFor, TellsFolder}
use Rattle.clog_engine.specs.Drill.{drill_options}
use Rattle.clog_engine.specs.Planning.{LinesRefused}
use Rattle.clog_engine.specs.Logged.{AppliesLines, AreApplied, LinesRefuse}
use Rattle.clog_engine.specs.Outside.{Outside}
use Rattle.clog_engine.specs.Quiet.{IsRefusedBefore, TellsEach}
use Rattle.clog_engine.specs.Replaying.{ReplayRefused}
use Rattle.clog_engine.proofs.GoodInput.{none_is_large}
use Rattle.clog_engine.proofs.Quiet.{replayed_at}
use Rattle.clog_engine.proofs.Readable.{no_bad_table, no_damage, no_long_segment, reads_behind}

-- ---- the lines are refused

pub refuses_drill : (ms : List Mutation) (status : Status) (o : Outside)
    → LinesRefuse drill_options ms status o → DrillRefuses ms status o
refuses_drill ms Ok o refused = absurd refused
refuses_drill ms Usage o refused = absurd refused
refuses_drill ms (BadLine number cause) o refused = absurd refused
refuses_drill ms (TooLarge number size most) o refused = absurd refused
refuses_drill ms ReadFault o refused = absurd refused
refuses_drill ms WriteFault o refused = absurd refused
refuses_drill ms DiskFault o refused = (refused.0, inl refused.1)
refuses_drill ms (Damaged name at cause) o refused = inl refused
refuses_drill ms (BadTable name fault) o refused = inl refused
refuses_drill ms OutOfMemory o refused = inl refused
refuses_drill ms (Limit FileBytes most) o refused = absurd refused
refuses_drill ms (Limit Lines most) o refused = absurd refused
refuses_drill ms (Limit SegmentBytes most) o refused = (refused.0, inl (refused.1, refused.2))
refuses_drill ms (Limit Ids most) o refused = refused
refuses_drill ms (Limit TableFiles most) o refused = refused
refuses_drill ms (Absent name) o refused = absurd refused

-- ---- the folder is not read behind them

module _ (ms : List Mutation) (o : Outside) (text : List ℕ)
    (applied : AreApplied o drill_options ms text)
    (both : is_some o.changes ≡ is_some o.files) where
  reads : (before : Files) → o.files ≡ Some before → Told o.files_now (IsReplayable false)
  reads = reads_behind o drill_options ms text (omega arith) both applied.run

  -- it is refused there by a disk alone that does not tell its files
  behind : (P : Files → Type 0) → (Told o.files_now (IsReplayable false) → ⊥)
      → IsRefusedFor o ms P
  behind P clash = by o.files refl
    where
      by : (files : Option Files) → o.files ≡ files → IsRefusedFor o ms P
      by None is = inr (is, (text, applied))
      by (Some before) is = absurd (clash (reads before is))

  refused_behind : (status : Status)
      → ReplayRefused false o.files_now o.disk_faults o.disk_faults_now status
      → DrillRefuses ms status o
  refused_behind Ok refused = absurd refused
  refused_behind Usage refused = absurd refused
  refused_behind (BadLine number cause) refused = absurd refused
  refused_behind (TooLarge number size most) refused = absurd refused
  refused_behind ReadFault refused = absurd refused
  refused_behind WriteFault refused = absurd refused
  refused_behind DiskFault refused = (refused, inr (text, applied))
  refused_behind (Damaged name at cause) refused =
      behind (λ files. HasDamage files name at cause)
      (λ fit. no_damage false o.files_now name at cause fit refl refused.1)
  refused_behind (BadTable name fault) refused =
      behind (λ files. IsFirstBad files name fault)
      (λ fit. no_bad_table false o.files_now name fault fit refused)
  refused_behind OutOfMemory refused = inr (text, applied)
  refused_behind (Limit FileBytes most) refused = absurd refused
  refused_behind (Limit Lines most) refused = absurd refused
  refused_behind (Limit SegmentBytes most) refused = (
    refused.0,
    behind (HasLongSegment false)
        (λ fit. no_long_segment false o.files_now fit refused.1),
  )
  refused_behind (Limit Ids most) refused = absurd refused
  refused_behind (Limit TableFiles most) refused = absurd refused
  refused_behind (Absent name) refused = absurd refused

  told_drill : (result : Result (List ℕ) Status)
      → TellsFolder ms o.files_now o.disk_faults o.disk_faults_now result
      → DrillsLines ms o result
  told_drill (ok report) told = record { text = text; applied = applied; told = told }
  told_drill (err status) refused = refused_behind status refused

-- at the end of a drill, whose lines were applied on a disk that told these files and faults
pub drilled : (ms : List Mutation) (o : Outside) (text : List ℕ) (files : Option Files) (f : ℕ)
    (result : Result (List ℕ) Status) → AreApplied o drill_options ms text
    → is_some o.changes ≡ is_some o.files → o.files_now ≡ files → f ≡ o.disk_faults
    → TellsFolder ms files f o.disk_faults_now result → DrillsLines ms o result
drilled ms o text files f result applied both same quiet told =
    told_drill ms o text applied both result
    (subst (λ (x : Option Files). TellsFolder ms x o.disk_faults o.disk_faults_now result)
    (sym same) (subst (λ (n : ℕ). TellsFolder ms files n o.disk_faults_now result) quiet told))

-- ---- by what the steps answered

pub lines_refused : (ms : List Mutation) (o : Outside) (options : ApplyOptions)
    (outcome : Result (List ℕ) Status) (status : Status) → options ≡ drill_options
    → outcome ≡ err status → AppliesLines options ms o outcome → DrillRefuses ms status o
lines_refused ms o options outcome status same is applies =
    refuses_drill ms status o
    (subst (λ (a : ApplyOptions). AppliesLines a ms o (err status)) same
    (subst (AppliesLines options ms o) is applies))

pub applied_at : (ms : List Mutation) (o : Outside) (options : ApplyOptions)
    (outcome : Result (List ℕ) Status) (text : List ℕ) → options ≡ drill_options
    → outcome ≡ ok text → AppliesLines options ms o outcome → AreApplied o drill_options ms text
applied_at ms o options outcome text same is applies =
    subst (λ (a : ApplyOptions). AppliesLines a ms o (ok text)) same
    (subst (AppliesLines options ms o) is applies)

pub quiet_at : (outcome : Result (List ℕ) Status) (text : List ℕ) (f g : ℕ) → outcome ≡ ok text
    → TellsEach f g outcome → g ≡ f
quiet_at outcome text f g is quiet = subst (TellsEach f g) is quiet

-- lines that fit are planned, or memory is missing
pub memory_alone : (ms : List Mutation) (capacity : ℕ) (status : Status)
    → AllByRecursion (HasFittingEntry capacity) ms → LinesRefused capacity ms status
    → status ≡ OutOfMemory
memory_alone ms capacity Ok fit refused = absurd refused
memory_alone ms capacity Usage fit refused = absurd refused
memory_alone ms capacity (BadLine number cause) fit refused = absurd refused
memory_alone ms capacity (TooLarge number size most) fit refused =
    absurd (none_is_large capacity ms number size most fit refused)
memory_alone ms capacity ReadFault fit refused = absurd refused
memory_alone ms capacity WriteFault fit refused = absurd refused
memory_alone ms capacity DiskFault fit refused = absurd refused
memory_alone ms capacity (Damaged name at cause) fit refused = absurd refused
memory_alone ms capacity (BadTable name fault) fit refused = absurd refused
memory_alone ms capacity OutOfMemory fit refused = refl
memory_alone ms capacity (Limit what most) fit refused = absurd refused
memory_alone ms capacity (Absent name) fit refused = absurd refused

-- a folder that is not told was called
pub told_calls : (ms : List Mutation) (files : Option Files) (f g : ℕ)
    (result : Result (List ℕ) Status) → TellsFolder ms files f g result → IsRefusedBefore result
    → ⊥
told_calls ms files f g (ok report) told before = before
told_calls ms files f g (err status) told before = replayed_at false files f g status told before
