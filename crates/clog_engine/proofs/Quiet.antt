-- Faults of the disk are told, and what is refused before the listing calls no disk.
use Rattle.std.proofs.Common.{◌≡◌, ℕ, List, Option, Result, Ok, Err, sym, subst, ◌∙◌}
use Rattle.std.specs.Prelude.{Bool, ◌≢◌}
use Rattle.clog_base.specs.declared.fault.Quantity.TheVariants.{FileBytes, Lines, SegmentBytes, Ids}
use Rattle.clog_base.specs.declared.fault.Quantity.TheVariants.{TableFiles}
use Rattle.clog_disk.specs.Files.{Files}
use Rattle.clog_disk.specs.declared.disk.DiskFault.{DiskFault as Fault}
use Rattle.clog_disk.specs.declared.disk.DiskFault.TheVariants.{Failed, NoSuchFile}
use Rattle.clog_disk.specs.declared.disk.DiskFault.TheVariants.{OutOfMemory as NoMemory}
use Rattle.clog_folder.specs.declared.fault.OpenFault.{OpenFault}
use Rattle.clog_folder.specs.declared.fault.OpenFault.TheVariants as folder
use Rattle.clog_folder.specs.declared.fault.OpenFault.TheVariants.{Disk}
use Rattle.clog_folder.specs.Passing.{TellsFault}
use Rattle.clog_engine.specs.declared.status.Status.{Status}
use Rattle.clog_engine.specs.declared.status.Status.TheVariants.{Ok as Good, Usage, BadLine}
use Rattle.clog_engine.specs.declared.status.Status.TheVariants.{TooLarge, ReadFault, WriteFault}
use Rattle.clog_engine.specs.declared.status.Status.TheVariants.{DiskFault, Damaged, BadTable}
use Rattle.clog_engine.specs.declared.status.Status.TheVariants.{OutOfMemory, Limit, Absent}
use Rattle.clog_text.specs.declared.refusal.BadLine.{BadLine as BadLineCause}
use Rattle.clog_engine.specs.Refusal.{folder_status, status_of}
use Rattle.clog_engine.specs.Before.{FolderRefuses}
use Rattle.clog_engine.specs.Outside.{Sinks}
use Rattle.clog_engine.specs.Quiet.{TellsFaults, TellsEach, IsBeforeDisk, IsRefusedBefore}
use Rattle.clog_engine.specs.Answering.{Prints}
use Rattle.clog_engine.specs.Replaying.{ReplayRefused}
use Rattle.clog_engine.specs.Scanning.{ReadRefused}

-- ---- faults are told

-- a call of the disk that is refused
pub told_of : (fault : Fault) (f g : ℕ) → (fault ≢ Failed → g ≡ f)
    → TellsFaults (status_of fault) f g
told_of Failed f g quiet = λ other. absurd (other cc)
told_of NoSuchFile f g quiet = λ other. absurd (other cc)
told_of NoMemory f g quiet = λ other. quiet (λ is. cc)

-- a folder that is not read
pub told_folder : (refusal : OpenFault) (status : Status) (f g : ℕ) → status ≡ folder_status refusal
    → TellsFault refusal f g → TellsFaults status f g
told_folder Disk status f g is told = λ other. absurd (other is)
told_folder (folder.Damaged name at cause) status f g is told = λ other. told (λ e. cc)
told_folder (folder.BadTable name fault) status f g is told = λ other. told (λ e. cc)
told_folder (folder.Limit what most) status f g is told = λ other. told (λ e. cc)
told_folder folder.OutOfMemory status f g is told = λ other. told (λ e. cc)

-- one that comes behind others that counted none
pub told_on : (status : Status) (f g k : ℕ) → g ≡ f → TellsFaults status g k
    → TellsFaults status f k
told_on status f g k same told = λ other. told other ∙ same

-- the same of an answer
pub quiet_on : {T : Type 0} (r : Result T Status) (f g k : ℕ) → g ≡ f → TellsEach g k r
    → TellsEach f k r
quiet_on (Ok x) f g k same told = told ∙ same
quiet_on (Err status) f g k same told = told_on status f g k same told

-- where none was counted, whatever the answer
pub still : {T : Type 0} (r : Result T Status) (f g : ℕ) → g ≡ f → TellsEach f g r
still (Ok x) f g same = same
still (Err status) f g same = λ other. same

-- what is printed tells what came of it
pub printed_quiet : (outcome : Result (List ℕ) Status) (status : Status) (s : Sinks) (f g : ℕ)
    → Prints outcome status s → TellsEach f g outcome → TellsFaults status f g
printed_quiet (Ok report) status s f g printed quiet = λ other. quiet
printed_quiet (Err refusal) status s f g printed quiet =
    subst (λ (x : Status). TellsFaults x f g) (sym printed.0) quiet

-- ---- the disk is not called

reports_call : (report : List ℕ) (status : Status) (s : Sinks) → Prints (Ok report) status s
    → IsBeforeDisk status → ⊥
reports_call report Good s printed before = before
reports_call report Usage s printed before = printed
reports_call report (BadLine number cause) s printed before = printed
reports_call report (TooLarge number size most) s printed before = printed
reports_call report ReadFault s printed before = printed
reports_call report WriteFault s printed before = before
reports_call report DiskFault s printed before = printed
reports_call report (Damaged name at cause) s printed before = printed
reports_call report (BadTable name fault) s printed before = printed
reports_call report OutOfMemory s printed before = printed
reports_call report (Limit what most) s printed before = printed
reports_call report (Absent name) s printed before = printed

pub printed_before : (outcome : Result (List ℕ) Status) (status : Status) (s : Sinks)
    → Prints outcome status s → IsBeforeDisk status → IsRefusedBefore outcome
printed_before (Ok report) status s printed before =
    reports_call report status s printed before
printed_before (Err refusal) status s printed before =
    subst IsBeforeDisk printed.0 before

-- a refusal of the disk is no such one
pub of_the_disk : (fault : Fault) → IsBeforeDisk (status_of fault) → ⊥
of_the_disk Failed before = before
of_the_disk NoSuchFile before = before
of_the_disk NoMemory before = before

-- nor is any for which nothing gives the answers that come before the disk is called
refused_behind : (refuses : Status → Type 0) → (refuses Usage → ⊥)
    → ((number : ℕ) (cause : BadLineCause) → refuses (BadLine number cause) → ⊥)
    → ((number size most : ℕ) → refuses (TooLarge number size most) → ⊥)
    → (refuses ReadFault → ⊥) → ((most : ℕ) → refuses (Limit FileBytes most) → ⊥)
    → ((most : ℕ) → refuses (Limit Lines most) → ⊥) → (status : Status) → refuses status
    → IsBeforeDisk status → ⊥
refused_behind refuses words line large source bytes lines Usage refused before = words refused
refused_behind refuses words line large source bytes lines (BadLine number cause) refused before =
    line number cause refused
refused_behind refuses words line large source bytes lines (TooLarge number size most) refused
    before =
    large number size most refused
refused_behind refuses words line large source bytes lines ReadFault refused before =
    source refused
refused_behind refuses words line large source bytes lines (Limit FileBytes most) refused before =
    bytes most refused
refused_behind refuses words line large source bytes lines (Limit Lines most) refused before =
    lines most refused
refused_behind refuses words line large source bytes lines Good refused before = before
refused_behind refuses words line large source bytes lines WriteFault refused before = before
refused_behind refuses words line large source bytes lines DiskFault refused before = before
refused_behind refuses words line large source bytes lines (Damaged name at cause) refused before =
    before
refused_behind refuses words line large source bytes lines (BadTable name fault) refused before =
    before
refused_behind refuses words line large source bytes lines OutOfMemory refused before = before
refused_behind refuses words line large source bytes lines (Limit SegmentBytes most) refused
    before =
    before
refused_behind refuses words line large source bytes lines (Limit Ids most) refused before = before
refused_behind refuses words line large source bytes lines (Limit TableFiles most) refused before =
    before
refused_behind refuses words line large source bytes lines (Absent name) refused before = before

-- nor is one that comes of looking at the folder
pub looked_at : (files : Option Files) (f g : ℕ) (status : Status) → FolderRefuses files f g status
    → IsBeforeDisk status → ⊥
looked_at files f g = refused_behind (FolderRefuses files f g) (λ r. r) (λ number cause r. r)
    (λ number size most r. r) (λ r. r) (λ most r. r) (λ most r. r)

-- nor one that comes of reading a segment's file
pub read_at : (files : Option Files) (f g : ℕ) (name : List ℕ) (status : Status)
    → ReadRefused files f g name status → IsBeforeDisk status → ⊥
read_at files f g name = refused_behind (ReadRefused files f g name) (λ r. r)
    (λ number cause r. r) (λ number size most r. r) (λ r. r) (λ most r. r) (λ most r. r)

-- nor one that comes of replaying the folder
pub replayed_at : (ignore : Bool) (files : Option Files) (f g : ℕ) (status : Status)
    → ReplayRefused ignore files f g status → IsBeforeDisk status → ⊥
replayed_at ignore files f g = refused_behind (ReplayRefused ignore files f g) (λ r. r)
    (λ number cause r. r) (λ number size most r. r) (λ r. r) (λ most r. r) (λ most r. r)
