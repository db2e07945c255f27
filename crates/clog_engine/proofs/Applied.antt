-- What `apply` answers, from what its steps answered.
use Rattle.std.proofs.Common.{◌≡◌, ℕ, ◌≤◌, List, Option, Result, Ok as ok, Err as err}
use Rattle.std.proofs.Common.{inl, inr, sym, subst, arith}
use Rattle.std.specs.Prelude.{false}
use Rattle.clog_base.specs.declared.fault.Quantity.TheVariants.{FileBytes, Lines, SegmentBytes, Ids}
use Rattle.clog_base.specs.declared.fault.Quantity.TheVariants.{TableFiles}
use Rattle.clog_io.specs.Bytes.{TakesAll}
use Rattle.clog_disk.specs.Files.{Files}
use Rattle.clog_folder.specs.declared.fault.OpenFault.{OpenFault}
use Rattle.clog_folder.specs.declared.fault.OpenFault.TheVariants as folder
use Rattle.clog_folder.specs.Folder.{FolderRefused}
use Rattle.clog_mutation.specs.declared.mutation.Mutation.{Mutation}
use Rattle.clog_words.specs.declared.request.ApplyOptions.{ApplyOptions}
use Rattle.clog_applied.specs.Asked.{capacity_of}
use Rattle.clog_segments.specs.Opened.{LeftAlone, OpenRefused}
use Rattle.clog_engine.specs.declared.status.Status.{Status}
use Rattle.clog_engine.specs.declared.status.Status.TheVariants.{Ok, Usage, BadLine, TooLarge}
use Rattle.clog_engine.specs.declared.status.Status.TheVariants.{ReadFault, WriteFault, DiskFault}
use Rattle.clog_engine.specs.declared.status.Status.TheVariants.{Damaged, BadTable, OutOfMemory}
use Rattle.clog_engine.specs.declared.status.Status.TheVariants.{Limit, Absent}
use Rattle.clog_engine.specs.Apply.{Applies, ApplyRefuses, IsPartly, LeavesPart, ReadsGood}
use Rattle.clog_engine.specs.Before.{FolderRefuses}
use Rattle.clog_engine.specs.Input.{IsSized}
use Rattle.clog_engine.specs.Planning.{FileRefused}
use Rattle.clog_engine.specs.Logged.{AppliesLines, AreLogged, KeepsAll, LeavesSome, LinesRefuse}
use Rattle.clog_engine.specs.Outside.{IsLeftAlone, Outside}
use Rattle.clog_engine.specs.Refusal.{folder_status}

-- ---- the file is refused

pub file_refuses : (options : ApplyOptions) (status : Status) (o : Outside)
    → FileRefused (capacity_of options) o.left o.left_now o.source_faults o.source_faults_now status
    → IsLeftAlone o → ApplyRefuses options status o
file_refuses n Ok o refused still = absurd refused
file_refuses n Usage o refused still = absurd refused
file_refuses n (BadLine number cause) o refused still = (refused, still)
file_refuses n (TooLarge number size most) o refused still = (refused, still)
file_refuses n ReadFault o refused still = (refused, still)
file_refuses n WriteFault o refused still = absurd refused
file_refuses n DiskFault o refused still = absurd refused
file_refuses n (Damaged name at cause) o refused still = absurd refused
file_refuses n (BadTable name fault) o refused still = absurd refused
file_refuses n OutOfMemory o refused still = inl still
file_refuses n (Limit FileBytes most) o refused still = (refused.0, refused.1, still)
file_refuses n (Limit Lines most) o refused still = (refused.0, refused.1, still)
file_refuses n (Limit SegmentBytes most) o refused still = absurd refused
file_refuses n (Limit Ids most) o refused still = absurd refused
file_refuses n (Limit TableFiles most) o refused still = absurd refused
file_refuses n (Absent name) o refused still = absurd refused

-- ---- the folder is refused

-- what is left of it: for the disk's own reasons it may have changed
abbrev pub LeftBy : ApplyOptions → List Mutation → Status → Outside → Type 0
LeftBy options ms DiskFault o = LeavesSome options ms o
LeftBy options ms OutOfMemory o = LeavesSome options ms o
LeftBy options ms other o = IsLeftAlone o

pub folder_refuses : (options : ApplyOptions) (ms : List Mutation) (status : Status) (o : Outside)
    → FolderRefuses o.files o.disk_faults o.disk_faults_now status
    → LeftBy options ms status o → LinesRefuse options ms status o
folder_refuses n ms Ok o refused left = absurd refused
folder_refuses n ms Usage o refused left = absurd refused
folder_refuses n ms (BadLine number cause) o refused left = absurd refused
folder_refuses n ms (TooLarge number size most) o refused left = absurd refused
folder_refuses n ms ReadFault o refused left = absurd refused
folder_refuses n ms WriteFault o refused left = absurd refused
folder_refuses n ms DiskFault o refused left = (refused, left)
folder_refuses n ms (Damaged name at cause) o refused left = (refused, left)
folder_refuses n ms (BadTable name fault) o refused left = (refused, left)
folder_refuses n ms OutOfMemory o refused left = left
folder_refuses n ms (Limit FileBytes most) o refused left = absurd refused
folder_refuses n ms (Limit Lines most) o refused left = absurd refused
folder_refuses n ms (Limit SegmentBytes most) o refused left = (refused.0, refused.1, left)
folder_refuses n ms (Limit Ids most) o refused left = (refused.0, refused.1, left)
folder_refuses n ms (Limit TableFiles most) o refused left = (refused.0, refused.1, left)
folder_refuses n ms (Absent name) o refused left = absurd refused

-- where nothing has changed
pub left_still : (options : ApplyOptions) (ms : List Mutation) (status : Status) (o : Outside)
    → IsLeftAlone o → LeftBy options ms status o
left_still n ms DiskFault o still = inl still
left_still n ms OutOfMemory o still = inl still
left_still n ms other o still = still

-- where it was not opened
pub left_closed : (options : ApplyOptions) (ms : List Mutation) (refusal : OpenFault) (o : Outside)
    (alone : Type 0) → LeftAlone alone refusal → (alone → IsLeftAlone o) → KeepsAll o
    → LeftBy options ms (folder_status refusal) o
left_closed n ms folder.Disk o alone left still kept = inr (inl kept)
left_closed n ms folder.OutOfMemory o alone left still kept = inr (inl kept)
left_closed n ms (folder.Damaged name at cause) o alone left still kept = still left
left_closed n ms (folder.BadTable name fault) o alone left still kept = still left
left_closed n ms (folder.Limit what most) o alone left still kept = still left

-- ---- the lines of a file

module _ (options : ApplyOptions) (o : Outside) (bytes : List ℕ) (ms : List Mutation)
    (taken : TakesAll o.left o.left_now bytes) (sized : IsSized (capacity_of options) bytes ms)
  where
    good : ReadsGood options o
    good = (bytes, taken, record { mutations = ms; sized = sized })

    partly : AreLogged o options ms 0 → IsPartly options o
    partly logged = record {
      bytes = bytes;
      taken = taken;
      mutations = ms;
      sized = sized;
      logged = logged;
    }

    part_of_file : LeavesSome options ms o → LeavesPart options o
    part_of_file (inl still) = inl still
    part_of_file (inr (inl kept)) = inr (inl kept)
    part_of_file (inr (inr logged)) = inr (inr (partly logged))

    refuses_file : (status : Status) → LinesRefuse options ms status o
        → ApplyRefuses options status o
    refuses_file Ok refused = absurd refused
    refuses_file Usage refused = absurd refused
    refuses_file (BadLine number cause) refused = absurd refused
    refuses_file (TooLarge number size most) refused = absurd refused
    refuses_file ReadFault refused = absurd refused
    refuses_file WriteFault refused = absurd refused
    refuses_file DiskFault refused = (good, refused.0, part_of_file refused.1)
    refuses_file (Damaged name at cause) refused = (good, refused.0, refused.1)
    refuses_file (BadTable name fault) refused = (good, refused.0, refused.1)
    refuses_file OutOfMemory refused = part_of_file refused
    refuses_file (Limit FileBytes most) refused = absurd refused
    refuses_file (Limit Lines most) refused = absurd refused
    refuses_file (Limit SegmentBytes most) refused = (refused.0, good, refused.1, refused.2)
    refuses_file (Limit Ids most) refused = (refused.0, good, refused.1, refused.2)
    refuses_file (Limit TableFiles most) refused = (refused.0, good, refused.1, refused.2)
    refuses_file (Absent name) refused = absurd refused

    -- what comes of the lines comes of their file
    pub file_applies : (result : Result (List ℕ) Status) → AppliesLines options ms o result
        → Applies options o result
    file_applies (ok report) applied =
        (bytes, taken, record { mutations = ms; sized = sized; applied = applied })
    file_applies (err status) refused = refuses_file status refused

-- ---- why

-- faults that were counted since, were counted since before
refused_since : (files : Option Files) (f g k : ℕ) (refusal : OpenFault) → f ≤ g
    → OpenRefused files g k refusal → FolderRefuses files f k (folder_status refusal)
refused_since files f g k folder.Disk later refused = omega (arith, later, refused)
refused_since files f g k folder.OutOfMemory later refused = tt
refused_since files f g k (folder.Damaged name at cause) later refused = refused
refused_since files f g k (folder.BadTable name fault) later refused = refused
refused_since files f g k (folder.Limit FileBytes most) later refused = absurd refused
refused_since files f g k (folder.Limit Lines most) later refused = absurd refused
refused_since files f g k (folder.Limit SegmentBytes most) later refused = refused
refused_since files f g k (folder.Limit Ids most) later refused = refused
refused_since files f g k (folder.Limit TableFiles most) later refused = refused

-- the folder is not opened, by the disk as it was
pub not_opened : (files looked : Option Files) (f g k : ℕ) (refusal : OpenFault) → looked ≡ files
    → f ≤ g → OpenRefused looked g k refusal
    → FolderRefuses files f k (folder_status refusal)
not_opened files looked f g k refusal same later refused =
    refused_since files f g k refusal later
    (subst (λ (o : Option Files). OpenRefused o g k refusal) same refused)

unread : (files : Option Files) (f g : ℕ) (refusal : OpenFault)
    → FolderRefused false files f g refusal → FolderRefuses files f g (folder_status refusal)
unread files f g folder.Disk refused = refused
unread files f g folder.OutOfMemory refused = tt
unread files f g (folder.Damaged name at cause) refused = refused.1
unread files f g (folder.BadTable name fault) refused = refused
unread files f g (folder.Limit FileBytes most) refused = absurd refused
unread files f g (folder.Limit Lines most) refused = absurd refused
unread files f g (folder.Limit SegmentBytes most) refused = refused
unread files f g (folder.Limit Ids most) refused = absurd refused
unread files f g (folder.Limit TableFiles most) refused = absurd refused

-- what is not replayed is not opened
pub not_read : (files : Option Files) (f g : ℕ) (refusal : OpenFault) (status : Status)
    → status ≡ folder_status refusal → FolderRefused false files f g refusal
    → FolderRefuses files f g status
not_read files f g refusal status same refused =
    subst (FolderRefuses files f g) (sym same) (unread files f g refusal refused)
