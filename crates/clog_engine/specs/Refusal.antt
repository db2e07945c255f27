-- How a run ends whose disk or folder is refused, or whose lines were written.
use Rattle.std.specs.Prelude.{◌≡◌, ℕ, ◌+◌, ◌*◌, ◌≤◌, List, ◌++◌, vec_capacity, Bool, Result, Vec}
use Rattle.std.specs.declared.alloc.Global.{Global}
use Rattle.std.specs.declared.result.Result.TheVariants as result
use Rattle.clog_disk.specs.declared.disk.DiskFault.{DiskFault}
use Rattle.clog_disk.specs.declared.disk.DiskFault.TheVariants as fault
use Rattle.clog_folder.specs.declared.fault.OpenFault.{OpenFault}
use Rattle.clog_folder.specs.declared.fault.OpenFault.TheVariants as refusal
use Rattle.write_path.specs.declared.commit.Receipt.{Receipt}
use Rattle.clog_shares.specs.declared.fault.WriteFault.{WriteFault}
use Rattle.clog_shares.specs.declared.fault.WriteFault.TheVariants.{Spent, Stopped}
use Rattle.clog_engine.specs.declared.report.PendingReport.{PendingReport}
use Rattle.clog_engine.specs.declared.status.Status.{Status}
use Rattle.clog_engine.specs.declared.status.Status.TheVariants.{DiskFault as HasDiskFault, Damaged}
use Rattle.clog_engine.specs.declared.status.Status.TheVariants.{BadTable, OutOfMemory, Limit}
use Rattle.clog_engine.specs.Report.{head_with, longest_receipt}

abbrev pub status_of : DiskFault → Status
status_of fault.Failed = HasDiskFault
status_of fault.NoSuchFile = HasDiskFault
status_of fault.OutOfMemory = OutOfMemory

abbrev pub folder_status : OpenFault → Status
folder_status refusal.Disk = HasDiskFault
folder_status (refusal.Damaged name at cause) = Damaged name at cause
folder_status (refusal.BadTable name fault) = BadTable name fault
folder_status (refusal.Limit what number) = Limit what number
folder_status refusal.OutOfMemory = OutOfMemory

-- lines were not refused for want of segments
abbrev pub IsUnspent : {T : Type 0} → Result T WriteFault → Type 0
IsUnspent outcome = outcome ≡ result.Err Spent → ⊥

-- there is room for a head of so many receipts
abbrev pub HasRoomFor : ℕ → PendingReport → Type 0
HasRoomFor lines pending = longest_receipt * (lines + 1) ≤ vec_capacity pending.room

-- A report whose head was to come, where writers logged all lines; else why they did not.
abbrev pub IsToldAs : Bool → PendingReport → Result (Vec Receipt Global) WriteFault
    → Result (List ℕ) Status → Type 0
IsToldAs receipts pending (result.Ok logged) told =
    told ≡ result.Ok (head_with receipts logged.items ++ pending.rows.items)
IsToldAs receipts pending (result.Err (Stopped at_open now)) told =
    told ≡ result.Err HasDiskFault
IsToldAs receipts pending (result.Err other) told = told ≡ result.Err OutOfMemory
