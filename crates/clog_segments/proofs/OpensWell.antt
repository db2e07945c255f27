-- A folder that can be opened is refused only where its disk has failed, or for want of memory.
use Rattle.std.proofs.Common.{◌≡◌, ◌⊎◌, ℕ, inl, inr, Some, refl, arith}
use Rattle.clog_base.specs.declared.fault.Quantity.TheVariants.{Ids, SegmentBytes, TableFiles}
use Rattle.clog_disk.specs.Files.{Files}
use Rattle.clog_crash.specs.Damage.{AreSegmentFiles}
use Rattle.clog_crash.proofs.damage.BadTables.{good_has_none}
use Rattle.clog_crash.proofs.damage.First.{undamaged_has_none}
use Rattle.clog_folder.specs.declared.fault.OpenFault.{OpenFault}
use Rattle.clog_folder.specs.declared.fault.OpenFault.TheVariants.{
  Disk,
  Damaged,
  BadTable,
  Limit,
  OutOfMemory,
}
use Rattle.clog_segments.specs.Opened.{CanBeOpened, OpenRefused}

pub not_refused : (files : Files) (faults now : ℕ) (fault : OpenFault) → CanBeOpened files
    → AreSegmentFiles files → OpenRefused (Some files) faults now fault
    → (fault ≡ Disk) ⊎ (fault ≡ OutOfMemory)
not_refused files faults now Disk can are refused = inl refl
not_refused files faults now OutOfMemory can are refused = inr refl
not_refused files faults now (BadTable name fault) can are refused =
    absurd (good_has_none files name fault can.readable.tables refused)
not_refused files faults now (Damaged name at cause) can are refused =
    absurd (undamaged_has_none files name at cause are (can.readable.undamaged refl)
    refused.first.damage)
not_refused files faults now (Limit SegmentBytes most) can are refused =
    let long = refused.1.first in
    absurd (can.readable.short long.name long.id long.named long.long)
not_refused files faults now (Limit TableFiles most) can are refused =
    absurd (can.few refused.1.late)
not_refused files faults now (Limit Ids most) can are refused =
    let great = refused.1 in
    let low = can.low great.id great.named in
    absurd (omega (arith, low, great.great))
not_refused files faults now other can are refused = absurd refused
