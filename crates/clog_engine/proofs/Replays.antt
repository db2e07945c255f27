-- Why a folder is not replayed, by the reading that refused it.
use Rattle.std.proofs.Common.{◌≡◌, ℕ, Bool, Option, sym, subst}
use Rattle.clog_base.specs.declared.fault.Quantity.TheVariants.{SegmentBytes}
use Rattle.clog_disk.specs.Files.{Files}
use Rattle.clog_folder.specs.declared.fault.OpenFault.{OpenFault}
use Rattle.clog_folder.specs.declared.fault.OpenFault.TheVariants.{
  Disk,
  Damaged,
  BadTable,
  Limit,
  OutOfMemory,
}
use Rattle.clog_folder.specs.Folder.{FolderRefused}
use Rattle.clog_engine.specs.declared.status.Status.{Status}
use Rattle.clog_engine.specs.Refusal.{folder_status}
use Rattle.clog_engine.specs.Replaying.{ReplayRefused}

as_status : (ignore : Bool) (files : Option Files) (f g : ℕ) (refusal : OpenFault)
    → FolderRefused ignore files f g refusal
    → ReplayRefused ignore files f g (folder_status refusal)
as_status ignore files f g Disk refused = refused
as_status ignore files f g OutOfMemory refused = tt
as_status ignore files f g (BadTable name fault) refused = refused
as_status ignore files f g (Damaged name at cause) refused = refused
as_status ignore files f g (Limit SegmentBytes most) refused = refused
as_status ignore files f g other refused = absurd refused

pub replay_refused : (ignore : Bool) (files : Option Files) (f g : ℕ) (refusal : OpenFault)
    (status : Status) → status ≡ folder_status refusal → FolderRefused ignore files f g refusal
    → ReplayRefused ignore files f g status
replay_refused ignore files f g refusal status is refused =
    subst (ReplayRefused ignore files f g) (sym is) (as_status ignore files f g refusal refused)
