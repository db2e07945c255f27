-- A folder is looked at, by which nothing changes, and is recovered then.
use Rattle.std.proofs.Common.{◌≡◌, ℕ, ◌≤◌, List, Option}
use Rattle.clog_disk.specs.declared.change.Change.{Change}
use Rattle.clog_disk.specs.Files.{Files, SameTold}
use Rattle.clog_disk.specs.Images.{Elapses, IsImage, LeavesOnly, Unchanged}
use Rattle.clog_disk.proofs.Telling.{same_told_then}
use Rattle.clog_crash.specs.Readings.{Reading}
use Rattle.clog_folder.specs.Passing.{IsUntouched}
use Rattle.clog_folder.proofs.Passing as passing
use Rattle.clog_segments.specs.Opened.{WasLeftOr}
use Rattle.clog_segments.proofs.Lived.{same_told}
use Rattle.clog_segments.proofs.WasLeft.{left_then, left_yet}

module _ {D : Type 0} {files : D → Option Files} {changes : D → Option (List Change)}
    {leaves : D → List ℕ → Option (List ℕ) → Type 0} {moment : D → ℕ}
    {since : D → ℕ → Files → Type 0} {read_at : D → ℕ → Option Reading}
    {lasted_at : D → ℕ → Type 0} {faults : D → ℕ} {old mid : D}
    (looked : IsUntouched files changes leaves moment since read_at lasted_at faults old mid) where
  -- its names were listed before
  pub listed_first : {before : D}
      → Unchanged (files before) (files old) (leaves before) (leaves old) → changes old ≡ changes before
      → Elapses moment since leaves read_at lasted_at before old → faults before ≤ faults old
      → IsUntouched files changes leaves moment since read_at lasted_at faults before mid
  listed_first {before} same quiet time later =
      passing.both files changes leaves moment since read_at lasted_at faults before old mid
      (passing.one_call files changes leaves moment since read_at lasted_at faults before old same
      quiet time later)
      looked

  pub told_on : (new : D) → SameTold (files mid) (files new) → SameTold (files old) (files new)
  told_on new on =
      same_told_then (files old) (files mid) (files new)
      (same_told (files old) (files mid) looked.same.files) on

  module _
      (only_now : (d : D) (image : Files) → since d (moment d) image → IsImage (leaves d) image)
    where
      pub looks_left : (P : Files → Type 0)
          → LeavesOnly moment since old mid (WasLeftOr (leaves old) P)
      looks_left P =
          left_yet moment since leaves read_at lasted_at old mid (only_now old)
          looked.same.images.fewer looked.time P

      pub left_on : {new : D} {P : Files → Type 0}
          → LeavesOnly moment since mid new (WasLeftOr (leaves mid) P)
          → LeavesOnly moment since old new (WasLeftOr (leaves old) P)
      left_on {new} {P} on =
          left_then moment since leaves read_at lasted_at old mid (only_now old)
          looked.same.images.fewer looked.time new P on
