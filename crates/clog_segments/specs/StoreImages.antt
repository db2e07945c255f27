-- What each image since the opening of a store holds at most, and when such a log can be opened
-- again.
use Rattle.std.specs.Prelude.{◌≡◌, ◌⊎◌, ℕ, ◌+◌, ◌<◌, ◌≤◌, List, length, Option, Some, Contains}
use Rattle.std.specs.FinMap as finmap
use Rattle.clog_spec.specs.Sizes.{file_limit}
use Rattle.clog_disk.specs.Files.{Files}
use Rattle.clog_disk.specs.Images.{SinceThen}
use Rattle.clog_scan.specs.Cut.{Section}
use Rattle.clog_crash.specs.Counts.{IsNameOfTable}
use Rattle.clog_crash.specs.Damage.{AreSegmentFiles}
use Rattle.clog_crash.specs.Log.{GoesOn, NoChances, Write}
use Rattle.clog_crash.specs.Sections.{segment_bytes}
use Rattle.clog_segments.specs.AtMost.{
  EachFile,
  IsArchiveBelow,
  IsBrought,
  IsPartOf,
  IsTableWithin,
  StandsYet,
}
use Rattle.clog_segments.specs.Grows.{segments_with}
use Rattle.clog_segments.specs.Named.{id_limit}
use Rattle.clog_segments.specs.Opened.{CanBeOpened, HasRoomFor}
use Rattle.clog_segments.specs.StoreFolder.{Deeds, StoreLog, log_of}
use Rattle.clog_segments.specs.StoreState.{StoreState, deeds_by}

-- what a log up to an id may have brought, with sequences at most so much above those at first
abbrev pub IsBroughtAtMost : Files → ℕ → List Write → ℕ → List ℕ → List ℕ → Type 0
IsBroughtAtMost first more segments id =
    IsBrought segments (IsArchiveBelow (IsPartOf segments) id) (IsTableWithin first more id)

-- Each file of the image reads as at first; or is no more than a segment of the log, under its name
-- or, where it is an earlier one, under its archive name; or is a table file that ends in the log.
-- The sequence of such a file is at most two more above those at first than files were put.
abbrev pub HoldsAtMost : Files → StoreLog → Deeds → Files → Type 0
HoldsAtMost first log deeds image =
    EachFile (λ name bytes. (finmap.get first name ≡ Some bytes)
    ⊎ IsBroughtAtMost first (length deeds.files + 2)
    (segments_with log.past log.id log.sections) log.id name bytes) image

-- so it is with each image since the opening
abbrev pub MostSince : {D : Type 0} → (D → Option Files) → (D → ℕ) → (D → ℕ → Files → Type 0)
    → StoreState D → Type 0
MostSince files moment since s =
    (first now : Files) → files s.first ≡ Some first → files s.notes.log.disk ≡ Some now
    → SinceThen moment since s.notes.log.opened s.notes.log.disk
    (HoldsAtMost first (log_of s.notes) (deeds_by s))

-- Each table file that an image since the opening holds stands now; or the disk has failed, and it
-- has the name of its table's next one.
abbrev pub TablesSince : {D : Type 0} → (D → Option Files) → (D → ℕ) → (D → ℕ → Files → Type 0)
    → StoreState D → Type 0
TablesSince files moment since s =
    (first now : Files) → files s.first ≡ Some first → files s.notes.log.disk ≡ Some now
    → SinceThen moment since s.notes.log.opened s.notes.log.disk (EachFile (λ name bytes.
    IsNameOfTable name → StandsYet now s.notes.log.is_stopped name bytes))

-- ---- that it can be opened

-- No segment of the log has an id at the limit or above it, and none is too long to be read.
pub record IsWithinLimits (log : StoreLog) : Type 0 where
  pub below : (w : Write) → Contains log.past w → w.id < log.id
  pub low : log.id < id_limit
  pub short : (w : Write) → Contains (segments_with log.past log.id log.sections) w
      → length (segment_bytes w.id w.sections) ≤ file_limit

-- an image of such a log can be opened, and its segments are bytes, where what is torn in it does
-- not read by chance as a log's
abbrev pub OpensAgain : List Write → ℕ → List Section → Files → Type 0
OpensAgain past id sections image =
    (log : List Write) → GoesOn past id sections log → NoChances log image
    → CanBeOpened image × AreSegmentFiles image

-- Each image since the opening can be opened, where the folder could be at first, and sequences and
-- ids stay within their limits.
abbrev pub OpensSince : {D : Type 0} → (D → Option Files) → (D → ℕ) → (D → ℕ → Files → Type 0)
    → StoreState D → Type 0
OpensSince files moment since s =
    (first now : Files) → files s.first ≡ Some first → files s.notes.log.disk ≡ Some now
    → CanBeOpened first → HasRoomFor first (length s.files + 2) → s.notes.log.id < id_limit
    → SinceThen moment since s.notes.log.opened s.notes.log.disk
    (OpensAgain s.notes.log.past s.notes.log.id s.notes.log.sections)
