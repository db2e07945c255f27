-- What the images of a crash show: what lasted, and the first of the entries that were written.
use Rattle.std.specs.Prelude.{ℕ, ◌≤◌, List, ◌++◌, length, take}
use Rattle.clog_spec.specs.Names.{segment_name_of}
use Rattle.clog_spec.specs.Sizes.{header_size}
use Rattle.clog_disk.specs.Files.{Files, bytes_at}
use Rattle.clog_scan.specs.Cut.{Section, last_until}
use Rattle.clog_scan.specs.Segment.{Entry, entries_of}
use Rattle.clog_crash.specs.Chance.{NoChance}
use Rattle.clog_crash.specs.Covering.{Either, SameMerge}
use Rattle.clog_crash.specs.Readings.{Reading, RestoresIn, IsCellAmong}
use Rattle.clog_crash.specs.Rest.{settled}
use Rattle.clog_crash.specs.Restore.{IsUndamaged}
use Rattle.clog_crash.specs.Sections.{IsStored}

-- The image restores what a folder restores that reads as r, and the first of these entries, at
-- least so many. It has no damage.
pub record RestoresFirst (r : Reading) (least : ℕ) (entries : List Entry) (image : Files) : Type 0
  where
    pub n : ℕ
    pub enough : least ≤ n
    pub some : n ≤ length entries
    pub restores :
        SameMerge (RestoresIn (bytes_at image))
        (Either (RestoresIn r) (IsCellAmong (take n entries)))
    pub undamaged : IsUndamaged image

-- What each image shows while these further sections are written behind the old ones, which last,
-- whatever is written behind them later on: so what was once shown stays so.
abbrev pub Shows : Files → ℕ → List Section → List Section → Files → Type 0
Shows files id old more image = (later : List Section) → IsStored id (old ++ (more ++ later))
    → NoChance id (old ++ (more ++ later)) (bytes_at image (segment_name_of 6 id))
    → RestoresFirst (settled files id old) 0
    (entries_of (last_until header_size old) (more ++ later)) image
