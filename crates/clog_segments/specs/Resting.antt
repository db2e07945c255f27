-- What a disk is between the calls of a store: where it tells its files, they are at rest.
use Rattle.std.specs.Prelude.{ℕ, List, ◌++◌, length, Option}
use Rattle.clog_disk.specs.Files.{Files, Told}
use Rattle.clog_scan.specs.Cut.{Section}
use Rattle.clog_crash.specs.Log.{Write, IsResting, HasShown, logged_in}
use Rattle.clog_crash.specs.Readings.{Reading}

-- The disk tells its files, and they are at rest, some time after an opening at which the folder
-- read as r: behind earlier segments the old sections of this one last, and the kept ones do not.
abbrev pub RestsAt : Option Files → (List ℕ → Option (List ℕ) → Type 0) → Reading → List Write → ℕ
    → List Section → List Section → Type 0
RestsAt told leaves r past id old kept = Told told (λ f. IsResting f leaves r past id old kept)

-- What an image shows while these sections are written behind the old ones, which last, however the
-- log goes on: what the folder restored at the opening, all entries that last, and the first of the
-- others.
abbrev pub ShowsBehind : Reading → List Write → ℕ → List Section → List Section → Files → Type 0
ShowsBehind r past id old more = HasShown r (length (logged_in past old)) past id (old ++ more)
