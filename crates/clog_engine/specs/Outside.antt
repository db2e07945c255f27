-- The outside of a run, before it and after it.
use Rattle.std.specs.Prelude.{◌≡◌, ℕ, List, Option}
use Rattle.std.specs.Io.KnownBytes.{Appends}
use Rattle.clog_io.specs.declared.clock.Clock.{Ghosts as ClockTells}
use Rattle.clog_io.specs.declared.sink.Sink.{Ghosts as SinkTells}
use Rattle.clog_io.specs.declared.source.Source.{Ghosts as SourceTells}
use Rattle.clog_io.specs.Causes.{Rose}
use Rattle.clog_io.specs.Bytes.{AppendsPrefix}
use Rattle.clog_disk.specs.declared.change.Change.{Change}
use Rattle.clog_disk.specs.declared.disk.Disk.{Ghosts as DiskTells}
use Rattle.clog_disk.specs.Files.{Files}
use Rattle.clog_disk.specs.Images.{IsImage, Unchanged}

-- the source, the disk and the clock
pub record Outside : Type 1 where
  -- the bytes that the source has left, where it tells them, and its faults
  pub left : Option (List ℕ)
  pub left_now : Option (List ℕ)
  pub source_faults : ℕ
  pub source_faults_now : ℕ
  -- the files, where the disk tells them, what a crash may leave of each name, and its faults
  pub files : Option Files
  pub files_now : Option Files
  pub leaves : List ℕ → Option (List ℕ) → Type 0
  pub leaves_now : List ℕ → Option (List ℕ) → Type 0
  -- what a crash may have left at any moment of the run
  pub since : Files → Type 0
  -- the disk's changes, where it tells them
  pub changes : Option (List Change)
  pub changes_now : Option (List Change)
  pub disk_faults : ℕ
  pub disk_faults_now : ℕ
  -- what the clock may tell, in milliseconds
  pub tells : ℕ → Type 0

-- The outside, by what a source gave, and what a disk and a clock tell: before and after.
abbrev pub outside_with : {D C : Type 0} → Option (List ℕ) → Option (List ℕ) → ℕ → ℕ → DiskTells D
    → ClockTells C → D → D → C → Outside
outside_with left left_now faults faults_now disk clock d d_now c = record {
  left = left;
  left_now = left_now;
  source_faults = faults;
  source_faults_now = faults_now;
  files = disk.files d;
  files_now = disk.files d_now;
  leaves = disk.leaves d;
  leaves_now = disk.leaves d_now;
  since = disk.since d_now (disk.moment d);
  changes = disk.changes d;
  changes_now = disk.changes d_now;
  disk_faults = disk.faults d;
  disk_faults_now = disk.faults d_now;
  tells = clock.tells c;
}

-- the same by what the source tells too
abbrev pub outside_of : {S D C : Type 0} → SourceTells S → DiskTells D → ClockTells C
    → S → S → D → D → C → Outside
outside_of source disk clock s s_now d d_now c =
    outside_with (source.left s) (source.left s_now) (source.faults s) (source.faults s_now) disk
    clock d d_now c

-- No file has changed, and a crash leaves just what it left before.
abbrev pub IsUntouched : Outside → Type 0
IsUntouched o = Unchanged o.files o.files_now o.leaves o.leaves_now

-- The same, and the disk has made no change; and so it was at each moment of the run: what a crash
-- then might have left, it might have left before.
pub record IsLeftAlone (o : Outside) : Type 0 where
  pub still : IsUntouched o
  pub changes : o.changes_now ≡ o.changes
  pub meanwhile : (image : Files) → o.since image → IsImage o.leaves image

-- the sink: what it holds, where it tells it, and its faults
pub record Sinks : Type 0 where
  pub held : Option (List ℕ)
  pub held_now : Option (List ℕ)
  pub faults : ℕ
  pub faults_now : ℕ

-- The sink, by what it tells, before and after.
abbrev pub sinks_of : {K : Type 0} → SinkTells K → K → K → Sinks
sinks_of sink k k_now = record {
  held = sink.held k;
  held_now = sink.held k_now;
  faults = sink.faults k;
  faults_now = sink.faults k_now;
}

-- the text went out
abbrev pub Writes : Sinks → List ℕ → Type 0
Writes s text = Appends s.held s.held_now text

-- a prefix of the text went out, since the sink has failed
pub record Breaks (s : Sinks) (text : List ℕ) : Type 0 where
  pub prefix : AppendsPrefix s.held s.held_now text
  pub cause : Rose s.faults s.faults_now
