-- When a run ends well, or for want of memory alone.
use Rattle.std.specs.Prelude.{◌≡◌, ◌≤◌, ℕ, List, length, Bool, Option, Some, None, String, ⊤}
use Rattle.std.specs.declared.alloc.Global.{Global}
use Rattle.std.specs.FinMap as finmap
use Rattle.clog_spec.specs.Names.{segment_name_of}
use Rattle.clog_io.specs.Causes.{Rose}
use Rattle.clog_disk.specs.Files.{Files, Told}
use Rattle.clog_crash.specs.Damage.{AreSegmentFiles}
use Rattle.clog_folder.specs.Folder.{CanBeRead}
use Rattle.clog_segments.specs.Opened.{CanBeOpened}
use Rattle.clog_words.specs.declared.built.Built.{Built}
use Rattle.clog_words.specs.declared.built.Built.TheVariants.{Apply, Replay, Scan, Drill, Orders}
use Rattle.clog_words.specs.Built.{AsksBuilt}
use Rattle.clog_words.specs.Given.{texts}
use Rattle.clog_applied.specs.Asked.{capacity_of}
use Rattle.clog_engine.specs.declared.status.Status.{Status}
use Rattle.clog_engine.specs.declared.status.Status.TheVariants.{Ok, OutOfMemory}
use Rattle.clog_engine.specs.Input.{IsGood}
use Rattle.clog_engine.specs.Limits.{scan_limit}
use Rattle.clog_engine.specs.Outside.{Outside, Sinks}

-- The source tells its bytes, and they are such.
abbrev pub Tells : Option (List ℕ) → (List ℕ → Type 0) → Type 0
Tells None P = ⊥
Tells (Some left) P = P left

-- the file of this name is there, and not too long
pub record IsScannable (files : Files) (name : List ℕ) : Type 0 where
  pub bytes : List ℕ
  pub there : finmap.get files name ≡ Some bytes
  pub few : length bytes ≤ scan_limit

-- All table files and segments are good, the segments are bytes, and there is room for one more of
-- each.
pub record IsOpenable (files : Files) : Type 0 where
  pub within : CanBeOpened files
  pub segments : AreSegmentFiles files

-- All table files are good, and the segments are bytes and short enough to be read; where damage is
-- not passed over, there is none.
pub record IsReplayable (ignore : Bool) (files : Files) : Type 0 where
  pub readable : CanBeRead ignore files
  pub segments : AreSegmentFiles files

-- What is asked for can be done: `apply` has a good mutation file and a folder that can be opened,
-- `replay` a folder that can be read, `scan` its file, `drill` a folder that can be opened;
-- `orders` needs nothing.
abbrev pub IsFit : Built → Outside → Type 0
IsFit (Apply options) o = Tells o.left (IsGood (capacity_of options)) × Told o.files IsOpenable
IsFit (Replay options) o = Told o.files (IsReplayable options.ignore_errors)
IsFit (Scan id) o = Told o.files (λ files. IsScannable files (segment_name_of 6 id))
IsFit (Drill seed count) o = Told o.files IsOpenable
IsFit (Orders readers rounds) o = ⊤

-- No fault was counted, and no count stands at its type's end.
pub record IsQuiet (o : Outside) (s : Sinks) : Type 0 where
  pub source : ¬ Rose o.source_faults o.source_faults_now
  pub disk : ¬ Rose o.disk_faults o.disk_faults_now
  pub sink : ¬ Rose s.faults s.faults_now

-- It is done, or ends for want of memory.
abbrev pub EndsWell : Status → Type 0
EndsWell Ok = ⊤
EndsWell OutOfMemory = ⊤
EndsWell other = ⊥

-- Where the words ask for what can be done and no fault was counted, the run ends well.
abbrev pub Completes : List (String Global) → Outside → Sinks → Status → Type 0
Completes words o s status =
    (request : Built) → AsksBuilt (texts words) request → IsFit request o → IsQuiet o s
    → EndsWell status
