-- What the steps of a log of notes make of its log of sections.
use Rattle.std.specs.Prelude.{
  ◌≡◌,
  ◌⊎◌,
  ℕ,
  ◌+◌,
  ◌<◌,
  ◌≤◌,
  ◌^◌,
  List,
  [],
  ◌∷◌,
  ◌++◌,
  length,
  take,
  drop,
  Option,
  false,
  Result,
  Ok,
  Err,
}
use Rattle.std.specs.List.{Contains}
use Rattle.clog_spec.specs.Sizes.{front_size, marker_size}
use Rattle.clog_base.specs.declared.sizes.Sizes.{Sizes}
use Rattle.clog_base.specs.Positions.{ordinal_of, offset_of}
use Rattle.clog_disk.specs.declared.change.Change.{Change}
use Rattle.clog_disk.specs.Files.{Files, SameTold}
use Rattle.clog_disk.specs.Images.{IsLater}
use Rattle.clog_crash.specs.Log.{Write}
use Rattle.clog_crash.specs.Readings.{Reading}
use Rattle.path_core.specs.declared.note.EntryNote.{EntryNote}
use Rattle.path_core.specs.Keeper.{FollowTo, Holding, MayWrite}
use Rattle.clog_segments.specs.declared.written.StoreFault.{StoreFault}
use Rattle.clog_segments.specs.Grows.{Writes}
use Rattle.clog_segments.specs.Life.{Lives, LivesOn, State, past_with}
use Rattle.clog_segments.specs.NamesLast.{NamesGoOn}
use Rattle.clog_segments.specs.NoteLog.{
  BeginsFrom,
  HasLog,
  IsGood,
  IsHeld,
  LeavesOthers,
  NoteState,
  Stands,
  end_behind,
}

-- From a state of a log to a later one: it is the log of one opening, time has gone on, a log that
-- lived lives on, and names that lasted last.
pub record GoesOn {D : Type 0} (files : D → Option Files) (moment : D → ℕ)
    (since : D → ℕ → Files → Type 0) (leaves : D → List ℕ → Option (List ℕ) → Type 0)
    (read_at : D → ℕ → Option Reading) (lasted_at : D → ℕ → Type 0) (before now : State D) : Type 0
  where
    pub opened : now.opened ≡ before.opened
    pub first : now.first ≡ before.first
    pub later : IsLater moment read_at lasted_at before.disk now.disk
    pub lives : Lives files moment since leaves read_at lasted_at before
        → LivesOn files moment since leaves read_at lasted_at before now
    pub names : NamesGoOn files leaves before now

-- The log goes forward and leaves the other files, and the changes of its disk bring what it
-- writes, whether or not the disk has failed meanwhile.
pub record Leaves {D : Type 0} (files : D → Option Files) (changes : D → Option (List Change))
    (before now : State D) : Type 0 where
  pub told : SameTold (files before.disk) (files now.disk)
  pub forward : before.id ≤ now.id
  pub rest : LeavesOthers before now (files before.disk) (files now.disk)
  pub below : (w : Write) → Contains rest.more w → w.id < now.id
  pub brings : Writes changes before now

-- all sections last
abbrev pub with_all_lasting : {D : Type 0} → State D → State D → State D
with_all_lasting before now = record before {
  disk = now.disk;
  synced = length before.sections;
  is_stopped = now.is_stopped;
}

-- a log that goes on in a later segment, behind these
abbrev pub gone_on : {D : Type 0} → State D → List Write → ℕ → D → State D
gone_on before past id disk = record before {
  disk = disk;
  past = past;
  id = id;
  sections = [];
  synced = 0;
  is_stopped = false;
}

-- The log goes on in the segment of an id: the one at hand; or a later one behind it, all of whose
-- sections last; or a later one in its place, where it has no section. Where it is refused, they
-- may last.
abbrev pub Enters : {D T : Type 0} → State D → State D → ℕ → Result T StoreFault → Type 0
Enters before now id (Ok done) =
    ((id ≡ before.id) × (now ≡ before))
    ⊎ ((before.id < id)
    × (now ≡ gone_on before (past_with before.past before.id before.sections) id now.disk))
Enters before now id (Err fault) =
    (now ≡ record before { disk = now.disk; is_stopped = now.is_stopped })
    ⊎ (now ≡ with_all_lasting before now)

-- ---- notes that are to come

-- Where a note may start behind a log that ends at a key: behind the front of a segment, where
-- nothing was written yet; behind a marker; or behind the front of a later segment.
abbrev pub StartsBehind : ℕ → ℕ → Type 0
StartsBehind key start =
    ((key ≡ 0) × (offset_of start ≡ front_size))
    ⊎ ((0 < key) × (start ≡ key + marker_size) × (offset_of key + marker_size < 2 ^ 31))
    ⊎ ((ordinal_of key < ordinal_of start) × (offset_of start ≡ front_size))

-- notes behind such a log, which end at another key
abbrev pub StandAhead : ℕ → ℕ → List EntryNote → Type 0
StandAhead upto key [] = key ≡ upto
StandAhead upto key (n ∷ ns) = StartsBehind key n.start.0 × FollowTo upto n.end.0 ns

-- A log of notes, with all that it is told by.
abbrev pub standing : {D : Type 0} → Sizes → ℕ → List EntryNote → ℕ → State D → List EntryNote → ℕ
    → NoteState D
standing sizes synced logged base log kept written = record {
  log = log;
  base = base;
  sizes = sizes;
  synced = synced;
  logged = logged;
  kept = kept;
  written = written;
}

-- So many of the notes stand in the log's sections, and the others may come behind them.
pub record ReadyAt {D : Type 0} (sizes : Sizes) (synced : ℕ) (logged : List EntryNote) (upto : ℕ)
    (base : ℕ) (log : State D) (notes : List EntryNote) (written : ℕ) : Type 0 where
  pub few : written ≤ length notes
  pub good : (n : EntryNote) → Contains notes n → IsGood sizes n
  pub held : IsHeld (standing sizes synced logged base log notes written)
  pub ahead : StandAhead upto (end_behind synced (take written notes)) (drop written notes)

pub record IsReady {D : Type 0} (base : ℕ) (log : State D) (notes : List EntryNote) (written : ℕ)
    : Type 0 where
  pub sizes : Sizes
  pub synced : ℕ
  pub logged : List EntryNote
  pub upto : ℕ
  pub at : ReadyAt sizes synced logged upto base log notes written

-- Further notes were written, whatever the log of notes is told by.
abbrev pub StaysReady : {D : Type 0} → ℕ → List EntryNote → State D → ℕ → State D → ℕ → Type 0
StaysReady base notes before written now more =
    (sizes : Sizes) (synced : ℕ) (logged : List EntryNote) (upto : ℕ)
    → ReadyAt sizes synced logged upto base before notes written
    → ReadyAt sizes synced logged upto base now notes more

-- Where the disk has not failed, what is said of the log stays true.
abbrev pub StaysHeld : {D : Type 0} → ℕ → List EntryNote → State D → ℕ → State D → ℕ → Type 0
StaysHeld base notes before written now more =
    (sizes : Sizes) (synced : ℕ) (logged : List EntryNote) (upto : ℕ)
    → ReadyAt sizes synced logged upto base before notes written → now.is_stopped ≡ false
    → IsHeld (standing sizes synced logged base now notes more)

-- Whatever the disk has done, the first of the notes stand in the log.
abbrev pub StaysStanding : {D : Type 0} → ℕ → List EntryNote → State D → ℕ → State D → ℕ → Type 0
StaysStanding base notes before written now more =
    (sizes : Sizes) (synced : ℕ) (logged : List EntryNote) (upto : ℕ)
    → ReadyAt sizes synced logged upto base before notes written
    → Stands (standing sizes synced logged base now notes more)

-- ---- a run is logged

-- The run may be written, as a keeper with this log is asked to, and what of it is to come does not
-- stand before the segment at hand.
pub record MayRun {D : Type 0} (s : NoteState D) (upto : ℕ) (run : List EntryNote) : Type 0 where
  pub holding : Holding
  pub has : HasLog s holding
  pub may : MayWrite holding upto run
  pub from : BeginsFrom s.base s.log.id (drop s.written run)

-- The run is logged.
abbrev pub Logs : {D : Type 0} → NoteState D → NoteState D → ℕ → List EntryNote → Type 0
Logs before now upto run =
    now ≡ record before {
      log = now.log;
      synced = upto;
      logged = before.logged ++ run;
      kept = [];
      written = 0;
    }

-- It is not; what is kept is what was, or the run.
pub record LogsNot {D : Type 0} (before now : NoteState D) (run : List EntryNote) : Type 0 where
  pub keeps : (now.kept ≡ before.kept) ⊎ (now.kept ≡ run)
  pub log_is : now ≡ record before { log = now.log; kept = now.kept; written = now.written }
