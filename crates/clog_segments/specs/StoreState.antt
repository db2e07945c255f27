-- A store: what it keeps in mind, what it holds as a keeper, and what stays true of it.
use Rattle.std.specs.Prelude.{
  ◌≡◌,
  ℕ,
  ◌≤◌,
  Bool,
  true,
  false,
  List,
  [],
  ◌++◌,
  length,
  take,
  Option,
  Some,
  None,
  option_map,
  Result,
  Ok,
  Err,
}
use base.Stored.{Gv}
use Rattle.clog_base.specs.declared.cell.Cell.{Cell}
use Rattle.clog_base.specs.declared.cell.CellKey.{CellKey}
use Rattle.clog_base.specs.declared.sizes.Sizes.{Sizes}
use Rattle.clog_base.specs.Positions.{position_of}
use Rattle.clog_io.specs.Causes.{Rose}
use Rattle.clog_disk.specs.declared.change.Change.{Change}
use Rattle.clog_disk.specs.Files.{Files, bytes_at}
use Rattle.clog_disk.specs.Images.{IsLater}
use Rattle.clog_scan.specs.Cut.{Section}
use Rattle.clog_crash.specs.Grown.{appends_of}
use Rattle.clog_crash.specs.Readings.{Reading}
use Rattle.clog_folder.specs.declared.fault.OpenFault.{OpenFault}
use Rattle.path_core.specs.declared.keeper.KeeperFault.{KeeperFault}
use Rattle.path_core.specs.declared.keeper.KeeperFault.TheVariants as keeper
use Rattle.path_core.specs.Keeper.{Holding, PutFile}
use Rattle.clog_segments.specs.declared.publishing.Published.{Published}
use Rattle.clog_segments.specs.declared.written.StoreFault.{StoreFault}
use Rattle.clog_segments.specs.declared.written.StoreFault.TheVariants.{Stopped, OutOfMemory}
use Rattle.clog_segments.specs.Grows.{AreAppends, AreBrought, IsGrown}
use Rattle.clog_segments.specs.Life.{State}
use Rattle.clog_segments.specs.NoteLog.{NoteState}
use Rattle.clog_segments.specs.StoreFailed.{HoldsButOne}
use Rattle.clog_segments.specs.StoreFolder.{
  Deeds,
  EndsWithin,
  HoldsStore,
  IsSound,
  log_of,
  no_deeds,
}
use Rattle.clog_segments.specs.StoreOrder.{AreOrdered, AreSettled}

-- A store: its log of notes; whether it archives; the disk at its opening, when recovery was done;
-- and the table files that it put, the ordinals of the segments that it dropped, and of those that
-- got their archive names.
pub record StoreState (D : Type 0) : Type 0 where
  pub notes : NoteState D
  pub archives : Bool
  pub first : D
  pub files : List PutFile
  pub dropped : List ℕ
  pub archived : List ℕ

-- what it holds as a keeper
abbrev pub holding_of : {D : Type 0} → (D → Option Files) → (D → Option (List Change)) → (D → ℕ)
    → (D → ℕ) → (D → Gv) → StoreState D → Holding
holding_of files changes moment faults code s = record {
  base = s.notes.base;
  sizes = s.notes.sizes;
  opening = record {
    archives = s.archives;
    disk = code s.first;
    moment = moment s.first;
    reads = option_map bytes_at (files s.first);
    changes = option_map (λ made. length made) (changes s.first);
  };
  at_open = faults s.first;
  faults = faults s.notes.log.disk;
  stopped = s.notes.log.is_stopped;
  synced = s.notes.synced;
  logged = s.notes.logged;
  kept = s.notes.kept;
  files = s.files;
  refused = None;
  dropped = s.dropped;
  archived = s.archived;
}

-- ---- what stays true

-- The disk has made further changes since the opening, whose appends have brought just the log's
-- sections; of a last one that does not last a disk that has failed may have taken less.
pub record HasGrown {D : Type 0} (changes : D → Option (List Change)) (first : D) (log : State D)
    : Type 0 where
  pub added : List Change
  pub changes_are : changes log.disk ≡ option_map (λ made. made ++ added) (changes first)
  pub part : List Section
  pub brought : AreBrought log part
  pub grown : IsGrown (appends_of added) log.past log.id part

-- All of these changes are appends.
pub record HasAppended {D : Type 0} (changes : D → Option (List Change)) (first : D) (log : State D)
    : Type 0 where
  pub growth : HasGrown changes first log
  pub alone : AreAppends growth.added

-- what it has done beside its log
abbrev pub deeds_by : {D : Type 0} → StoreState D → Deeds
deeds_by s = record {
  archives = s.archives;
  files = s.files;
  dropped = s.dropped;
  archived = s.archived;
}

-- Where it has put no file, and dropped and archived no segment, it has appended alone.
abbrev pub AppendsAlone : {D : Type 0} → (D → Option (List Change)) → StoreState D → Type 0
AppendsAlone changes s =
    deeds_by s ≡ no_deeds s.archives → HasAppended changes s.first s.notes.log

-- The disk's further changes stand in order.
pub record HasOrdered {D : Type 0} (changes : D → Option (List Change)) (s : StoreState D)
    : Type 0 where
  pub growth : HasGrown changes s.first s.notes.log
  pub ordered : AreOrdered (log_of s.notes) (deeds_by s) growth.added

-- What it keeps of the order: the files that it put are settled, and its changes stand in order,
-- whether or not the disk has failed.
pub record KeepsOrder {D : Type 0} (changes : D → Option (List Change)) (s : StoreState D)
    : Type 0 where
  pub settled : AreSettled s.notes s.files
  pub ordered : HasOrdered changes s

-- Where its disk tells its files, the folder is that of the store.
abbrev pub HoldsIt : {D : Type 0} → (D → Option Files) → StoreState D → Type 0
HoldsIt files s =
    (first now : Files) → files s.first ≡ Some first → files s.notes.log.disk ≡ Some now
    → HoldsStore first (log_of s.notes) (deeds_by s) now

-- The same, but for one name.
abbrev pub HoldsItButOne : {D : Type 0} → (D → Option Files) → StoreState D → Type 0
HoldsItButOne files s =
    (first now : Files) → files s.first ≡ Some first → files s.notes.log.disk ≡ Some now
    → HoldsButOne first (log_of s.notes) (deeds_by s) now

-- What a store keeps of its disk.
pub record IsStore {D : Type 0} (files : D → Option Files) (changes : D → Option (List Change))
    (moment : D → ℕ) (faults : D → ℕ) (read_at : D → ℕ → Option Reading)
    (lasted_at : D → ℕ → Type 0) (s : StoreState D) : Type 0 where
  pub opened : s.notes.log.opened ≡ moment s.first
  pub began : s.notes.log.first ≡ s.first
  pub later : IsLater moment read_at lasted_at s.first s.notes.log.disk
  pub no_fewer : faults s.first ≤ faults s.notes.log.disk
  pub risen : s.notes.log.is_stopped ≡ true → Rose (faults s.first) (faults s.notes.log.disk)
  pub quiet : s.notes.log.is_stopped ≡ false → faults s.notes.log.disk ≡ faults s.first
  pub grown : HasGrown changes s.first s.notes.log
  pub appended : AppendsAlone changes s
  pub order : KeepsOrder changes s
  pub sound : IsSound s.notes.log
  -- until the disk has failed, and once it has
  pub folder : s.notes.log.is_stopped ≡ false → HoldsIt files s
  pub left : s.notes.log.is_stopped ≡ true → HoldsItButOne files s

-- ---- its opening

-- A store that was just opened, over a log of sections.
abbrev pub store_over : {D : Type 0} → State D → Sizes → Bool → StoreState D
store_over log sizes archives = record {
  notes = record {
    log = log;
    base = log.id;
    sizes = sizes;
    synced = 0;
    logged = [];
    kept = [];
    written = 0;
  };
  archives = archives;
  first = log.disk;
  files = [];
  dropped = [];
  archived = [];
}

-- ---- faults

-- what a path is answered, with the disk's counts of faults at the opening and now
abbrev pub told_as : {T : Type 0} → ℕ → ℕ → Result T StoreFault → Result T KeeperFault
told_as at_open now (Ok x) = Ok x
told_as at_open now (Err Stopped) = Err (keeper.Stopped at_open now)
told_as at_open now (Err OutOfMemory) = Err keeper.OutOfMemory

-- the disk under an opened store, or the one that comes back, has P
abbrev pub HandsOver : {D : Type 0} → (D → Type 0) → Result (StoreState D) (D × OpenFault)
    → Type 0
HandsOver P (Ok store) = P store.notes.log.disk
HandsOver P (Err back) = P back.0

-- its log of sections alone has gone on
abbrev pub HasMoved : {D : Type 0} → StoreState D → StoreState D → Type 0
HasMoved before now =
    now ≡ record before { notes = record before.notes { log = now.notes.log } }

-- ---- table files

-- the table file that is put with these cells
abbrev pub put_of : Published → List (CellKey × Cell) → PutFile
put_of p cells = record {
  table = p.table.0;
  lower = p.lower.0;
  upper = p.upper.0;
  cells = cells;
}

-- The log lasts up to the key, or the key lies behind the marker that is to come there.
abbrev pub HasReached : {D : Type 0} → NoteState D → ℕ → Type 0
HasReached s key =
    EndsWithin s.log.id (take s.log.synced s.log.sections) (position_of s.base key)
