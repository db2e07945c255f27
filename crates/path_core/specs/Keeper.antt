-- What a keeper holds, and what its calls ask and do.
--
-- A keeper makes entries of the log lasting, puts table files and drops segments. A place of its
-- log is a key. The segment of an ordinal has the id `base + ordinal`.
use Rattle.std.specs.Prelude.{
  ◌≡◌,
  ◌↔◌,
  ◌⊎◌,
  ℕ,
  ◌+◌,
  ◌-◌,
  ◌^◌,
  ◌<◌,
  ◌≤◌,
  ◌==◌,
  ◌||◌,
  Bool,
  true,
  false,
  if◌then◌else◌,
  List,
  [],
  ◌∷◌,
  ◌++◌,
  length,
  Option,
  Some,
  None,
  Result,
  Ok,
  Err,
  IsTrue,
  ⊤,
}
use Rattle.std.specs.List.{Contains, AllPairs}
use Rattle.std.specs.List.Sorted.{IsPermutation}
use base.Stored.{Gv}
use Rattle.clog_base.specs.declared.cell.Cell.{Cell}
use Rattle.clog_base.specs.declared.cell.CellKey.{CellKey}
use Rattle.clog_base.specs.declared.sizes.Sizes.{Sizes}
use Rattle.clog_cells.specs.Merge.{IsMergeOf}
use Rattle.clog_mutation.specs.Payload.{cells_of}
use Rattle.path_core.specs.declared.keeper.KeeperFault.{KeeperFault}
use Rattle.path_core.specs.declared.keeper.KeeperFault.TheVariants.{Stopped, OutOfMemory}
use Rattle.path_core.specs.declared.note.EntryNote.{EntryNote}
use Rattle.path_core.specs.Droppable.{is_of}
use Rattle.path_core.specs.History.{IsInSegment}
use Rattle.path_core.specs.Keys.{ordinal_of, marker_size, next_segment, behind_marker, after}
use Rattle.path_core.specs.Whole.{IsWhole}

-- ---- what it holds

-- What is settled when a keeper is opened.
pub record Opening : Type 0 where
  -- a segment that is dropped gets its archive name first
  pub archives : Bool
  -- the keeper's disk as it was then, by the code of its type: equal codes are of equal disks
  pub disk : Gv
  -- the moment of its disk then, by which the disk tells what it was
  pub moment : ℕ
  -- how each name of its disk read then, where the disk tells it
  pub reads : Option (List ℕ → List ℕ)
  -- how many changes the disk had made, where it tells them
  pub changes : Option ℕ

-- A table file: it stands for the entries of the table that end above the one key and not above the
-- other.
pub record PutFile : Type 0 where
  pub table : ℕ
  pub lower : ℕ
  pub upper : ℕ
  pub cells : List (CellKey × Cell)

-- All that a keeper holds.
pub record Holding : Type 0 where
  pub base : ℕ
  pub sizes : Sizes
  pub opening : Opening
  -- its disk's count of faults when it was opened, and now
  pub at_open : ℕ
  pub faults : ℕ
  -- a call has answered that it has stopped
  pub stopped : Bool
  -- the start of the last sync's marker, 0 before the first
  pub synced : ℕ
  -- the entries that are lasting, in the order of the log
  pub logged : List EntryNote
  -- the entries of a sync that was refused, in the order of the log, until a sync ends well
  pub kept : List EntryNote
  -- the table files that it put, and the one that was refused until one is put
  pub files : List PutFile
  pub refused : Option PutFile
  -- the ordinals of the segments that it dropped, and of those that got their archive names
  pub dropped : List ℕ
  pub archived : List ℕ

-- A keeper of this base and these sizes that was just opened.
pub record IsFresh (base : ℕ) (sizes : Sizes) (h : Holding) : Type 0 where
  pub base_is : h.base ≡ base
  pub sizes_are : h.sizes ≡ sizes
  pub runs : h.stopped ≡ false
  pub nothing_synced : h.synced ≡ 0
  pub nothing_logged : h.logged ≡ []
  pub nothing_kept : h.kept ≡ []
  pub no_file : h.files ≡ []
  pub none_refused : h.refused ≡ None
  pub none_dropped : h.dropped ≡ []
  pub none_archived : h.archived ≡ []

-- ---- faults

-- a count of faults has risen, or stands at the greatest `u64`
abbrev pub HasRisen : ℕ → ℕ → Type 0
HasRisen before now = (before < now) ⊎ (now ≡ 2 ^ 64 - 1)

abbrev pub is_stopped : {T : Type 0} → Result T KeeperFault → Bool
is_stopped (Ok answer) = false
is_stopped (Err (Stopped at_open now)) = true
is_stopped (Err OutOfMemory) = false

-- the counts that a keeper tells which has stopped
abbrev pub TellsCounts : {T : Type 0} → Holding → Result T KeeperFault → Type 0
TellsCounts h (Ok answer) = ⊤
TellsCounts h (Err (Stopped at_open now)) =
    (at_open ≡ h.at_open) × (now ≡ h.faults) × HasRisen at_open now
TellsCounts h (Err OutOfMemory) = ⊤

-- A keeper stops only in a call in which its disk has failed, and from then on each call answers
-- so, with its disk's counts of faults: when it was opened, and now.
pub record HasKeeperCause {T : Type 0} (before now : Holding) (result : Result T KeeperFault) :
    Type 0 where
  pub later : before.faults ≤ now.faults
  pub counts : TellsCounts now result
  pub failed : before.stopped ≡ false → is_stopped result ≡ true
      → HasRisen before.faults now.faults
  pub for_good : before.stopped ≡ true → is_stopped result ≡ true
  pub kept_in_mind : now.stopped ≡ (before.stopped || is_stopped result)

-- ---- syncs

-- The pending entries up to a key, in the order of the log, and the others.
pub record IsParted (upto : ℕ) (pending run left : List EntryNote) : Type 0 where
  pub all : IsPermutation pending (run ++ left)
  pub low : (n : EntryNote) → Contains run n → n.end.0 ≤ upto
  pub high : (n : EntryNote) → Contains left n → upto < n.end.0
  pub in_order : AllPairs (λ (a b : EntryNote). a.end.0 ≤ b.end.0) run

-- A whole entry, in one segment that there is and that was not dropped.
pub record IsWritable (h : Holding) (n : EntryNote) : Type 0 where
  pub whole : IsWhole n
  pub in_segment : IsInSegment h.sizes.capacity n
  pub segment_is : ordinal_of n.start.0 < h.sizes.ordinals
  pub not_dropped : Contains h.dropped (ordinal_of n.start.0) → ⊥

-- where an entry may start behind another that ends at a key: there, behind a marker, or at the
-- front of the next segment
abbrev pub Follows : ℕ → ℕ → Type 0
Follows end start = (start ≡ end) ⊎ (start ≡ end + marker_size) ⊎ (start ≡ next_segment end)

-- entries follow one another from a key on, and the last one ends at another
abbrev pub FollowTo : ℕ → ℕ → List EntryNote → Type 0
FollowTo upto end [] = end ≡ upto
FollowTo upto end (n ∷ ns) = Follows end n.start.0 × FollowTo upto n.end.0 ns

-- The first starts where the log goes on behind the synced key, or at the front of the next
-- segment, and the last ends at `upto`. With no entry `upto` is the synced key.
abbrev pub Tile : ℕ → ℕ → ℕ → List EntryNote → Type 0
Tile capacity synced upto [] = upto ≡ synced
Tile capacity synced upto (n ∷ ns) =
    ((n.start.0 ≡ after capacity synced) ⊎ (n.start.0 ≡ next_segment (after capacity synced)))
    × FollowTo upto n.end.0 ns

abbrev pub last_end : EntryNote → List EntryNote → ℕ
last_end n [] = n.end.0
last_end n (m ∷ ms) = last_end m ms

-- behind entries that were kept the log went on behind a marker, or in the next segment
abbrev pub GoOnBehind : ℕ → List EntryNote → List EntryNote → Type 0
GoOnBehind capacity [] more = ⊤
GoOnBehind capacity (k ∷ ks) [] = ⊤
GoOnBehind capacity (k ∷ ks) (n ∷ ns) =
    (n.start.0 ≡ behind_marker capacity (last_end k ks))
    ⊎ (n.start.0 ≡ next_segment (last_end k ks))

-- What is asked of the entries that a sync writes: they tile the log from the synced key on, and
-- begin with those that were kept.
pub record MayWrite (h : Holding) (upto : ℕ) (run : List EntryNote) : Type 0 where
  pub each : (n : EntryNote) → Contains run n → IsWritable h n
  pub tiled : Tile h.sizes.capacity h.synced upto run
  pub more : List EntryNote
  pub begins : run ≡ h.kept ++ more
  pub go_on : GoOnBehind h.sizes.capacity h.kept more

pub record MaySync (h : Holding) (upto : ℕ) (pending : List EntryNote) : Type 0 where
  pub run : List EntryNote
  pub left : List EntryNote
  pub parted : IsParted upto pending run left
  pub may : MayWrite h upto run

-- A sync that ended well: the entries up to the key are logged, and no longer pending.
pub record Syncs (before now : Holding) (upto : ℕ) (pending left : List EntryNote) : Type 0 where
  pub run : List EntryNote
  pub parted : IsParted upto pending run left
  pub holds : now ≡ record before {
    faults = now.faults;
    synced = upto;
    logged = before.logged ++ run;
    kept = [];
  }

-- what is kept of a refused sync: what was kept before, or the entries up to the key
abbrev pub Keeps : Holding → Holding → ℕ → List EntryNote → Type 0
Keeps before now upto pending =
    (now.kept ≡ before.kept)
    ⊎ ((left : List EntryNote) × IsParted upto pending now.kept left)

-- A sync that was refused: nothing is logged, and all is pending as before.
pub record SyncRefused (before now : Holding) (upto : ℕ) (pending left : List EntryNote) :
    Type 0 where
  pub pends : IsPermutation pending left
  pub keeps : Keeps before now upto pending
  pub holds : now ≡ record before {
    faults = now.faults;
    stopped = now.stopped;
    kept = now.kept;
  }

-- ---- table files

-- the upper key of a table's last file, a key where there is none
abbrev pub upper_from : ℕ → ℕ → List PutFile → ℕ
upper_from t key [] = key
upper_from t key (f ∷ fs) = upper_from t (if f.table == t then f.upper else key) fs

-- A cell of the file's table, in an entry that is lasting and ends within the file's interval.
pub record IsLoggedCell (h : Holding) (f : PutFile) (pair : CellKey × Cell) : Type 0 where
  pub note : EntryNote
  pub among : Contains h.logged note
  pub whole : IsWhole note
  pub listed : Contains (cells_of whole.mutation) pair
  pub of_table : pair.0.table.0 ≡ f.table
  pub above : f.lower < note.end.0
  pub up_to : note.end.0 ≤ f.upper

-- What is asked of a table file: there is such a table, the log is lasting up to its upper key, it
-- goes on where the last file of its table ended, and its cells are the merge of what its interval
-- holds.
pub record MayPublish (h : Holding) (f : PutFile) : Type 0 where
  pub table_is : f.table < h.sizes.tables
  pub lasting : f.upper ≤ after h.sizes.capacity h.synced
  pub goes_on : f.lower ≡ upper_from f.table 0 h.files
  pub forward : f.lower ≤ f.upper
  pub merged : IsMergeOf (IsLoggedCell h f) f.cells
  pub few : length h.files < 2 ^ 47

-- The file is put.
abbrev pub Publishes : Holding → Holding → PutFile → Type 0
Publishes before now f =
    now ≡ record before {
      faults = now.faults;
      files = before.files ++ f ∷ [];
      refused = None;
    }

-- It is refused, which a keeper keeps in mind or not; one that had stopped does not.
pub record PublishRefused (before now : Holding) (f : PutFile) : Type 0 where
  pub refused : (now.refused ≡ before.refused) ⊎ (now.refused ≡ Some f)
  pub still : before.stopped ≡ true → now.refused ≡ before.refused
  pub holds : now ≡ record before {
    faults = now.faults;
    stopped = now.stopped;
    refused = now.refused;
  }

-- ---- dropping

-- the key lies in the interval of a file of the table
pub record IsFiledIn (files : List PutFile) (t key : ℕ) : Type 0 where
  pub file : PutFile
  pub among : Contains files file
  pub of_table : file.table ≡ t
  pub above : file.lower < key
  pub up_to : key ≤ file.upper

-- A segment is droppable: it has an entry that is lasting, none that is kept, and for each table
-- each key from one to another of the ends of its entries that touch the table lies in the table's
-- files.
pub record MayDrop (h : Holding) (o : ℕ) : Type 0 where
  pub note : EntryNote
  pub among : Contains h.logged note
  pub here : ordinal_of note.start.0 ≡ o
  pub none_kept : (n : EntryNote) → Contains h.kept n → ordinal_of n.start.0 ≡ o → ⊥
  pub filed : (t : ℕ) (a b : EntryNote) → Contains h.logged a → Contains h.logged b
      → IsTrue (is_of o t a) → IsTrue (is_of o t b)
      → (key : ℕ) → a.end.0 ≤ key → key ≤ b.end.0 → IsFiledIn h.files t key

-- it is to be dropped: closed, droppable, and there still
abbrev pub IsDue : Holding → ℕ → ℕ → Type 0
IsDue h closed o = (o < closed) × MayDrop h o × (Contains h.dropped o → ⊥)

-- what has archive names once these segments got theirs
abbrev pub archived_with : Holding → List ℕ → List ℕ
archived_with h ordinals =
    if h.opening.archives then h.archived ++ ordinals else h.archived

-- All that were due are dropped, in the order of their ids.
pub record Drops (before now : Holding) (closed count : ℕ) : Type 0 where
  pub ordinals : List ℕ
  pub ascending : AllPairs (λ (a b : ℕ). a < b) ordinals
  pub exact : (o : ℕ) → Contains ordinals o ↔ IsDue before closed o
  pub counted : count ≡ length ordinals
  pub holds : now ≡ record before {
    faults = now.faults;
    dropped = before.dropped ++ ordinals;
    archived = archived_with before ordinals;
  }

-- the next one that is due behind these
pub record IsNextDue (h : Holding) (closed : ℕ) (ordinals : List ℕ) (next : ℕ) : Type 0 where
  pub due : IsDue h closed next
  pub left : Contains ordinals next → ⊥
  pub lower_are_gone : (o : ℕ) → IsDue h closed o → o < next → Contains ordinals o

-- The first of them were dropped, in the order of their ids; the next one may have its archive
-- name. A keeper that had stopped drops none.
pub record DropRefused (before now : Holding) (closed : ℕ) : Type 0 where
  pub ordinals : List ℕ
  pub ascending : AllPairs (λ (a b : ℕ). a < b) ordinals
  pub due : (o : ℕ) → Contains ordinals o → IsDue before closed o
  pub first : (o p : ℕ) → IsDue before closed o → Contains ordinals p → o < p
      → Contains ordinals o
  pub named : (now.archived ≡ archived_with before ordinals)
      ⊎ ((next : ℕ) × IsNextDue before closed ordinals next
      × (now.archived ≡ archived_with before (ordinals ++ next ∷ [])))
  pub still : before.stopped ≡ true → (ordinals ≡ []) × (now.archived ≡ before.archived)
  pub holds : now ≡ record before {
    faults = now.faults;
    stopped = now.stopped;
    dropped = before.dropped ++ ordinals;
    archived = now.archived;
  }
