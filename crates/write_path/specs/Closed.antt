-- What a path tells when it is closed.
use Rattle.std.specs.Prelude.{◌≡◌, ◌⊎◌, ℕ, ◌-◌, ◌*◌, ◌<◌, ◌≤◌, true, false, List, [], length, map}
use Rattle.std.specs.Prelude.{Option, Some, None, IsTrue}
use Rattle.std.specs.List.{All, Contains, filter, flat_map, range_with_len}
use Rattle.std.specs.List.Sorted.{IsPermutation}
use Rattle.atomic_table.specs.Seated.{TableId}
use Rattle.clog_cells.specs.Merge.{IsMergeOf}
use Rattle.path_core.specs.declared.event.Cursor.TheVariants.{Synced, Stopped}
use Rattle.path_core.specs.declared.event.Event.{Event}
use Rattle.path_core.specs.declared.event.Place.TheVariants.{CursorWord, Log}
use Rattle.path_core.specs.declared.note.EntryNote.{EntryNote}
use Rattle.path_core.specs.declared.state.PathState.{PathState}
use Rattle.path_core.specs.Droppable.{IsDroppable}
use Rattle.path_core.specs.History.{IsHistory}
use Rattle.path_core.specs.Keeper.{Holding, HasRisen, PutFile}
use Rattle.path_core.specs.Keys.{after, ordinal_of}
use Rattle.path_core.specs.LawfulLog.{is_at_most}
use Rattle.path_core.specs.Next.{is_between}
use Rattle.path_core.specs.Parts.{touches}
use Rattle.path_core.specs.Promises.{IsPlacedRight}
use Rattle.path_core.specs.Runs.{Past}
use Rattle.path_core.specs.Whole.{IsWhole}
use Rattle.path_rule.specs.declared.view.PathSize.{PathSize}
use Rattle.path_rule.specs.declared.view.Returned.{Returned}
use Rattle.path_rule.specs.Filing.{IsCellBetween, file_range}
use Rattle.path_rule.specs.Finds.{Finds}
use Rattle.path_rule.specs.Lasts.{fault_count, stopped_with}
use Rattle.path_rule.specs.Limits.{most_memtables}
use Rattle.path_rule.specs.Rule.{AreBuilt, IsFit, start_of, event_of, steps_by}
use Rattle.path_table.specs.declared.table.Opener.{Opener}
use Rattle.path_table.specs.declared.trying.PathSeat.{PathSeat}
use Rattle.path_table.specs.Members.{view_of, part_of, IsOf, returned_of}
use Rattle.write_path.specs.declared.resting.Resting.{Resting}
use Rattle.write_path.specs.ClosedFiles.{AreEmpty, AreFinal, AreGiven, CoversFlushed}
use Rattle.write_path.specs.ClosedFiles.{HasEntryBetween, IsFlushedBy, IsUnfiled, held_range}
use Rattle.path_flush.specs.OwnWrites.{writes_of}
use Rattle.write_path.specs.Sealed.{AreSealed, AreSealedApart}

-- A path is closed with all of its seats, in whatever order, or with none where they were not
-- handed out.
abbrev pub AreAll : {K : Type 0} → Option (Resting (Opener K)) → ℕ → List ℕ → Type 0
AreAll (Some opener) count numbers = numbers ≡ []
AreAll None count numbers = IsPermutation (range_with_len 0 count) numbers

module _ {K : Type 0} where
  -- they are seats of the path
  abbrev pub AreOf : TableId → PathSize → List (PathSeat K) → Type 0
  AreOf id size seats = All (λ (s : PathSeat K). IsOf id size s.member) seats

  -- what seats tell the one that takes them in
  abbrev pub returned_by : List (PathSeat K) → List Returned
  returned_by seats = map (λ (s : PathSeat K). returned_of s.member) seats

  -- the seats' lists of their own writes, together
  abbrev pub all_writes : List (PathSeat K) → List EntryNote
  all_writes seats = flat_map (λ (s : PathSeat K). writes_of s.member.seat.me.0.trail) seats

-- A seat last found or put this synced key, or none, and the keeper has at least so much.
abbrev pub IsSyncedFor : {K : Type 0} → Holding → PathSeat K → Type 0
IsSyncedFor h s = (key : ℕ) → (part_of s.member).found.synced ≡ Some key → key ≤ h.synced

-- Where a seat last found or put that the log is stopped, the keeper has stopped, with that count.
abbrev pub IsStoppedFor : {K : Type 0} → Holding → PathSeat K → Type 0
IsStoppedFor h s = (n : ℕ) → (part_of s.member).found.stopped ≡ Some n → 0 < n
    → (h.stopped ≡ true) × (h.faults ≡ n)

-- The same of each synced key, and of each count, that the seat ever found or put.
abbrev pub AreSyncedFor : {K : Type 0} → Holding → PathSeat K → Type 0
AreSyncedFor h s =
    (key : ℕ) → Finds (CursorWord Synced) key (view_of s.member).trail → key ≤ h.synced

abbrev pub AreStoppedFor : {K : Type 0} → Holding → PathSeat K → Type 0
AreStoppedFor h s = (n : ℕ) → Finds (CursorWord Stopped) n (view_of s.member).trail → 0 < n
    → (h.stopped ≡ true) × (h.faults ≡ n)

-- The log has come to each log key that a seat found.
abbrev pub HasComeFor : {K : Type 0} → ℕ → PathSeat K → Type 0
HasComeFor end s = (key : ℕ) → Finds Log key (view_of s.member).trail → key ≤ end

-- The keeper that a path gives back has beside its log what the one had over which it was opened:
-- the same disk at the opening. Where the path was opened for no table files it has none, and no
-- archive name, where there was none.
pub record StaysBeside (size : PathSize) (first h : Holding) : Type 0 where
  pub disk_is : h.opening.disk ≡ first.opening.disk
  pub archives_are : h.opening.archives ≡ first.opening.archives
  pub tables_are : h.sizes.tables ≡ first.sizes.tables
  pub writers_are : h.sizes.writers ≡ first.sizes.writers
  pub no_file : size.files ≡ false → first.files ≡ [] → h.files ≡ []
  pub none_refused : size.files ≡ false → first.refused ≡ None → h.refused ≡ None
  pub none_archived : size.files ≡ false → first.archived ≡ [] → h.archived ≡ []

-- Each entry ends at or below a synced key that the seat found, or put, or behind the key at which
-- the log goes on behind it.
abbrev pub ArePartedFor : {K : Type 0} → ℕ → List EntryNote → PathSeat K → Type 0
ArePartedFor capacity history s = (key : ℕ) → Finds (CursorWord Synced) key (view_of s.member).trail
    → (n : EntryNote) → Contains history n → (n.end.0 ≤ key) ⊎ (after capacity key < n.end.0)

-- The log passes over no segment: in each one up to that in which an entry begins, one begins. So
-- the first entry stands in the segment of ordinal 0.
abbrev pub PassesNoSegment : List EntryNote → Type 0
PassesNoSegment notes = (n : EntryNote) → Contains notes n → (o : ℕ) → o ≤ ordinal_of n.start.0
    → (m : EntryNote) × Contains notes m × (ordinal_of m.start.0 ≡ o)

-- The keeper is of these sizes, and of the opening with this count of faults.
pub record IsOfSize (size : PathSize) (h : Holding) : Type 0 where
  pub base_is : h.base ≡ size.base
  pub capacity_is : h.sizes.capacity ≡ size.capacity
  pub ordinals_are : h.sizes.ordinals ≡ size.ordinals
  pub at_open_is : h.at_open ≡ size.at_open

-- The path was one run of the machine, of which each seat's steps are its own and which ends at
-- this log key. What the seats wrote, in the order of the log, is a lawful history, and the keeper
-- has its part up to the synced key.
pub record IsOutcome {K : Type 0} (size : PathSize) (seats : List (PathSeat K)) (end : ℕ)
    (h : Holding) : Type 0 where
  pub fit : IsFit size
  pub core : PathState
  pub events : List Event
  pub run : Past (start_of size) events core
  -- each step was of a kind that is built: a marker was claimed only while the log ran, and so was
  -- a group of the append order made, where a marker of the seat wanted a barrier
  pub built : AreBuilt size.at_open (start_of size) events core run
  pub own : All (λ (s : PathSeat K). map event_of (view_of s.member).trail
      ≡ steps_by s.member.number events) seats
  pub end_is : end ≡ core.log
  -- its notes are what the seats wrote
  pub of_writes : IsPermutation (all_writes seats) core.notes
  pub lawful : IsHistory size.capacity core.notes
  pub whole : (n : EntryNote) → Contains core.notes n → IsWhole n
  -- each stands in exactly one memtable of each of its tables, the one whose interval of the log
  -- holds its position
  pub placed : (n : EntryNote) → Contains core.notes n → (t : ℕ) → IsTrue (touches n.tables t)
      → IsPlacedRight core t n.end.0
  -- they end at or below the log's end
  pub below : (n : EntryNote) → Contains core.notes n → n.end.0 ≤ end
  pub synced_below : h.synced ≤ end
  -- the log has come to each key that a seat found, and has at most two segments for each write,
  -- but for one
  pub found_log : All (HasComeFor end) seats
  pub few_segments : ordinal_of end ≤ 2 * length core.notes - 1
  -- its first entries pass over no segment, up to whatever key
  pub none_passed : (key : ℕ) → PassesNoSegment (filter (is_at_most key) core.notes)
  -- the keeper has what the run made lasting
  pub synced_is : h.synced ≡ core.synced
  -- no memtable has a table file, and no segment has gone, where it was opened for no table files
  pub unfiled : size.files ≡ false → IsUnfiled core h
  -- the keeper's table files and those of the run stand for the same intervals, in one order
  pub files_are : map held_range h.files ≡ map file_range core.files
  -- it has at most one for each memtable that a path makes at most
  pub few_files : length h.files ≤ most_memtables
  -- each has the newest cells of what the history has in its interval
  pub true_files : (f : PutFile) → Contains h.files f
      → IsMergeOf (IsCellBetween core.notes f.table f.lower f.upper) f.cells
  -- each segment that the keeper dropped has gone in the run, in which it may go
  pub dropped_in : (o : ℕ) → Contains h.dropped o → Contains core.dropped o
  pub droppable : (o : ℕ) → Contains h.dropped o
      → IsDroppable core o × (o < ordinal_of core.synced)
  -- so may each segment that got its archive name
  pub archived_may : (o : ℕ) → Contains h.archived o
      → IsDroppable core o × (o < ordinal_of core.synced)
  -- a keeper that gives archive names has given one to each segment that it dropped, and one that
  -- gives none has given none
  pub all_archived : h.opening.archives ≡ true → (o : ℕ) → Contains h.dropped o
      → Contains h.archived o
  pub none_archived : h.opening.archives ≡ false → h.archived ≡ []
  -- what a seat knows to be flushed lies in the keeper's files
  pub covered : All (λ (s : PathSeat K). CoversFlushed core.notes h.files
      (view_of s.member).trail) seats
  -- each file is of a table of which a seat has retired a memtable with a file
  pub asked : (f : PutFile) → Contains h.files f → IsFlushedBy seats f.table
  -- and stands for an entry: one of the history touches its table, and ends within its interval
  pub for_some : (f : PutFile) → Contains h.files f
      → HasEntryBetween core.notes f.table f.lower f.upper
  -- each memtable that a seat found final at a key, or made final there, is final at that key
  pub finals : All (λ (s : PathSeat K). AreFinal core (view_of s.member).trail) seats
  -- in each that a seat retired without a table file nothing is placed
  pub emptied : All (λ (s : PathSeat K). AreEmpty core (view_of s.member).trail) seats
  -- in each that it retired with one something is placed, and the keeper has the file, from the key
  -- that the step gave to the memtable's final bound
  pub given : All (λ (s : PathSeat K). AreGiven core h.files (view_of s.member).trail) seats
  -- and the keeper has stopped as the run has
  pub stops : stopped_with h.stopped h.faults ≡ fault_count core.stopped
  -- so it has all that a seat knows to be synced, and has stopped where a seat knows that
  pub found_synced : All (IsSyncedFor h) seats
  pub found_stopped : All (IsStoppedFor h) seats
  pub all_synced : All (AreSyncedFor h) seats
  pub all_stopped : All (AreStoppedFor h) seats
  -- each entry lies in front of such a synced key, or behind it
  pub parted : All (ArePartedFor size.capacity core.notes) seats
  -- a marker stands behind each sealed write, and in front of each later one of its seat
  pub sealed : All (λ (s : PathSeat K). AreSealed size.capacity core.notes h.synced
      (view_of s.member).trail) seats
  pub apart : All (λ (s : PathSeat K). AreSealedApart size.capacity core.notes h.synced
      (view_of s.member).trail) seats
  -- what is lasting, and what a refused sync kept above it
  pub logged : h.logged ≡ filter (is_at_most h.synced) core.notes
  pub kept_to : ℕ
  pub kept : h.kept ≡ filter (is_between h.synced kept_to) core.notes
  -- it has stopped only with a count of faults that has risen since it was opened
  pub stopped : h.stopped ≡ true → HasRisen h.at_open h.faults
  pub sized : IsOfSize size h
