-- What is true of the memtables of a table in each state: bounds, barriers and files.
use Rattle.std.specs.Prelude.{
  ◌≡◌,
  ℕ,
  suc,
  ◌<◌,
  ◌≤◌,
  ◌==◌,
  Bool,
  true,
  List,
  [],
  ◌∷◌,
  length,
  Some,
  IsTrue,
  ◌↔◌,
}
use Rattle.std.specs.List.{filter, Contains}
use Rattle.std.specs.Option.{option_map_or}
use Rattle.clog_base.specs.declared.position.Key.{Key}
use Rattle.path_core.specs.declared.note.EntryNote.{EntryNote}
use Rattle.path_core.specs.declared.seat.Range.{Range}
use Rattle.path_core.specs.declared.seat.Seat.{Seat}
use Rattle.path_core.specs.declared.state.Bound.TheVariants.{Live, Raising, Final}
use Rattle.path_core.specs.declared.state.PathState.{PathState}
use Rattle.path_core.specs.declared.state.TableState.{TableState}
use Rattle.path_core.specs.declared.state.WrittenFile.{WrittenFile}
use Rattle.path_core.specs.Parts.{
  seat_of,
  table_of,
  memtable_at,
  memtable_of,
  claim_at,
  is_marker,
  touches,
  IsFinal,
  key_of_bound,
  HasPassedBarrier,
  last_upper,
  marked_of,
}
use Rattle.path_core.specs.History.{bound_below, bound_before, touching}
use Rattle.path_core.specs.declared.seat.Marked.{Marked}

-- The bounds of a table's memtables.
pub record BoundsRise (log : ℕ) (table : TableState) : Type 0 where
  pub made : length table.memtables ≡ suc table.newest
  pub newest_is_live : (memtable_at table table.newest).bound ≡ Live
  pub oldest_is_made : table.oldest_live ≤ table.newest
  -- only the one below the newest may be live too, raising, or final and not retired
  pub one_behind : table.newest ≤ suc table.oldest_live
  pub others_are_final : (m : ℕ) → suc m < table.newest → IsFinal (memtable_at table m).bound
  -- final bounds never fall
  pub rise : (m n : ℕ) (a b : Key) → m < n → (memtable_at table m).bound ≡ Final a
      → (memtable_at table n).bound ≡ Final b → a.0 ≤ b.0
  pub below_log : (m : ℕ) → key_of_bound (memtable_at table m).bound ≤ log

-- The log key at the Mark of a raising memtable.
pub record MarkInRange (log : ℕ) (table : TableState) (m : ℕ) : Type 0 where
  pub key : ℕ
  pub mark : (memtable_at table m).mark ≡ Some key
  pub below_log : key ≤ log
  pub above_before : bound_below table m ≤ key

-- What is true of a table's memtables.
pub record MemtablesAre (log : ℕ) (table : TableState) : Type 0 where
  pub bounds_rise : BoundsRise log table
  pub mark_key_in_range : (m : ℕ) (b : Key) → (memtable_at table m).bound ≡ Raising b
      → MarkInRange log table m
  -- a memtable that has a barrier is final, and a retired one is
  pub barrier_means_final : (m g : ℕ) → (memtable_at table m).barrier ≡ Some g
      → IsFinal (memtable_at table m).bound
  pub retired_is_final : (m : ℕ) → m < table.oldest_live → IsFinal (memtable_at table m).bound

-- The memtable that the holder of a table's turn has marked is raising below the newest. A log key
-- that it found since is at or above the one at the Mark; so is the bound, once it has raised it.
pub record MarkedIsRaising (log : ℕ) (table : TableState) (k : Marked) : Type 0 where
  pub below_newest : suc k.memtable ≡ table.newest
  pub bound : Key
  pub raising : (memtable_at table k.memtable).bound ≡ Raising bound
  pub mark : ℕ
  pub marked : (memtable_at table k.memtable).mark ≡ Some mark
  pub fresh : (key : ℕ) → k.key ≡ Some key → (mark ≤ key) × (key ≤ log)
  pub raised : k.raised ≡ true → mark ≤ bound.0

-- What is true of all memtables, and of those that holders of turns have marked.
pub record SwitchesAre (x : PathState) : Type 0 where
  pub tables : (t : ℕ) → MemtablesAre x.log (table_of x t)
  pub marked : (w t : ℕ) (k : Marked) → marked_of (seat_of x w) t ≡ Some k
      → MarkedIsRaising x.log (table_of x t) k

-- Writes of the groups behind a marker's barrier are logged above the marker.
pub record LaterGroupsAbove (x : PathState) : Type 0 where
  pub markers : (i g h w : ℕ) (r : Range) → i < length x.claims → IsTrue (is_marker (claim_at x i))
      → (claim_at x i).barrier ≡ Some g → (seat_of x w).append ≡ Some h → g < h
      → (seat_of x w).claim ≡ Some r → (claim_at x i).start < r.end

-- The group of a memtable's barrier is below the current one; so is the group of a marker's.
pub record BarriersBelow (x : PathState) : Type 0 where
  pub memtables : (t m g : ℕ) → (memtable_of x t m).barrier ≡ Some g → g < x.write.current
  pub markers : (i g : ℕ) → i < length x.claims → (claim_at x i).barrier ≡ Some g
      → g < x.append.current

-- A write that is not deposited may touch each table.
abbrev pub may_touch : Seat → ℕ → Bool
may_touch s t = option_map_or (λ (tables : ℕ). touches tables t) s.note true

abbrev pub is_file_of : ℕ → WrittenFile → Bool
is_file_of t f = f.table == t

-- The files follow one another from a key.
abbrev pub FollowFrom : ℕ → List WrittenFile → Type 0
FollowFrom key [] = Unit {0}
FollowFrom key (f ∷ fs) = (f.lower ≡ key) × (f.lower ≤ f.upper) × FollowFrom f.upper fs

-- The file of a retired memtable: its log interval lies in the file's.
pub record HasFile (x : PathState) (t m : ℕ) : Type 0 where
  pub file : WrittenFile
  pub among : Contains x.files file
  pub table : file.table ≡ t
  pub memtable : file.memtable ≡ m
  pub lower : file.lower ≤ bound_before x t m
  pub upper : (memtable_of x t m).bound ≡ Final (record { 0 = file.upper })

-- A retired memtable is final, its barrier is passed, no unfinished write that touches the table
-- ends at or below its bound, and what was placed in it is in its file.
pub record RetiredIsFiled (x : PathState) (t m : ℕ) : Type 0 where
  pub final : IsFinal (memtable_of x t m).bound
  pub passed : HasPassedBarrier x t m
  pub none_below : (w : ℕ) (r : Range) → (seat_of x w).claim ≡ Some r
      → IsTrue (may_touch (seat_of x w) t) → key_of_bound (memtable_of x t m).bound < r.end
  pub filed : (entry : ℕ) → Contains x.placed (record { table = t; entry = entry; memtable = m })
      → HasFile x t m

-- The files of a table follow one another from key 0: each begins where the one before it ends.
abbrev pub FilesFollow : PathState → ℕ → Type 0
FilesFollow x t = FollowFrom 0 (filter (is_file_of t) x.files)

pub record RetiredAreFiled (x : PathState) : Type 0 where
  pub each : (t m : ℕ) → t < length x.tables → m < (table_of x t).oldest_live
      → RetiredIsFiled x t m
  pub follow : (t : ℕ) → FilesFollow x t

-- A file's memtable is retired, and the file ends at its bound.
pub record FileIsOfRetired (x : PathState) (f : WrittenFile) : Type 0 where
  pub table : f.table < length x.tables
  pub retired : f.memtable < (table_of x f.table).oldest_live
  pub upper : (memtable_of x f.table f.memtable).bound ≡ Final (record { 0 = f.upper })

-- The last file of a table ends at or below the bound of its last retired memtable.
pub record LastFiles (x : PathState) : Type 0 where
  pub below : (t : ℕ) → t < length x.tables
      → last_upper x.files t ≤ bound_before x t (table_of x t).oldest_live
  pub each : (f : WrittenFile) → Contains x.files f → FileIsOfRetired x f

-- The entry of a position that touches a table within an interval.
pub record IsTouched (x : PathState) (t lower upper entry : ℕ) : Type 0 where
  pub note : EntryNote
  pub among : Contains (touching x.notes t lower upper) note
  pub position : note.end.0 ≡ entry

-- A file holds exactly what touches its table in its interval, and that is what was placed in its
-- memtable.
abbrev pub FileHoldsItsInterval : PathState → WrittenFile → Type 0
FileHoldsItsInterval x f = (entry : ℕ)
    → Contains x.placed (record { table = f.table; entry = entry; memtable = f.memtable })
    ↔ IsTouched x f.table f.lower f.upper entry

abbrev pub FilesAreTrue : PathState → Type 0
FilesAreTrue x = (f : WrittenFile) → Contains x.files f → FileHoldsItsInterval x f

-- A file begins at or below the log interval of its memtable: the intervals between the two are of
-- memtables that held nothing.
abbrev pub FilesBegin : PathState → Type 0
FilesBegin x = (f : WrittenFile) → Contains x.files f → f.lower ≤ bound_before x f.table f.memtable
