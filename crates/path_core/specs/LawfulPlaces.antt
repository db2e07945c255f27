-- What is true of the memtables in which writes were placed, and of those that they try.
use Rattle.std.specs.Prelude.{
  ◌≡◌,
  ℕ,
  suc,
  ◌+◌,
  ◌<◌,
  ◌≤◌,
  ◌==◌,
  max,
  Bool,
  ◌&&◌,
  length,
  Some,
  is_some,
  IsTrue,
  Option,
}
use Rattle.std.specs.List.{Contains, count_by}
use Rattle.clog_base.specs.declared.position.Key.{Key}
use Rattle.path_core.specs.declared.note.EntryNote.{EntryNote}
use Rattle.path_core.specs.declared.seat.Range.{Range}
use Rattle.path_core.specs.declared.seat.Seat.{Seat}
use Rattle.path_core.specs.declared.state.Bound.TheVariants.{Raising, Final}
use Rattle.path_core.specs.declared.state.PathState.{PathState}
use Rattle.path_core.specs.declared.state.Placed.{Placed}
use Rattle.path_core.specs.Parts.{
  seat_of,
  seat_table,
  table_of,
  memtable_at,
  memtable_of,
  key_of_bound,
  touches,
}
use Rattle.path_core.specs.LawfulLog.{is_write_of}
use Rattle.path_core.specs.LawfulTables.{may_touch}
use Rattle.path_core.specs.declared.state.Memtable.{Memtable}
use Rattle.path_core.specs.declared.state.TableState.{TableState}

-- The memtable before one is final below a position; before the first there is none.
pub record IsFinalBelow (table : TableState) (m entry : ℕ) : Type 0 where
  pub bound : Key
  pub final : (memtable_at table m).bound ≡ Final bound
  pub below : bound.0 < entry

abbrev pub IsAboveBefore : TableState → ℕ → ℕ → Type 0
IsAboveBefore table m entry = (k : ℕ) → m ≡ suc k → IsFinalBelow table k entry

-- A memtable lets in the entry of a position.
pub record LetsIn (m : Memtable) (entry : ℕ) : Type 0 where
  pub final : (u : Key) → m.bound ≡ Final u → entry ≤ u.0
  -- at most the greater of the bound and the log key at the Mark
  pub raising : (b : Key) (mark : ℕ) → m.bound ≡ Raising b → m.mark ≡ Some mark
      → entry ≤ max b.0 mark

-- A memtable of a table may hold the entry of a position.
pub record IsAccepted (table : TableState) (m entry : ℕ) : Type 0 where
  pub made : m ≤ table.newest
  pub above_before : IsAboveBefore table m entry
  pub lets_in : LetsIn (memtable_at table m) entry

-- An entry that was placed is noted, and touches the table.
pub record IsNoted (x : PathState) (t entry : ℕ) : Type 0 where
  pub note : EntryNote
  pub among : Contains x.notes note
  pub position : note.end.0 ≡ entry
  pub touched : IsTrue (touches note.tables t)

pub record PlacedIs (x : PathState) (p : Placed) : Type 0 where
  pub table : p.table < length x.tables
  pub noted : IsNoted x p.table p.entry
  pub accepted : IsAccepted (table_of x p.table) p.memtable p.entry

abbrev pub is_placing : ℕ → ℕ → Placed → Bool
is_placing t entry p = (p.table == t) && (p.entry == entry)

-- a running write of the entry has a place at the table
abbrev pub has_placed : ℕ → ℕ → Seat → Bool
has_placed t entry s = is_write_of entry s && is_some (seat_table s t).place

-- Each entry is placed in at most one memtable of a table.
abbrev pub PlacedOnce : PathState → Type 0
PlacedOnce x = (t entry : ℕ)
    → count_by (is_placing t entry) x.placed + count_by (has_placed t entry) x.seats ≤ 1

-- A write tries a memtable only above the final bounds of those before.
pub record TriesAbove (table : TableState) (m entry : ℕ) : Type 0 where
  pub made : m ≤ table.newest
  pub above_before : IsAboveBefore table m entry

-- What a seat with a claim and a note tries at a table: only a deposited seat tries, at a table of
-- its note, and its place is the memtable that it tries.
pub record TriesAre (tables t : ℕ) (table : TableState) (claim : Option Range) (note : Option ℕ)
    (trying place : Option ℕ) : Type 0 where
  pub of_note : (m : ℕ) → trying ≡ Some m
      → (n : ℕ) × (note ≡ Some n) × IsTrue (touches n t) × (t < tables)
  pub place_is_tried : (m : ℕ) → place ≡ Some m → trying ≡ Some m
  pub above : (m : ℕ) (r : Range) → trying ≡ Some m → claim ≡ Some r → TriesAbove table m r.end
  pub accepted : (m : ℕ) (r : Range) → place ≡ Some m → claim ≡ Some r → IsAccepted table m r.end

-- The entry of a note has its place at a table.
abbrev pub HasPlace : PathState → ℕ → ℕ → Type 0
HasPlace x t entry =
    (m : ℕ) × Contains x.placed (record { table = t; entry = entry; memtable = m })

-- A write that may touch a table and is not closed ends above a key.
abbrev pub NoneBelow : PathState → ℕ → ℕ → Type 0
NoneBelow x t key = (w : ℕ) (r : Range) → (seat_of x w).claim ≡ Some r
    → IsTrue (may_touch (seat_of x w) t) → key < r.end

-- The write of a note is closed: no seat has its claim any more.
abbrev pub IsClosed : PathState → EntryNote → Type 0
IsClosed x n = (w : ℕ) (r : Range) → (seat_of x w).claim ≡ Some r → r.end ≡ n.end.0 → ⊥

-- What writes try, and where they were placed.
pub record PlacesAre (x : PathState) : Type 0 where
  -- writes of the groups behind a memtable's barrier are logged above its bound
  pub later_above : (t m g h w : ℕ) (u : Key) (r : Range) → (memtable_of x t m).barrier ≡ Some g
      → (memtable_of x t m).bound ≡ Final u → (seat_of x w).write ≡ Some h → g < h
      → (seat_of x w).claim ≡ Some r → u.0 < r.end
  -- no unfinished write that touches the table ends at or below a retired memtable's bound
  pub none_below : (t m : ℕ) → m < (table_of x t).oldest_live
      → NoneBelow x t (key_of_bound (memtable_of x t m).bound)
  pub tries : (w t : ℕ) → TriesAre (length x.tables) t (table_of x t) (seat_of x w).claim
      (seat_of x w).note (seat_table (seat_of x w) t).trying (seat_table (seat_of x w) t).place
  -- entries stand where they were accepted
  pub placed : (p : Placed) → Contains x.placed p → PlacedIs x p
  -- the entry of a write that is closed has its place at each of its tables
  pub closed : (n : EntryNote) (t : ℕ) → Contains x.notes n → IsClosed x n
      → IsTrue (touches n.tables t) → HasPlace x t n.end.0

-- Writes of the groups behind a memtable's barrier try it, or a later one: so once that barrier is
-- passed, no write tries a memtable below.
abbrev pub LaterTries : PathState → Type 0
LaterTries x = (t m g h w k : ℕ) → (memtable_of x t m).barrier ≡ Some g
    → (seat_of x w).write ≡ Some h → g < h → (seat_table (seat_of x w) t).trying ≡ Some k → m ≤ k

-- The entry of a position has exactly one place at a table.
abbrev pub HasOnePlace : PathState → ℕ → ℕ → Type 0
HasOnePlace x t entry = count_by (is_placing t entry) x.placed ≡ 1

-- A write that is closed has exactly one place for each of its tables.
abbrev pub ClosedIsPlaced : PathState → Type 0
ClosedIsPlaced x = (n : EntryNote) (t : ℕ) → Contains x.notes n
    → count_by (is_write_of n.end.0) x.seats ≡ 0 → IsTrue (touches n.tables t)
    → HasOnePlace x t n.end.0

-- The entry of a write that is not closed is placed nowhere yet.
abbrev pub RunningAreUnplaced : PathState → Type 0
RunningAreUnplaced x = (w : ℕ) (r : Range) (p : Placed) → (seat_of x w).claim ≡ Some r
    → Contains x.placed p → p.entry ≡ r.end → ⊥
