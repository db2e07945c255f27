-- What the holder of a table's Flush turn has read of a memtable whose barrier is passed. It takes
-- the boxes of all seats one by one, looks at what is in them, and gives each back: as it was, or
-- empty where the memtable is retired.
use Rattle.std.specs.Prelude.{◌≡◌, ℕ, suc, ◌<◌, cond, true, false, Some, None, IsTrue, is_some}
use Rattle.std.specs.List.{Contains}
use Rattle.path_core.specs.declared.note.EntryNote.{EntryNote}
use Rattle.path_core.specs.declared.seat.Seat.{Seat}
use Rattle.path_core.specs.declared.state.PathState.{PathState}
use Rattle.path_core.specs.declared.state.Placed.{Placed}
use Rattle.path_core.specs.Parts.{seat_table, table_of, HasPassedBarrier}
use Rattle.path_rule.specs.declared.view.FlushRead.{FlushRead}
use Rattle.path_rule.specs.declared.view.Hands.{Hands}
use Rattle.path_rule.specs.declared.view.Role.{Role}
use Rattle.path_rule.specs.declared.view.Role.TheVariants.{Opener, Steps, Spent}
use Rattle.path_rule.specs.declared.view.View.{View}
use Rattle.path_rule.specs.Boxes.{memtable_box}

-- what is placed in a memtable of a table for the entry of a note
abbrev pub placed_at : ℕ → ℕ → EntryNote → Placed
placed_at t m n = record { table = t; entry = n.end.0; memtable = m }

-- the least memtable of its table that is not retired: the one that it reads, or the next
abbrev pub oldest_by : FlushRead → ℕ
oldest_by q = cond q.retired (suc q.memtable) q.memtable

-- What it has read is so: what was placed in the memtable by the seats whose boxes it saw, and all
-- of that where the memtable is not retired.
pub record ReadsAre (seats : ℕ) (x : PathState) (p : Seat) (q : FlushRead) : Type 0 where
  pub few : q.table < 16
  -- it holds the table's Flush turn
  pub held : IsTrue (is_some (seat_table p q.table).flush)
  pub passed : HasPassedBarrier x q.table q.memtable
  -- and behind a retired one the next may be read
  pub next_passed : q.retired ≡ true → HasPassedBarrier x q.table (suc q.memtable)
  pub live : (table_of x q.table).oldest_live ≡ oldest_by q
  -- the box in hand is that of the next seat
  pub next : (b : ℕ) → q.taken ≡ Some b
      → (b ≡ memtable_box seats q.seen_to q.table q.memtable) × (q.seen_to < seats)
  pub sound : (n : EntryNote) → Contains q.seen n
      → Contains x.notes n × Contains x.placed (placed_at q.table q.memtable n)
  pub all : q.retired ≡ false → (n : EntryNote) → Contains x.notes n → n.writer.0 < q.seen_to
      → Contains x.placed (placed_at q.table q.memtable n) → Contains q.seen n

abbrev pub ReadsAs : ℕ → PathState → Seat → Hands → Role → Type 0
ReadsAs seats x p h (Steps w) = (q : FlushRead) → h.reading ≡ Some q → ReadsAre seats x p q
ReadsAs seats x p h (Opener k) = h.reading ≡ None
ReadsAs seats x p h Spent = h.reading ≡ None

-- A memtable that the seat reads is of a table whose turn it has.
abbrev pub ReadsHeld : View → Type 0
ReadsHeld v = (q : FlushRead) → v.hands.reading ≡ Some q
    → IsTrue (is_some (seat_table v.part q.table).flush)
