-- The holder of a table's Flush turn reads what lies in the boxes of a memtable behind its barrier.
-- Before that it empties those of the memtable below, which is retired.
use Rattle.std.specs.Prelude.{◌≡◌, ℕ, zero, suc, ◌+◌, ◌*◌, ◌<◌, true, false, List, [], ◌∷◌, Some}
use Rattle.std.specs.Prelude.{None}
use Rattle.std.specs.List.{Contains}
use Rattle.atomic_table.specs.Table.{Me, Step, rest}
use Rattle.clog_base.specs.declared.cell.Table.{Table}
use Rattle.path_core.specs.declared.event.Cursor.TheVariants.{OldestLive}
use Rattle.path_core.specs.declared.event.Event.TheVariants.{Look, Put}
use Rattle.path_core.specs.declared.event.Place.TheVariants.{Newest}
use Rattle.path_core.specs.declared.note.EntryNote.{EntryNote}
use Rattle.path_core.specs.Whole.{IsWhole}
use Rattle.path_rule.specs.declared.slot.Slot.{Slot}
use Rattle.path_rule.specs.declared.view.FlushRead.{FlushRead}
use Rattle.path_rule.specs.declared.view.Hands.{Hands}
use Rattle.path_rule.specs.declared.view.Role.TheVariants.{Steps}
use Rattle.path_rule.specs.declared.view.View.{View}
use Rattle.path_rule.specs.Boxes.{memtable_box, NotesAre}
use Rattle.path_rule.specs.HandsAfter.{box_read, box_seen, first_read, with_reading}
use Rattle.path_rule.specs.Retires.{RetiresEmptyIn}
use Rattle.path_rule.specs.Rule.{Was}
use Rattle.path_rule.specs.Switches.{FlushOldest, MayBeginRead}
use Rattle.path_rule.specs.Told.{MadeAs}

-- it has no box in hand to read it
abbrev pub TakesNone : Hands → Type 0
TakesNone h = (q : FlushRead) → h.reading ≡ Some q → q.taken ≡ None

-- the box of the next seat
abbrev pub next_box : ℕ → FlushRead → ℕ
next_box seats q = memtable_box seats q.seen_to q.table q.memtable

-- It reads a memtable of a table, and may take the box of the next seat.
abbrev pub MayRead : ℕ → Hands → ℕ → FlushRead → Type 0
MayRead seats h t q = (h.reading ≡ Some q) × (q.table ≡ t) × (q.taken ≡ None) × (q.seen_to < seats)

-- It has seen the boxes of all seats of a memtable that is not retired, and nothing lay in them.
abbrev pub SeesNone : ℕ → Hands → ℕ → ℕ → Type 0
SeesNone seats h t m = (q : FlushRead) × (h.reading ≡ Some q) × (q.table ≡ t) × (q.memtable ≡ m)
    × (q.taken ≡ None) × (q.seen_to ≡ seats) × (q.seen ≡ []) × (q.retired ≡ false)

-- It may read the first memtable; or it has emptied the boxes of the one below, which is retired.
abbrev pub HasEmptied : ℕ → View → ℕ → ℕ → Type 0
HasEmptied seats v t zero = MayBeginRead t v 0 × TakesNone v.hands
HasEmptied seats v t (suc k) = (q : FlushRead) × (v.hands.reading ≡ Some q) × (q.table ≡ t)
    × (q.memtable ≡ k) × (q.taken ≡ None) × (q.seen_to ≡ seats) × (q.retired ≡ true)

module _ {K : Type 0} where
  -- the box came, with these notes in it, each of which is whole
  abbrev pub TookRead : ℕ → List EntryNote → Me (Slot K) View → Me (Slot K) View → Type 0
  TookRead b held m m' = (y : Slot K) × (m'.1 ≡ (b, y) ∷ m.1) × NotesAre y held
      × ((n : EntryNote) → Contains held n → IsWhole n)

  -- At a look at the newest memtable of a table the least that is not retired is read from now on.
  abbrev pub ReadBegun : Step (Slot K) → Me (Slot K) View → ℕ → Me (Slot K) View → Type 0
  ReadBegun st m n m' = (w k : ℕ) (t : Table) → m.0.role ≡ Steps w → t.0 < 16
      → st.word ≡ 64 + 4 * t.0 → FlushOldest t.0 m.0.part k
      → MadeAs w (Look w (Newest t)) n (with_reading (Some (first_read t.0 k false)) m.0.hands) m.0
      m'.0 × (m'.1 ≡ m.1)

  -- the last retired one is, and its boxes are emptied
  abbrev pub EmptyingBegun : Step (Slot K) → Me (Slot K) View → ℕ → Me (Slot K) View → Type 0
  EmptyingBegun st m n m' = (w k : ℕ) (t : Table) → m.0.role ≡ Steps w → t.0 < 16
      → st.word ≡ 64 + 4 * t.0 → FlushOldest t.0 m.0.part (suc k)
      → MadeAs w (Look w (Newest t)) n (with_reading (Some (first_read t.0 k true)) m.0.hands) m.0
      m'.0 × (m'.1 ≡ m.1)

  -- no memtable is read any more
  abbrev pub ReadEnded : Step (Slot K) → Me (Slot K) View → ℕ → Me (Slot K) View → Type 0
  ReadEnded st m n m' = (w : ℕ) (t : Table) → m.0.role ≡ Steps w → t.0 < 16
      → st.word ≡ 64 + 4 * t.0
      → MadeAs w (Look w (Newest t)) n (with_reading None m.0.hands) m.0 m'.0 × (m'.1 ≡ m.1)

  -- the box of the next seat came
  abbrev pub ReadTaken : Step (Slot K) → Me (Slot K) View → ℕ → Me (Slot K) View → Type 0
  ReadTaken st m n m' = (w : ℕ) (t : Table) (q : FlushRead) → m.0.role ≡ Steps w → t.0 < 16
      → st.word ≡ 64 + 4 * t.0 → m.0.hands.reading ≡ Some q
      → (held : List EntryNote) × MadeAs w (Look w (Newest t)) n
      (with_reading (Some (box_read (next_box m.0.size.seats q) held q)) m.0.hands) m.0 m'.0
      × TookRead (next_box m.0.size.seats q) held m m'

  -- it went home, empty or as it was, and what it held was seen
  abbrev pub ReadGiven : Step (Slot K) → Me (Slot K) View → ℕ → Me (Slot K) View → Type 0
  ReadGiven st m n m' = (w : ℕ) (t : Table) (q : FlushRead) → m.0.role ≡ Steps w → t.0 < 16
      → st.word ≡ 64 + 4 * t.0 → m.0.hands.reading ≡ Some q
      → MadeAs w (Look w (Newest t)) n (with_reading (Some (box_seen q)) m.0.hands) m.0 m'.0
      × (m'.1 ≡ rest m.1)

  -- The least memtable of the table is retired, in which nothing is placed, and none is read any
  -- more.
  abbrev pub Retired : Step (Slot K) → Me (Slot K) View → ℕ → Me (Slot K) View → Type 0
  Retired st m n m' = (w : ℕ) (t : Table) → m.0.role ≡ Steps w → t.0 < 16
      → st.word ≡ 66 + 4 * t.0
      → MadeAs w (Put w (OldestLive t) n) n (with_reading None m.0.hands) m.0 m'.0
      × (m'.1 ≡ m.1)
      × ((was : Was m.0 w (Put w (OldestLive t) n))
      × ((k : ℕ) → n ≡ suc k → RetiresEmptyIn was.core t.0 k))
