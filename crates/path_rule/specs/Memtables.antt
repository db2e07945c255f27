-- What the boxes of memtables hold. Each writer has one for each table and each place of a
-- memtable: there lie the entries that it put into the memtable that has the place. What closed
-- writes placed in a memtable that is not retired is all there. What they placed in the last
-- retired one may be; of those before it nothing is left.
use Rattle.std.specs.Prelude.{
  ◌≡◌,
  ◌⊎◌,
  ℕ,
  suc,
  ◌%◌,
  ◌<◌,
  ◌≤◌,
  get_or,
  true,
  false,
  List,
  [],
  Some,
  None,
  IsTrue,
}
use Rattle.std.specs.List.{Contains, count_by}
use mathlib.Core.Option.{some}
use mathlib.Core.Option as maybe
use lib.ListN.{get_elem?}
use Rattle.path_core.specs.declared.note.EntryNote.{EntryNote}
use Rattle.path_core.specs.declared.seat.Range.{Range}
use Rattle.path_core.specs.declared.seat.Seat.{Seat}
use Rattle.path_core.specs.declared.state.Placed.{Placed}
use Rattle.path_core.specs.declared.state.TableState.{TableState}
use Rattle.path_core.specs.LawfulLog.{is_note_at}
use Rattle.path_core.specs.Parts.{fresh_table, seat_table, touches}
use Rattle.path_rule.specs.declared.slot.Slot.{Slot}
use Rattle.path_rule.specs.declared.view.FlushRead.{FlushRead}
use Rattle.path_rule.specs.declared.view.Hands.{Hands}
use Rattle.path_rule.specs.declared.view.Role.{Role}
use Rattle.path_rule.specs.declared.view.Role.TheVariants.{Opener, Steps, Spent}
use Rattle.path_rule.specs.declared.view.View.{View}
use Rattle.path_rule.specs.Boxes.{boxes, all_boxes, memtable_box, NotesAre}

-- A box of seat w is that of the place that its write has at a table.
pub record IsOwnBox (seats w : ℕ) (p : Seat) (b : ℕ) : Type 0 where
  pub table : ℕ
  pub memtable : ℕ
  pub few : table < 16
  pub is : b ≡ memtable_box seats w table memtable
  pub place : (seat_table p table).place ≡ Some memtable

-- A seat reads the box, as the holder of a table's Flush turn.
abbrev pub ReadsBox : Hands → ℕ → Type 0
ReadsBox h b = (q : FlushRead) × (h.reading ≡ Some q) × (q.taken ≡ Some b)

-- It has the box in hand, as its own one or to read it.
abbrev pub HasInHand : Hands → ℕ → Type 0
HasInHand h b = (h.memtable_box ≡ Some b) ⊎ ReadsBox h b

-- no seat has the box in hand
abbrev pub IsHome : List View → ℕ → Type 0
IsHome views b = (j : ℕ) (v : View) → get_elem? views j ≡ some v → ¬ HasInHand v.hands b

-- a note that ends at a key lies among these
abbrev pub LiesAmong : List EntryNote → ℕ → Type 0
LiesAmong notes entry = (n : EntryNote) × Contains notes n × (n.end.0 ≡ entry)

-- The seat put the entry that ends at a key into its box of the table and of this memtable's place.
pub record HasPut (h : Hands) (t m entry : ℕ) : Type 0 where
  pub put : Placed
  pub among : Contains h.applied put
  pub table : put.table ≡ t
  pub ring : put.memtable % 4 ≡ m % 4
  pub ends : put.entry ≡ entry

-- What the seat put into boxes of memtables are notes.
abbrev pub PutNotes : List EntryNote → Hands → Type 0
PutNotes notes h = (a : Placed) → Contains h.applied a → LiesAmong notes a.entry

-- The box of seat z for memtable k was emptied by a seat that reads this: it drops what k holds,
-- which is retired, and has come so far; or it reads the next one, behind that.
abbrev pub IsEmptied : ℕ → FlushRead → ℕ → ℕ → Type 0
IsEmptied seats q z k = ((q.retired ≡ true) × (q.memtable ≡ k) × (z < q.seen_to))
    ⊎ ((q.retired ≡ false) × (q.memtable ≡ suc k) × (z < seats))

-- What seat w knows of its boxes of memtables is so.
pub record PutsAre (contents : ℕ → List EntryNote) (seats w : ℕ) (p : Seat) (h : Hands)
    : Type 0 where
  -- the one that it has in hand is of its place, and holds what it held when it was taken
  pub in_hand : (b : ℕ) → h.memtable_box ≡ Some b → IsOwnBox seats w p b
      × (h.held ≡ contents b)
  -- it has one in hand only while its write is deposited
  pub rests : p.note ≡ None → h.memtable_box ≡ None
  -- what it put is of one of sixteen tables, and that of its running write lies in the box of its
  -- place
  pub tables : (a : Placed) → Contains h.applied a → a.table < 16
  pub applied : (a : Placed) (r : Range) → Contains h.applied a → p.claim ≡ Some r
      → a.entry ≡ r.end
      → LiesAmong (contents (memtable_box seats w a.table a.memtable)) a.entry
  -- what lies there of its running write is what it put
  pub running : (r : Range) (t m : ℕ) → p.claim ≡ Some r → t < 16
      → LiesAmong (contents (memtable_box seats w t m)) r.end → HasPut h t m r.end
  -- and it put that where the write has its place
  pub placed : (a : Placed) (r : Range) → Contains h.applied a → p.claim ≡ Some r
      → a.entry ≡ r.end → (seat_table p a.table).place ≡ Some a.memtable
  -- one that it reads holds what it held when it was taken
  pub reads : (q : FlushRead) (b : ℕ) → h.reading ≡ Some q → q.taken ≡ Some b
      → q.held ≡ contents b
  -- and those that it emptied are empty
  pub emptied : (q : FlushRead) (z k : ℕ) → h.reading ≡ Some q → IsEmptied seats q z k
      → contents (memtable_box seats z q.table k) ≡ []

abbrev pub PutsAs : (ℕ → List EntryNote) → ℕ → Seat → Hands → Role → Type 0
PutsAs contents seats p h (Steps w) = PutsAre contents seats w p h
PutsAs contents seats p h (Opener k) = h.memtable_box ≡ None
PutsAs contents seats p h Spent = h.memtable_box ≡ None

-- A note that lies in a box of seat w and of table t is one of the state, of this writer, and
-- touches the table.
pub record IsOfBox (notes : List EntryNote) (w t : ℕ) (n : EntryNote) : Type 0 where
  pub among : Contains notes n
  pub writer : n.writer.0 ≡ w
  pub touched : IsTrue (touches n.tables t)

-- What was placed lies in a seat's box of this place.
pub record IsPut (contents : ℕ → List EntryNote) (seats : ℕ) (p : Placed) : Type 0 where
  pub by : ℕ
  pub inside : by < seats
  pub lies : LiesAmong (contents (memtable_box seats by p.table p.memtable)) p.entry

-- the memtable of a place is not retired
abbrev pub IsKeptAt : List TableState → Placed → Type 0
IsKeptAt tables p = (get_or tables p.table fresh_table).oldest_live ≤ p.memtable

-- The entry of a position was placed in a memtable of this one's place, which is the last retired
-- one of the table, or not retired.
pub record IsPlacedIn (placed : List Placed) (tables : List TableState) (t m entry : ℕ)
    : Type 0 where
  pub memtable : ℕ
  pub ring : memtable % 4 ≡ m % 4
  pub among : Contains placed (record { table = t; entry = entry; memtable = memtable })
  pub late : (get_or tables t fresh_table).oldest_live ≤ suc memtable

-- Seat w runs the write of an entry.
pub record IsRunning (views : List View) (w entry : ℕ) : Type 0 where
  pub id : ℕ
  pub view : View
  pub range : Range
  pub there : get_elem? views id ≡ some view
  pub role : view.role ≡ Steps w
  pub claim : view.part.claim ≡ Some range
  pub ends : range.end ≡ entry

-- The boxes of memtables, of a state with these notes, places and tables.
pub record HasMemtables {K : Type 0} (seats : ℕ) (notes : List EntryNote) (placed : List Placed)
    (tables : List TableState) (homes : List (maybe.Option (Slot K))) (views : List View)
    : Type 0 where
  -- what is in each of them, at home or in a seat's hand
  pub contents : ℕ → List EntryNote
  -- one that no seat has in hand is at home, with what is in it
  pub at_home : (b : ℕ) → boxes seats ≤ b → b < all_boxes seats → IsHome views b
      → (y : Slot K) × (get_elem? homes b ≡ some (some y)) × NotesAre y (contents b)
  -- a seat knows what is in the one that it has
  pub in_hands : (j : ℕ) (v : View) → get_elem? views j ≡ some v
      → PutsAs contents seats v.part v.hands v.role
  -- what closed writes placed in memtables that are not retired lies in a box of this place
  pub kept : (p : Placed) → Contains placed p → IsKeptAt tables p → IsPut contents seats p
  -- what lies in a box belongs there
  pub sound : (w t m : ℕ) (n : EntryNote) → t < 16
      → Contains (contents (memtable_box seats w t m)) n → IsOfBox notes w t n
  -- it was placed in the memtable that has the place, or is of the seat's running write
  pub settled : (w t m : ℕ) (n : EntryNote) → t < 16
      → Contains (contents (memtable_box seats w t m)) n
      → IsPlacedIn placed tables t m n.end.0 ⊎ IsRunning views w n.end.0
  -- and lies there once
  pub once : (k b : ℕ) → count_by (is_note_at k) (contents b) ≤ 1
  -- it lies in a box that there is
  pub within : (b : ℕ) (n : EntryNote) → Contains (contents b) n → b < all_boxes seats
  -- what a seat put into them are notes, also of writes that are closed
  pub noted : (j : ℕ) (v : View) → get_elem? views j ≡ some v → PutNotes notes v.hands
