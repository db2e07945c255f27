-- Where an entry lies that a closed write placed in a memtable, and what lies there.
use Rattle.std.specs.Prelude.{◌≡◌, ◌⊎◌, ℕ, suc, ◌≤◌, List, Some, IsTrue}
use Rattle.std.specs.List.{Contains}
use mathlib.Core.Option.{some}
use lib.ListN.{get_elem?}
use Rattle.atomic_table.specs.Table.{State}
use Rattle.path_core.specs.declared.note.EntryNote.{EntryNote}
use Rattle.path_core.specs.declared.seat.Range.{Range}
use Rattle.path_core.specs.declared.state.PathState.{PathState}
use Rattle.path_core.specs.declared.state.Placed.{Placed}
use Rattle.path_core.specs.Parts.{seat_of, seat_table, table_of, touches}
use Rattle.path_rule.specs.declared.slot.Slot.{Slot}
use Rattle.path_rule.specs.declared.view.FlushRead.{FlushRead}
use Rattle.path_rule.specs.declared.view.Hands.{Hands}
use Rattle.path_rule.specs.declared.view.View.{View}
use Rattle.path_rule.specs.Boxes.{memtable_box, NotesAre}
use Rattle.path_rule.specs.Memtables.{IsOfBox}

-- the box is at home, and the note lies in it
abbrev pub LiesAtHome : {K : Type 0} → State (Slot K) View → ℕ → EntryNote → Type 0
LiesAtHome {K} s b n = (y : Slot K) × (notes : List EntryNote)
    × (get_elem? s.homes b ≡ some (some y)) × NotesAre y notes × Contains notes n

-- the seat reads the box, and the note lay in it when it was taken
abbrev pub ReadsNote : Hands → ℕ → EntryNote → Type 0
ReadsNote h b n = (q : FlushRead) × (h.reading ≡ Some q) × (q.taken ≡ Some b) × Contains q.held n

-- a seat has the box in hand, and the note lay in it when it was taken
abbrev pub LiesInHand : {K : Type 0} → State (Slot K) View → ℕ → EntryNote → Type 0
LiesInHand s b n = (j : ℕ) × (v : View) × (get_elem? s.views j ≡ some v)
    × (((v.hands.memtable_box ≡ Some b) × Contains v.hands.held n) ⊎ ReadsNote v.hands b n)

-- The entry that was placed is a note that touches the table, and lies in its writer's box of the
-- table and of the memtable's place.
pub record LiesInItsBox {K : Type 0} (seats : ℕ) (notes : List EntryNote) (s : State (Slot K) View)
    (p : Placed) : Type 0 where
  pub note : EntryNote
  pub among : Contains notes note
  pub position : note.end.0 ≡ p.entry
  pub touched : IsTrue (touches note.tables p.table)
  pub lies : LiesAtHome s (memtable_box seats note.writer.0 p.table p.memtable) note
      ⊎ LiesInHand s (memtable_box seats note.writer.0 p.table p.memtable) note

-- A memtable whose place no other has now: it is made, and is the last retired one of the table, or
-- not retired.
abbrev pub HasItsPlace : PathState → ℕ → ℕ → Type 0
HasItsPlace x t m = (m ≤ (table_of x t).newest) × ((table_of x t).oldest_live ≤ suc m)

-- Seat w runs the write of an entry, which has its place at the table in this memtable.
pub record HasPlaceNow (x : PathState) (w t m entry : ℕ) : Type 0 where
  pub range : Range
  pub claim : (seat_of x w).claim ≡ Some range
  pub ends : range.end ≡ entry
  pub place : (seat_table (seat_of x w) t).place ≡ Some m

-- A note of seat w that touches the table was placed there in this memtable, or the seat runs its
-- write, which has its place in it.
pub record BelongsThere (x : PathState) (w t m : ℕ) (n : EntryNote) : Type 0 where
  pub of : IsOfBox x.notes w t n
  pub put : Contains x.placed (record { table = t; entry = n.end.0; memtable = m })
      ⊎ HasPlaceNow x w t m n.end.0
