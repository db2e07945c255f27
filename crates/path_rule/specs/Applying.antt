-- A write that has deposited its entry puts it into its boxes of memtables.
use Rattle.std.specs.Prelude.{
  ◌≡◌,
  ◌≢◌,
  ◌⊎◌,
  ℕ,
  ◌+◌,
  ◌*◌,
  ◌^◌,
  ◌<◌,
  ◌≤◌,
  List,
  [],
  ◌∷◌,
  ◌++◌,
  length,
  Some,
  IsTrue,
  None,
}
use Rattle.std.specs.List.{Contains}
use Rattle.atomic_table.specs.Table.{Me, Step, rest}
use Rattle.clog_base.specs.declared.cell.Table.{Table}
use Rattle.path_core.specs.declared.event.Carried.TheVariants.{Deposit}
use Rattle.path_core.specs.declared.event.Event.{Event}
use Rattle.path_core.specs.declared.event.Event.TheVariants.{Close, Look}
use Rattle.path_core.specs.declared.event.Place.TheVariants.{Newest}
use Rattle.path_core.specs.declared.note.EntryNote.{EntryNote}
use Rattle.path_core.specs.declared.seat.Range.{Range}
use Rattle.path_core.specs.declared.seat.Seat.{Seat}
use Rattle.path_core.specs.declared.state.Placed.{Placed}
use Rattle.path_core.specs.Parts.{seat_table, touches}
use Rattle.path_rule.specs.declared.slot.Slot.{Slot}
use Rattle.path_rule.specs.declared.slot.Slot.TheVariants.{Notes}
use Rattle.path_rule.specs.declared.view.Hands.{Hands}
use Rattle.path_rule.specs.declared.view.OwnStep.{OwnStep}
use Rattle.path_rule.specs.declared.view.Role.TheVariants.{Steps}
use Rattle.path_rule.specs.declared.view.View.{View}
use Rattle.path_rule.specs.Accepted.{tables_noted}
use Rattle.path_rule.specs.Boxes.{memtable_box, NotesAre}
use Rattle.path_rule.specs.HandsAfter.{with_held, with_applied}
use Rattle.path_rule.specs.Told.{MadeAs}

-- One of these steps deposited the note.

abbrev pub DepositsBy : EntryNote → Event → Type 0
DepositsBy n (Close by order group (Deposit note)) = note ≡ n
DepositsBy n _ = ⊥

abbrev pub HasDeposited : EntryNote → List OwnStep → Type 0
HasDeposited n [] = ⊥
HasDeposited n (t ∷ ts) = DepositsBy n t.event ⊎ HasDeposited n ts

-- The running write of seat w has deposited this note, and put it into no box of the table yet.
pub record MayApply (v : View) (w t : ℕ) (note : EntryNote) : Type 0 where
  pub deposited : HasDeposited note v.trail
  pub range : v.part.claim ≡ Some (record { start = note.start.0; end = note.end.0 })
  pub tables : v.part.note ≡ Some note.tables
  pub writer : note.writer.0 ≡ w
  pub fresh : (a : Placed) → Contains v.hands.applied a → a.entry ≡ note.end.0 → a.table ≢ t

-- a look of seat w at the newest memtable of a table, which found n
abbrev pub looked : ℕ → Table → ℕ → OwnStep
looked w t n = record { event = Look w (Newest t); found = n; filed = None }

-- what the seat has put then
abbrev pub put_there : Table → ℕ → EntryNote → Placed
put_there t m note = record { table = t.0; entry = note.end.0; memtable = m }

-- Seat w put the note into its box of the table and of this memtable's place, which it took and
-- gave back at two looks at the table's newest memtable. Else all is as it was.
pub record PutsNote (v : View) (w : ℕ) (t : Table) (m : ℕ) (note : EntryNote)
    (after : View) : Type 0 where
  pub first : ℕ
  pub last : ℕ
  pub trail : after.trail ≡ looked w t last ∷ looked w t first ∷ v.trail
  pub part : after.part ≡ v.part
  pub hands : after.hands ≡ with_applied (put_there t m note) v.hands
  pub role : after.role ≡ v.role
  pub returned : after.returned ≡ v.returned
  pub size : after.size ≡ v.size

-- The seat put its entry into the box of each of its places.
pub record AreApplied (s : Seat) (h : Hands) : Type 0 where
  pub range : Range
  pub claimed : s.claim ≡ Some range
  pub each : (t : ℕ) → IsTrue (touches (tables_noted s) t)
      → (m : ℕ) × ((seat_table s t).place ≡ Some m)
      × Contains h.applied (record { table = t; entry = range.end; memtable = m })

module _ {K : Type 0} where
  -- The box came, with what the seat knows. In it are not more notes than the log has bytes.
  abbrev pub TookHeld : ℕ → Me (Slot K) View → Me (Slot K) View → Type 0
  TookHeld b m m' = (y : Slot K) × (m'.1 ≡ (b, y) ∷ m.1) × NotesAre y m'.0.hands.held
      × (length m'.0.hands.held ≤ 2 ^ 62)

  -- At a look at the newest memtable of a table the seat's box of its place there came.
  abbrev pub MemtableTaken : Step (Slot K) → Me (Slot K) View → ℕ → Me (Slot K) View → Type 0
  MemtableTaken st m n m' = (w k : ℕ) (t : Table) → m.0.role ≡ Steps w → t.0 < 16
      → st.word ≡ 64 + 4 * t.0 → (seat_table m.0.part t.0).place ≡ Some k
      → ((held : List EntryNote) × MadeAs w (Look w (Newest t)) n
      (with_held (memtable_box m.0.size.seats w t.0 k) held m.0.hands) m.0 m'.0)
      × TookHeld (memtable_box m.0.size.seats w t.0 k) m m'

  -- at such a look it went home, with the note that the seat had put into it
  abbrev pub MemtableGiven : Step (Slot K) → Me (Slot K) View → ℕ → Me (Slot K) View → Type 0
  MemtableGiven st m n m' = (w k : ℕ) (t : Table) (note : EntryNote) → m.0.role ≡ Steps w
      → t.0 < 16 → st.word ≡ 64 + 4 * t.0 → (seat_table m.0.part t.0).place ≡ Some k
      → m.1 ≡ (memtable_box m.0.size.seats w t.0 k, Notes (m.0.hands.held ++ note ∷ []))
      ∷ rest m.1
      → MadeAs w (Look w (Newest t)) n (with_applied (put_there t k note) m.0.hands) m.0 m'.0
      × (m'.1 ≡ rest m.1)
