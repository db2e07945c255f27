-- What the steps of each seat tell of it, before and after.
use Rattle.std.specs.Prelude.{◌≡◌, ◌≢◌, ℕ, ◌+◌, ◌*◌, ◌%◌, ◌^◌, ◌≤◌, List, [], ◌∷◌, ◌++◌, length}
use Rattle.std.specs.Prelude.{Some, None}
use Rattle.std.specs.List.{Contains}
use Rattle.atomic_table.specs.Table.{Me, Step, rest}
use Rattle.op_core.specs.CountWords.{number_in}
use Rattle.op_core.specs.declared.count.Order.{Order}
use Rattle.op_core.specs.declared.count.Order.TheVariants.{Write, Append}
use Rattle.path_core.specs.declared.event.Carried.TheVariants.{Nothing, Deposit, Applied}
use Rattle.path_core.specs.declared.event.ClaimKind.TheVariants.{Entry}
use Rattle.path_core.specs.declared.event.Event.{Event}
use Rattle.path_core.specs.declared.event.Event.TheVariants.{Look, Register, Close, Claim}
use Rattle.path_core.specs.declared.event.Place.{Place}
use Rattle.path_core.specs.declared.event.Place.TheVariants.{Count, Log}
use Rattle.path_core.specs.declared.note.EntryNote.{EntryNote}
use Rattle.path_core.specs.declared.state.Placed.{Placed}
use Rattle.path_core.specs.Words.{reading}
use Rattle.path_rule.specs.declared.slot.Slot.{Slot}
use Rattle.path_rule.specs.declared.slot.Slot.TheVariants.{Notes}
use Rattle.path_rule.specs.declared.view.Hands.{Hands}
use Rattle.path_rule.specs.declared.view.Role.TheVariants.{Steps}
use Rattle.path_rule.specs.declared.view.View.{View}
use Rattle.path_rule.specs.Accepted.{places_of}
use Rattle.path_rule.specs.Boxes.{box_of, NotesAre}
use Rattle.path_rule.specs.HandsAfter.{with_notes}
use Rattle.path_rule.specs.Layout.{word_at, IsWord, word_for, seen_at}
use Rattle.path_rule.specs.Turns.{IsKnown, TurnOld}
use Rattle.path_rule.specs.Rule.{view_after, with_hands, Was}

-- the seat w made the step e, at which n was found or stored, and knows h of its boxes then
abbrev pub MadeAs : ℕ → Event → ℕ → Hands → View → View → Type 0
MadeAs w e n h v v' = (v' ≡ view_after (with_hands h v) e n) × Was v w e

module _ {K : Type 0} where
  -- the same where no box moved
  abbrev pub Made : ℕ → Event → ℕ → Me (Slot K) View → Me (Slot K) View → Type 0
  Made w e n m m' = MadeAs w e n m.0.hands m.0 m'.0 × (m'.1 ≡ m.1)

  -- It looked at a place, and found what the machine read there; at the word of a group, at the
  -- group whose number it found, which is the oldest one where the holder of the Sync turn looked
  -- at that one.
  abbrev pub Looked : Step (Slot K) → Me (Slot K) View → ℕ → Me (Slot K) View → Type 0
  Looked st m n m' = (w : ℕ) (at : Place) → m.0.role ≡ Steps w → IsWord at
      → IsKnown m.0.part at → st.word ≡ word_at at
      → Made w (Look w (seen_at at n)) n m m' × ((was : Was m.0 w (Look w (seen_at at n)))
      × (word_for (seen_at at n) (reading was.core (seen_at at n)) ≡ n))
      × ((o : Order) (g : ℕ) → at ≡ Count o g → TurnOld o m.0.part g → number_in n ≡ g)

  -- It is in the group whose number stood in the word that it looked at; or another word was found,
  -- and this was a look at the group whose number stands there.
  abbrev pub Registered : Step (Slot K) → Me (Slot K) View → ℕ → Me (Slot K) View → Type 0
  Registered st m n m' = (w g : ℕ) → m.0.role ≡ Steps w → st.word ≡ 128 + 16 * (g % 32)
      → number_in st.first ≡ g
      → (n ≡ st.first → Made w (Register w Write g) st.second m m')
      × (n ≢ st.first → Made w (Look w (Count Write (number_in n))) n m m')

  -- The box b came, with what the seat knows. In it are not more notes than the log has bytes.
  abbrev pub Took : ℕ → Me (Slot K) View → Me (Slot K) View → Type 0
  Took b m m' = (y : Slot K) × (m'.1 ≡ (b, y) ∷ m.1) × NotesAre y m'.0.hands.notes
      × (length m'.0.hands.notes ≤ 2 ^ 62)

  -- the box b was taken last, with these notes in it
  abbrev pub CarriesNotes : ℕ → List EntryNote → Me (Slot K) View → Type 0
  CarriesNotes b notes m = (y : Slot K) × (m.1 ≡ (b, y) ∷ rest m.1) × NotesAre y notes

  abbrev pub Joined : Step (Slot K) → Me (Slot K) View → ℕ → Me (Slot K) View → Type 0
  Joined st m n m' = (w g : ℕ) → m.0.role ≡ Steps w → st.word ≡ 136 + 16 * (g % 32)
      → number_in st.first ≡ g
      → (n ≡ st.first → ((notes : List EntryNote)
      × MadeAs w (Register w Append g) st.second (with_notes notes m.0.hands) m.0 m'.0)
      × Took (box_of w g) m m')
      × (n ≢ st.first → Made w (Look w (Count Append (number_in n))) n m m')

  -- it left the write order, before a claim
  abbrev pub Stopped : Step (Slot K) → Me (Slot K) View → ℕ → Me (Slot K) View → Type 0
  Stopped st m n m' = (w g : ℕ) → m.0.role ≡ Steps w → m.0.part.write ≡ Some g
      → Made w (Close w Write g Nothing) n m m'

  -- it left that order once its write was accepted at each of its tables
  abbrev pub Finished : Step (Slot K) → Me (Slot K) View → ℕ → Me (Slot K) View → Type 0
  Finished st m n m' = (w g : ℕ) → m.0.role ≡ Steps w → m.0.part.write ≡ Some g
      → Made w (Close w Write g (Applied (places_of m.0.part))) n m m'

  -- it left the append order, before a claim, and its box is at home
  abbrev pub Withdrew : Step (Slot K) → Me (Slot K) View → ℕ → Me (Slot K) View → Type 0
  Withdrew st m n m' = (w g : ℕ) → m.0.role ≡ Steps w → m.0.part.append ≡ Some g
      → MadeAs w (Close w Append g Nothing) n m.0.hands m.0 m'.0 × (m'.1 ≡ rest m.1)

  -- It left the append order, with the note that it had put into its box. It has no box of a
  -- memtable in hand, and put no entry into one that ends where this one does.
  abbrev pub Deposited : Step (Slot K) → Me (Slot K) View → ℕ → Me (Slot K) View → Type 0
  Deposited st m n m' = (w g : ℕ) (note : EntryNote) → m.0.role ≡ Steps w
      → m.0.part.append ≡ Some g
      → m.1 ≡ (box_of w g, Notes (m.0.hands.notes ++ note ∷ [])) ∷ rest m.1
      → MadeAs w (Close w Append g (Deposit note)) n m.0.hands m.0 m'.0 × (m'.1 ≡ rest m.1)
      × (m.0.hands.memtable_box ≡ None)
      × ((a : Placed) → Contains m.0.hands.applied a → a.entry ≢ note.end.0)

  -- the log moved from the first key to the second; or it stood elsewhere, and this was a look
  abbrev pub Claimed : Step (Slot K) → Me (Slot K) View → ℕ → Me (Slot K) View → Type 0
  Claimed st m n m' = (w : ℕ) → m.0.role ≡ Steps w
      → (n ≡ st.first → Made w (Claim w (record { 0 = st.first }) (record { 0 = st.second }) Entry)
      st.second m m') × (n ≢ st.first → Made w (Look w Log) n m m')
