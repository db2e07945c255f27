-- What the steps on the words of a table tell of their seat, before and after.
use Rattle.std.specs.Prelude.{◌≡◌, ◌≢◌, ℕ, suc, ◌+◌, ◌*◌, ◌%◌, ◌^◌, ◌<◌}
use Rattle.atomic_table.specs.Table.{Me, Step}
use Rattle.clog_base.specs.declared.cell.Table.{Table}
use Rattle.path_core.specs.declared.event.Event.TheVariants.{Finalise, GiveTurn, Look, Raise}
use Rattle.path_core.specs.declared.event.Event.TheVariants.{Switch, TakeTurn}
use Rattle.path_core.specs.declared.event.Place.TheVariants.{Bound, TurnWord}
use Rattle.path_core.specs.declared.event.SwitchPart.TheVariants.{Clear, Mark, Open}
use Rattle.path_core.specs.declared.event.Turn.TheVariants.{Flush}
use Rattle.path_core.specs.Words.{reading}
use Rattle.path_rule.specs.declared.slot.Slot.{Slot}
use Rattle.path_rule.specs.declared.view.Role.TheVariants.{Steps}
use Rattle.path_rule.specs.declared.view.View.{View}
use Rattle.path_rule.specs.Layout.{word_of}
use Rattle.path_rule.specs.Reads.{ReadsHeld}
use Rattle.path_rule.specs.Rule.{Was}
use Rattle.path_rule.specs.Switches.{FlushNewest}
use Rattle.path_rule.specs.Told.{Made}
use Rattle.path_rule.specs.Turns.{KnowsNear}

module _ {K : Type 0} where
  -- The seat has the table's Flush turn, and read none but of turns that it had; or another had it,
  -- and this was a look.
  abbrev pub FlushTaken : Step (Slot K) → Me (Slot K) View → ℕ → Me (Slot K) View → Type 0
  FlushTaken st m n m' = (w : ℕ) (t : Table) → m.0.role ≡ Steps w → t.0 < 16
      → st.word ≡ 65 + 4 * t.0
      → (n ≡ 0 → Made w (TakeTurn w (Flush t)) 1 m m' × ReadsHeld m.0)
      × (n ≢ 0 → Made w (Look w (TurnWord (Flush t))) n m m' × (n ≡ 1))

  -- it gave that turn back
  abbrev pub FlushGiven : Step (Slot K) → Me (Slot K) View → ℕ → Me (Slot K) View → Type 0
  FlushGiven st m n m' = (w : ℕ) (t : Table) → m.0.role ≡ Steps w → t.0 < 16
      → st.word ≡ 65 + 4 * t.0 → Made w (GiveTurn w (Flush t)) n m m'

  -- the bound of a memtable, at which this was found, was raised to the key, unless it was final
  abbrev pub BoundRaised : Step (Slot K) → Me (Slot K) View → ℕ → Me (Slot K) View → Type 0
  BoundRaised st m n m' = (w f to : ℕ) (t : Table) → m.0.role ≡ Steps w → t.0 < 16
      → KnowsNear m.0.part t.0 f
      → st.word ≡ 640 + 16 * (f % 4) + t.0 → st.first ≡ to + 2 ^ 62
      → Made w (Raise w t f (record { 0 = to })) n m m'
      × ((was : Was m.0 w (Raise w t f (record { 0 = to })))
      × (word_of (reading was.core (Bound t f)) ≡ n))

  -- the place of the next memtable of a table was cleared
  abbrev pub PlaceCleared : Step (Slot K) → Me (Slot K) View → ℕ → Me (Slot K) View → Type 0
  PlaceCleared st m n m' = (w f k : ℕ) (t : Table) → m.0.role ≡ Steps w → t.0 < 16
      → FlushNewest t.0 m.0.part k → f ≡ suc k
      → st.word ≡ 640 + 16 * (f % 4) + t.0 → Made w (Switch w t f Clear) n m m'

  -- the next memtable of a table was made
  abbrev pub MemtableOpened : Step (Slot K) → Me (Slot K) View → ℕ → Me (Slot K) View → Type 0
  MemtableOpened st m n m' = (w : ℕ) (t : Table) → m.0.role ≡ Steps w → t.0 < 16
      → st.word ≡ 64 + 4 * t.0 → Made w (Switch w t n Open) n m m'

  -- the one below it was marked
  abbrev pub MemtableMarked : Step (Slot K) → Me (Slot K) View → ℕ → Me (Slot K) View → Type 0
  MemtableMarked st m n m' = (w f : ℕ) (t : Table) → m.0.role ≡ Steps w → t.0 < 16
      → KnowsNear m.0.part t.0 f
      → st.word ≡ 640 + 16 * (f % 4) + t.0 → Made w (Switch w t f Mark) n m m'

  -- a marked one, at whose bound this was found, was made final
  abbrev pub MemtableFinal : Step (Slot K) → Me (Slot K) View → ℕ → Me (Slot K) View → Type 0
  MemtableFinal st m n m' = (w f : ℕ) (t : Table) → m.0.role ≡ Steps w → t.0 < 16
      → KnowsNear m.0.part t.0 f
      → st.word ≡ 640 + 16 * (f % 4) + t.0
      → Made w (Finalise w t f) n m m'
      × ((was : Was m.0 w (Finalise w t f)) × (word_of (reading was.core (Bound t f)) ≡ n))
