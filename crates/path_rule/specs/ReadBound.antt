-- What a look at the bound of a memtable that is read tells.
use Rattle.std.specs.Prelude.{◌≡◌, ℕ, ◌+◌, ◌*◌, ◌%◌, ◌<◌, Some}
use Rattle.atomic_table.specs.Table.{Me, Step}
use Rattle.clog_base.specs.declared.cell.Table.{Table}
use Rattle.path_core.specs.declared.event.Event.TheVariants.{Look}
use Rattle.path_core.specs.declared.event.Place.TheVariants.{Bound}
use Rattle.path_core.specs.declared.state.Bound.TheVariants.{Final}
use Rattle.path_rule.specs.declared.slot.Slot.{Slot}
use Rattle.path_rule.specs.declared.view.FlushRead.{FlushRead}
use Rattle.path_rule.specs.declared.view.Role.TheVariants.{Steps}
use Rattle.path_rule.specs.declared.view.View.{View}
use Rattle.path_rule.specs.Layout.{bound_word}
use Rattle.path_rule.specs.Told.{Made}

-- it was found final
abbrev pub BoundRead : {K : Type 0} → Step (Slot K) → Me (Slot K) View → ℕ → Me (Slot K) View
    → Type 0
BoundRead st m n m' = (w k : ℕ) (t : Table) → m.0.role ≡ Steps w → t.0 < 16
    → (q : FlushRead) → m.0.hands.reading ≡ Some q → q.table ≡ t.0 → q.memtable ≡ k
    → st.word ≡ 640 + 16 * (k % 4) + t.0
    → (bound : ℕ) × (n ≡ bound_word (Final (record { 0 = bound })))
    × Made w (Look w (Bound t k)) n m m'
