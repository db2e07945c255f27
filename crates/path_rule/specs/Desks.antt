-- The desk among the boxes that the holder of the Sync turn has in hand.
use Rattle.std.specs.Prelude.{◌≡◌, ℕ, List, [], ◌∷◌, ◌++◌}
use Rattle.atomic_table.specs.Table.{Me}
use Rattle.path_core.specs.declared.note.EntryNote.{EntryNote}
use Rattle.path_rule.specs.declared.lasting.Lasting.{Lasting}
use Rattle.path_rule.specs.declared.slot.Desk.{Desk}
use Rattle.path_rule.specs.declared.slot.Slot.{Slot}
use Rattle.path_rule.specs.declared.slot.Slot.TheVariants.{Notes}
use Rattle.path_rule.specs.declared.view.Progress.{Progress}
use Rattle.path_rule.specs.declared.view.View.{View}
use Rattle.path_rule.specs.Boxes.{desk_box, DeskIs}

-- the notes on a desk
abbrev pub pending_on : {K : Type 0} → Desk K → List EntryNote
pending_on desk = desk.lent.items ++ desk.gathered

module _ {K : Type 0} (shows : K → Lasting) where
  -- the desk is the only box, with this on it
  abbrev pub HasDesk : Lasting → List EntryNote → Progress → List (ℕ × Slot K) → Type 0
  HasDesk lasting pending progress boxes =
      (y : Slot K) × (boxes ≡ (desk_box, y) ∷ []) × DeskIs shows y lasting pending progress

  -- A gathered box was taken last, with what the seat knows in it, and the desk before it.
  abbrev pub HasDeskBehind : ℕ → Me (Slot K) View → Type 0
  HasDeskBehind b m = (y : Slot K)
      × (m.1 ≡ (b, Notes m.0.hands.taken) ∷ (desk_box, y) ∷ [])
      × DeskIs shows y m.0.hands.lasting m.0.hands.pending m.0.hands.progress
