-- The box that an appending seat has.
use Rattle.std.proofs.Common.{◌≡◌, ℕ, ◌+◌, ◌*◌, ◌%◌, List, [], ◌∷◌, ◌++◌, refl, sym, ap, ◌∙◌}
use Rattle.atomic_table.specs.Table.{Me, rest}
use Rattle.path_core.specs.declared.note.EntryNote.{EntryNote}
use Rattle.path_rule.specs.declared.slot.Slot.{Slot}
use Rattle.path_rule.specs.declared.slot.Slot.TheVariants.{Notes, Turn}
use Rattle.path_rule.specs.declared.view.View.{View}
use Rattle.path_rule.specs.Boxes.{box_of, NotesAre}
use Rattle.path_rule.specs.Told.{CarriesNotes, Took}
use Rattle.path_table.specs.declared.table.Member.{Member}
use Rattle.path_table.specs.Members.{HasDeposit}

module _ {K : Type 0} where
  -- a seat whose only box is this one carries the notes in it
  pub carries_notes : (b : ℕ) (m : Me (Slot K) View) → m.1 ≡ (b, Notes m.0.hands.notes) ∷ []
      → CarriesNotes b m.0.hands.notes m
  carries_notes b m only = (
    Notes m.0.hands.notes,
    only ∙ ap (λ (l : List (ℕ × Slot K)). (b, Notes m.0.hands.notes) ∷ rest l) (sym only),
    refl,
  )

  -- a box that a seat without boxes took is its only one
  took_as : (b : ℕ) (notes : List EntryNote) (boxes : List (ℕ × Slot K)) (y : Slot K)
      → boxes ≡ (b, y) ∷ [] → NotesAre y notes
      → boxes ≡ (b, Notes notes) ∷ []
  took_as b notes boxes (Notes kept) is same =
      is ∙ ap (λ (l : List EntryNote). (b, Notes l) ∷ []) same
  took_as b notes boxes (Turn desk) is same = absurd same

  pub only_box : (b : ℕ) (m m' : Me (Slot K) View) → m.1 ≡ [] → Took b m m'
      → m'.1 ≡ (b, Notes m'.0.hands.notes) ∷ []
  only_box b m m' bare took = took_as b m'.0.hands.notes m'.1 took.0
      (took.1 ∙ ap (λ (l : List (ℕ × Slot K)). (b, took.0) ∷ l) bare) took.2

  -- The notes that were put are this one: it lies there behind those that the box held.
  pub has_deposit : {from : ℕ} {more : List EntryNote} {note : EntryNote}
      → (group : ℕ) (member put : Member K) → from ≡ member.number → put.number ≡ member.number
      → put.seat.me.0 ≡ member.seat.me.0
      → put.seat.me.1 ≡ (1 + 2 * from + group % 2, Notes (member.seat.me.0.hands.notes ++ more))
      ∷ rest member.seat.me.1
      → more ≡ note ∷ [] → HasDeposit put group note
  has_deposit group member put by same view kept one = kept ∙ (λ i. (
    box_of ((by ∙ sym same) i) group,
    Notes ((sym view i).hands.notes ++ one i),
  ) ∷ sym (ap (λ (l : List (ℕ × Slot K)). rest l) kept) i)
