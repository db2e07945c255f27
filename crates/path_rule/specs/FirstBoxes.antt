-- The boxes of a new table.
use Rattle.std.specs.Prelude.{◌≡◌, ℕ, List, []}
use mathlib.Core.Option.{some}
use lib.ListN.{get_elem?}
use Rattle.path_rule.specs.declared.slot.Desk.{Desk}
use Rattle.path_rule.specs.declared.slot.Slot.{Slot}
use Rattle.path_rule.specs.declared.slot.Slot.TheVariants.{Turn}
use Rattle.path_rule.specs.Boxes.{NotesAre}

module _ {K : Type 0} where
  -- each box holds no note
  abbrev pub AreEmpty : List (Slot K) → Type 0
  AreEmpty xs = (b : ℕ) (y : Slot K) → get_elem? xs b ≡ some y → NotesAre y []

  -- the keeper lies on the desk in front
  pub record HasInFront (keeper : K) (xs : List (Slot K)) : Type 0 where
    pub desk : Desk K
    pub lies : desk.keeper ≡ keeper
    pub front : get_elem? xs 0 ≡ some (Turn desk)
