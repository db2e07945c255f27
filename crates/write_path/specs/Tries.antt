-- What a try to join a group says of a seat before and after.
use Rattle.std.specs.Prelude.{◌≡◌, ℕ, ◌+◌, List, length}
use Rattle.op_core.specs.declared.count.Order.{Order}
use Rattle.op_core.specs.declared.count.Order.TheVariants.{Append}
use Rattle.path_core.specs.declared.event.Event.TheVariants.{Register}
use Rattle.path_core.specs.declared.event.Place.TheVariants.{Count}
use Rattle.path_core.specs.declared.note.EntryNote.{EntryNote}
use Rattle.path_rule.specs.declared.view.View.{View}
use Rattle.path_rule.specs.Calls.{DidAs, Refused, FoundSince, acts, looked_twice}
use Rattle.path_rule.specs.HandsAfter.{with_notes}

-- Seat w looked at the current group g of the append order and at its count, and joined it where
-- that count stood. Its box for the group's parity came with these notes.
pub record Joined (v : View) (w g : ℕ) (after : View) : Type 0 where
  pub looked : ℕ
  pub notes : List EntryNote
  pub did : DidAs (looked_twice v w Append g looked) w (Register w Append g) (looked + 1)
      (with_notes notes v.hands) after

-- Seat w only looked: it found the word `looked`, which is expired or of another group, or then the
-- word `found`, which is another; and what it says it found in this call.
pub record OnlyLooked (o : Order) (v : View) (w looked found : ℕ) (after : View) : Type 0 where
  pub refused : Refused v w o looked found after
  pub acts_stay : acts after.trail ≡ acts v.trail
  pub group : ℕ
  pub found_now : FoundSince (length v.trail) (Count o group) found after.trail
