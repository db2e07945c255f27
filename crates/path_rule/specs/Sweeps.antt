-- What gathering tells: the boxes of all seats, one by one, behind a passed barrier.
use Rattle.std.specs.Prelude.{◌≡◌, ℕ, suc, ◌++◌, Bool, true, false, List, Some}
use Rattle.path_core.specs.declared.note.EntryNote.{EntryNote}
use Rattle.path_rule.specs.declared.view.Hands.{Hands}
use Rattle.path_rule.specs.Boxes.{box_of}
use Rattle.path_rule.specs.HandsAfter.{with_taken, with_swept}

-- The next box of the groups before the current one was gathered: what was in it is pending.
pub record SweptOne (seats current : ℕ) (h after : Hands) : Type 0 where
  pub taken : List EntryNote
  pub hands : after ≡ with_swept seats (with_taken (Some (box_of h.swept (suc current))) taken h)

-- whether it was
abbrev pub SweepsOne : ℕ → ℕ → Hands → Bool → Hands → Type 0
SweepsOne seats current h true after = SweptOne seats current h after
SweepsOne seats current h false after = after ≡ h

-- All boxes were gathered: what was in them is pending, behind what was. Nothing else changed on
-- the desk.
pub record SweptAll (h after : Hands) : Type 0 where
  pub more : List EntryNote
  pub pending : after.pending ≡ h.pending ++ more
  pub lasting : after.lasting ≡ h.lasting
  pub marker : after.progress.marker ≡ h.progress.marker
  pub gathered : after.progress.gathered ≡ true
