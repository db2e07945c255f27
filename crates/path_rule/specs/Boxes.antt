-- What boxes hold, and what seats know of those that they have.
--
-- Box 0 is the desk of the Sync turn. Behind it each seat has two boxes for the entries that it
-- deposits: one for the even and one for the odd groups of the append order. Behind these each seat
-- has four boxes for each of sixteen tables, for what it put into the table's memtables: one for
-- each place of their ring.
use Rattle.std.specs.Prelude.{
  ◌≡◌,
  ℕ,
  ◌+◌,
  ◌*◌,
  ◌%◌,
  ◌<◌,
  Bool,
  true,
  List,
  ◌++◌,
  Option,
  Some,
  None,
  is_some,
  slice_index,
  IsTrue,
  ◌⊎◌,
}
use mathlib.Core.Option.{some}
use lib.ListN.{get_elem?}
use Rattle.path_core.specs.declared.note.EntryNote.{EntryNote}
use Rattle.path_rule.specs.declared.lasting.Lasting.{Lasting}
use Rattle.path_rule.specs.declared.slot.Slot.{Slot}
use Rattle.path_rule.specs.declared.slot.Slot.TheVariants.{Notes, Turn}
use Rattle.path_rule.specs.declared.view.Progress.{Progress}
use Rattle.path_rule.specs.declared.view.Role.{Role}
use Rattle.path_rule.specs.declared.view.Role.TheVariants.{Opener, Steps, Spent}
use Rattle.path_rule.specs.declared.view.View.{View}
use Rattle.path_rule.specs.Filing.{upper_of}

abbrev pub desk_box : ℕ
desk_box = 0

-- the box of a seat for a group's parity
abbrev pub box_of : ℕ → ℕ → ℕ
box_of w g = 1 + 2 * w + g % 2

-- how many of these boxes there are, the desk among them
abbrev pub boxes : ℕ → ℕ
boxes seats = 1 + 2 * seats

-- the box of a seat for a table and a memtable's place
abbrev pub memtable_box : ℕ → ℕ → ℕ → ℕ → ℕ
memtable_box seats w t m = 1 + 2 * seats + 64 * w + 4 * t + m % 4

-- how many boxes there are in all
abbrev pub all_boxes : ℕ → ℕ
all_boxes seats = 1 + 66 * seats

-- Which boxes a seat has is told by its view: its own one while it is in a group of the append
-- order, the desk while it holds the Sync turn, and the one of another seat that it took.

abbrev pub HasOwn : ℕ → Option ℕ → ℕ → Type 0
HasOwn w None b = ⊥
HasOwn w (Some g) b = b ≡ box_of w g

abbrev pub HasDesk : Bool → ℕ → Type 0
HasDesk held b = IsTrue held × (b ≡ desk_box)

abbrev pub HoldsIn : ℕ → Option ℕ → Bool → Option ℕ → ℕ → Type 0
HoldsIn w append held taken b = HasOwn w append b ⊎ (HasDesk held b ⊎ (taken ≡ Some b))

abbrev pub HoldsAs : Option ℕ → Bool → Option ℕ → ℕ → Role → Type 0
HoldsAs append held taken b (Steps w) = HoldsIn w append held taken b
HoldsAs append held taken b (Opener k) = ⊥
HoldsAs append held taken b Spent = ⊥

abbrev pub HoldsBox : View → ℕ → Type 0
HoldsBox v b = HoldsAs v.part.append (is_some v.part.sync) v.hands.box_taken b v.role

-- no seat has the box
abbrev pub IsFree : List View → ℕ → Type 0
IsFree views b = (j : ℕ) (v : View) → get_elem? views j ≡ some v → ¬ HoldsBox v b

-- on the desk of a new table
abbrev pub first_progress : Progress
first_progress = record { gathered = true; marker = None }

-- What a box holds.

module _ {K : Type 0} where
  -- these notes
  abbrev pub NotesAre : Slot K → List EntryNote → Type 0
  NotesAre (Notes kept) notes = kept ≡ notes
  NotesAre (Turn desk) notes = ⊥

module _ {K : Type 0} (shows : K → Lasting) where
  -- a keeper that shows this, these pending notes, and this progress; the desk tells where each
  -- table's files end
  abbrev pub DeskIs : Slot K → Lasting → List EntryNote → Progress → Type 0
  DeskIs (Notes kept) lasting pending progress = ⊥
  DeskIs (Turn desk) lasting pending progress =
      (shows desk.keeper ≡ lasting) × (desk.lent.items ++ desk.gathered ≡ pending)
      × (desk.progress ≡ progress)
      × ((t : ℕ) → t < 16 → slice_index desk.uppers t ≡ upper_of t lasting.filed.files)

  -- what is in box b, where it is at home
  pub record Fits (contents : ℕ → List EntryNote) (lasting : Lasting) (pending : List EntryNote)
      (progress : Progress) (b : ℕ) (y : Slot K) : Type 0 where
    pub desk : b ≡ desk_box → DeskIs y lasting pending progress
    pub notes : 0 < b → NotesAre y (contents b)
