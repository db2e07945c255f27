-- What the boxes show of the machine, and what seats know of those that they have. Each note is
-- lasting, on the desk, or in one box, and stands there once.
use Rattle.std.specs.Prelude.{
  ◌≡◌,
  ◌≢◌,
  ℕ,
  suc,
  ◌+◌,
  ◌%◌,
  ◌<◌,
  ◌≤◌,
  Bool,
  true,
  List,
  [],
  length,
  Some,
  is_some,
  IsTrue,
  ◌⊎◌,
}
use Rattle.std.specs.List.{Contains, count_by}
use mathlib.Core.Option.{some}
use mathlib.Core.Option as maybe
use lib.ListN.{get_elem?}
use Rattle.path_core.specs.declared.note.EntryNote.{EntryNote}
use Rattle.path_core.specs.declared.seat.Issue.TheVariants.{Rest}
use Rattle.path_core.specs.declared.seat.Seat.{Seat}
use Rattle.path_core.specs.declared.state.Claim.{Claim}
use Rattle.path_core.specs.declared.state.OrderGroups.{OrderGroups}
use Rattle.path_core.specs.LawfulLog.{claim_in, is_note_at}
use Rattle.path_core.specs.Parts.{issue_of, is_marker, last_kept}
use Rattle.path_rule.specs.declared.lasting.Beside.{Beside}
use Rattle.path_rule.specs.declared.lasting.Lasting.{Lasting}
use Rattle.path_rule.specs.declared.slot.Slot.{Slot}
use Rattle.path_rule.specs.declared.view.Hands.{Hands}
use Rattle.path_rule.specs.declared.view.PathSize.{PathSize}
use Rattle.path_rule.specs.declared.view.Progress.{Progress}
use Rattle.path_rule.specs.declared.view.Role.{Role}
use Rattle.path_rule.specs.declared.view.Role.TheVariants.{Opener, Steps, Spent}
use Rattle.path_rule.specs.declared.view.View.{View}
use Rattle.path_rule.specs.Boxes.{
  box_of,
  boxes,
  IsFree,
  first_progress,
  NotesAre,
  DeskIs,
  Fits,
}
use Rattle.path_rule.specs.Lasts.{ends, none_lasting}

-- While the holder of the Sync turn has a box of another seat, no barrier is under way, the last
-- one is passed, and the box is one of the groups before it.
pub record Gathers (contents : ℕ → List EntryNote) (append : OrderGroups) (seats : ℕ) (p : Seat)
    (h : Hands) (b : ℕ) : Type 0 where
  pub holds : IsTrue (is_some p.sync)
  pub rest : issue_of p ≡ Rest
  pub passed : append.oldest ≡ append.current
  -- it is no box of the current group's parity
  pub parity : suc b % 2 ≢ append.current % 2
  pub above : 0 < b
  pub inside : b < boxes seats
  -- what was in it when it was taken is in it still
  pub taken : h.taken ≡ contents b

-- The holder of the Sync turn has gathered the boxes of this many seats, behind a passed barrier.
pub record Swept (contents : ℕ → List EntryNote) (append : OrderGroups) (p : Seat)
    (h : Hands) : Type 0 where
  pub holds : IsTrue (is_some p.sync)
  pub passed : append.oldest ≡ append.current
  pub empty : (z : ℕ) → z < h.swept → contents (box_of z (suc append.current)) ≡ []

-- What a seat knows of the boxes that it has is so: of its own box, of the desk, of the box of
-- another seat, and of those that it gave back empty.
pub record HandsAre (contents : ℕ → List EntryNote) (lasting : Lasting) (pending : List EntryNote)
    (progress : Progress) (append : OrderGroups) (seats w : ℕ) (p : Seat) (h : Hands) : Type 0 where
  pub own : (g : ℕ) → p.append ≡ Some g → h.notes ≡ contents (box_of w g)
  pub desk : IsTrue (is_some p.sync) → (h.lasting ≡ lasting) × (h.pending ≡ pending)
      × (h.progress ≡ progress)
  pub other : (b : ℕ) → h.box_taken ≡ Some b → Gathers contents append seats p h b
  pub swept : 0 < h.swept → Swept contents append p h

abbrev pub HandsAs : (ℕ → List EntryNote) → Lasting → List EntryNote → Progress → OrderGroups → ℕ
    → Seat → Hands → Role → Type 0
HandsAs contents lasting pending progress append seats p h (Steps w) =
    HandsAre contents lasting pending progress append seats w p h
HandsAs contents lasting pending progress append seats p h (Opener k) = Unit {0}
HandsAs contents lasting pending progress append seats p h Spent = Unit {0}

-- A note in box b was deposited in the group `group`.
pub record Stamped (claims : List Claim) (current : ℕ) (all : Bool) (b group : ℕ)
    (n : EntryNote) : Type 0 where
  -- by the seat whose box it is
  pub own : b ≡ box_of n.writer.0 group
  -- in the current group or the one before, and in the current one once the others are gathered
  pub not_above : group ≤ current
  pub recent : current ≤ suc group
  pub gathered : all ≡ true → group ≡ current
  -- it ends above the markers whose barriers are of earlier groups
  pub above : (i g : ℕ) → i < length claims → IsTrue (is_marker (claim_in claims i))
      → (claim_in claims i).barrier ≡ Some g → g < group → (claim_in claims i).start < n.end.0

-- Each note is lasting, or on the desk, or in a box.
abbrev pub IsSomewhere : List ℕ → List EntryNote → (ℕ → List EntryNote) → EntryNote → Type 0
IsSomewhere lasting pending contents n =
    Contains lasting n.end.0 ⊎ (Contains pending n ⊎ ((b : ℕ) × Contains (contents b) n))

-- on the desk, or in a box
abbrev pub IsKept : List EntryNote → (ℕ → List EntryNote) → EntryNote → Type 0
IsKept pending contents n = Contains pending n ⊎ ((b : ℕ) × Contains (contents b) n)

-- how many of them end at a key
abbrev pub ends_at : ℕ → List EntryNote → ℕ
ends_at k l = count_by (is_note_at k) l

-- The boxes show the notes that are not yet lasting, and the keeper on the desk shows what is.
pub record Boxed {K : Type 0} (shows : K → Lasting) (seats : ℕ) (notes : List EntryNote)
    (lasting : Lasting) (claims : List Claim) (append : OrderGroups)
    (homes : List (maybe.Option (Slot K))) (views : List View) : Type 0 where
  -- what is in each box, at home or in a seat's hands
  pub contents : ℕ → List EntryNote
  -- the group of the append order in which a box was filled last
  pub stamp : ℕ → ℕ
  -- what is pending on the desk, and how far the last barrier of the append order has got
  pub pending : List EntryNote
  pub progress : Progress
  -- the desk tells the last marker
  pub marked : last_kept claims ≡ progress.marker
  -- a further barrier of the append order is issued only where the last one was gathered
  pub near : append.current ≤ suc append.oldest
  pub all : progress.gathered ≡ true → append.oldest ≡ append.current
  -- a box that no seat has is at home, with what is in it
  pub at_home : (b : ℕ) → b < boxes seats → IsFree views b
      → (y : Slot K) × (get_elem? homes b ≡ some (some y))
      × Fits shows contents lasting pending progress b y
  -- a seat knows what is in those that it has
  pub in_hands : (j : ℕ) (v : View) → get_elem? views j ≡ some v
      → HandsAs contents lasting pending progress append seats v.part v.hands v.role
  -- each note is somewhere, and one in a box has its stamp
  pub noted : (n : EntryNote) → Contains notes n → IsSomewhere (ends lasting.logged) pending
      contents n
  pub stamped : (b : ℕ) (n : EntryNote) → Contains (contents b) n
      → Stamped claims append.current progress.gathered b (stamp b) n
  pub within : (b : ℕ) (n : EntryNote) → Contains (contents b) n → b < boxes seats
  -- what is pending or in a box is a note, and stands there alone
  pub sound : (n : EntryNote) → IsKept pending contents n → Contains notes n
  pub alone : (k b c : ℕ) → b ≢ c → ends_at k pending +
      (ends_at k (contents b) + ends_at k (contents c)) ≤ 1
  -- and it is not lasting
  pub unlogged : (n : EntryNote) → IsKept pending contents n → ¬ Contains (ends lasting.logged)
      n.end.0

-- what the boxes of a new table of these sizes hold
pub record AreFirst {K : Type 0} (shows : K → Lasting) (o : Beside) (size : PathSize)
    (xs : List (Slot K)) : Type 0 where
  pub each : (b : ℕ) (y : Slot K) → get_elem? xs b ≡ some y
      → (b ≡ 0 → DeskIs shows y (none_lasting o size) [] first_progress) × (0 < b → NotesAre y [])
