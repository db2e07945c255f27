-- Writes that a marker of the log stands behind, before their seat's next one.
use Rattle.std.specs.Prelude.{◌≡◌, ◌⊎◌, ℕ, ◌≤◌, List, ◌∷◌, ◌++◌, map}
use Rattle.std.specs.List.{Contains}
use Rattle.path_core.specs.declared.event.Cursor.TheVariants.{Synced}
use Rattle.path_core.specs.declared.event.Place.{Place}
use Rattle.path_core.specs.declared.event.Place.TheVariants.{CursorWord}
use Rattle.path_core.specs.declared.note.EntryNote.{EntryNote}
use Rattle.path_core.specs.Keys.{after}
use Rattle.path_rule.specs.declared.view.OwnStep.{OwnStep}
use Rattle.path_rule.specs.Finds.{FindsBy}
use Rattle.path_rule.specs.Rule.{event_of}
use Rattle.path_flush.specs.OwnWrites.{writes_of}
use Rattle.write_path.specs.Ends.{IsLast}

-- While write n was the seat's last, and the seat had claimed nothing since, it found a number at a
-- place, or put it there.
pub record FoundWhileLast (n : EntryNote) (at : Place) (value : ℕ) (trail : List OwnStep) :
    Type 0 where
  -- the step, and those before and after it
  pub later : List OwnStep
  pub step : OwnStep
  pub before : List OwnStep
  pub cut : trail ≡ later ++ step ∷ before
  -- before it the write was the last, and nothing was claimed since
  pub last : IsLast n (map event_of before)
  -- it found the number there, or put it
  pub found : FindsBy at value step.event step.found

-- Write n is sealed: while it was the seat's last, the seat found, or put, a synced key at or above
-- its end.
abbrev pub IsSealed : EntryNote → List OwnStep → Type 0
IsSealed n trail = (key : ℕ) × (n.end.0 ≤ key) × FoundWhileLast n (CursorWord Synced) key trail

-- At or above a key lies a synced one, and no entry has a byte of the marker there.
pub record HasMarkBehind (capacity : ℕ) (history : List EntryNote) (synced from : ℕ) : Type 0 where
  pub key : ℕ
  pub behind : from ≤ key
  -- the log is lasting up to it
  pub lasting : key ≤ synced
  -- each entry ends at or below it, or starts where the log goes on behind it or above
  pub bare : (n : EntryNote) → Contains history n
      → (n.end.0 ≤ key) ⊎ (after capacity key ≤ n.start.0)

-- So between two keys: the log goes on behind that marker at or below the other.
pub record HasMarkBetween (capacity : ℕ) (history : List EntryNote) (synced from to : ℕ) :
    Type 0 where
  pub mark : HasMarkBehind capacity history synced from
  pub before : after capacity mark.key ≤ to

-- There is such a key behind each sealed write of a trail, its last one too.
abbrev pub AreSealed : ℕ → List EntryNote → ℕ → List OwnStep → Type 0
AreSealed capacity history synced trail = (n : EntryNote) → IsSealed n trail
    → HasMarkBehind capacity history synced n.end.0

-- There is such a key behind each sealed write of a trail, in front of each later one.
abbrev pub AreSealedApart : ℕ → List EntryNote → ℕ → List OwnStep → Type 0
AreSealedApart capacity history synced trail = (n m : EntryNote) → IsSealed n trail
    → Contains (writes_of trail) m → n.end.0 ≤ m.start.0
    → HasMarkBetween capacity history synced n.end.0 m.start.0
