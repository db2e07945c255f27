-- What a log's calls add to the changes of its disk: appends that bring its sections, and nothing
-- else.
use Rattle.std.specs.Prelude.{
  ◌≡◌,
  ◌⊎◌,
  ℕ,
  ◌<◌,
  ◌≤◌,
  true,
  List,
  [],
  ◌∷◌,
  ◌++◌,
  length,
  Option,
  option_map,
  ⊤,
}
use Rattle.std.specs.List.{AllPairs, Contains}
use Rattle.clog_spec.specs.Names.{segment_name_of}
use Rattle.clog_disk.specs.declared.change.Change.{Change}
use Rattle.clog_disk.specs.declared.change.Change.TheVariants as change
use Rattle.clog_scan.specs.Cut.{Section}
use Rattle.clog_crash.specs.Grown.{Append, appends_of, grown}
use Rattle.clog_crash.specs.Log.{Write}
use Rattle.clog_crash.specs.Sections.{segment_bytes}
use Rattle.clog_segments.specs.Life.{State}

-- earlier segments, and the one with these sections
abbrev pub segments_with : List Write → ℕ → List Section → List Write
segments_with past id sections = past ++ record { id = id; sections = sections } ∷ []

-- the change appends bytes
abbrev pub IsAppend : Change → Type 0
IsAppend (change.Append name bytes) = ⊤
IsAppend other = ⊥

-- each of these changes appends bytes
abbrev pub AreAppends : List Change → Type 0
AreAppends added = (c : Change) → Contains added c → IsAppend c

-- each section of these segments has an entry
abbrev pub AreFilled : List Write → Type 0
AreFilled segments = (w : Write) → Contains segments w → (s : Section) → Contains w.sections s
    → 0 < length s.payloads

-- one segment before another
abbrev pub IsLower : Write → Write → Type 0
IsLower a b = a.id < b.id

-- The appends have brought just the bytes of these segments, and none to another name. Each section
-- has an entry, and the segments stand in the order of their ids: the earlier ones, and behind them
-- the one at hand.
pub record IsGrown (appends : List Append) (past : List Write) (id : ℕ) (sections : List Section)
    : Type 0 where
  pub each : (w : Write) → Contains (segments_with past id sections) w
      → grown appends (segment_name_of 6 w.id) ≡ segment_bytes w.id w.sections
  pub only : (a : Append) → Contains appends a
      → (w : Write) × Contains (segments_with past id sections) w × (0 < length w.sections)
      × (a.0 ≡ segment_name_of 6 w.id)
  pub filled : AreFilled (segments_with past id sections)
  pub rise : AllPairs IsLower past
  pub below : (w : Write) → Contains past w → w.id < id

-- The disk has made further changes, which are appends. Where those before had brought just the
-- log's sections, they have now too.
pub record Grows {D : Type 0} (changes : D → Option (List Change)) (before now : State D)
    : Type 0 where
  pub added : List Change
  pub changes_are : changes now.disk ≡ option_map (λ made. made ++ added) (changes before.disk)
  pub appends : AreAppends added
  pub grows : (appends : List Append) → IsGrown appends before.past before.id before.sections
      → IsGrown (appends ++ appends_of added) now.past now.id now.sections

-- These are the sections at hand, or all but the last of them, which does not last and of which the
-- disk has failed to take all.
abbrev pub AreBrought : {D : Type 0} → State D → List Section → Type 0
AreBrought s part =
    (s.sections ≡ part)
    ⊎ ((torn : Section) × (s.sections ≡ part ++ torn ∷ []) × (s.is_stopped ≡ true)
    × (s.synced ≤ length part))

-- The same, whether or not the disk has failed meanwhile.
pub record Writes {D : Type 0} (changes : D → Option (List Change)) (before now : State D)
    : Type 0 where
  pub added : List Change
  pub changes_are : changes now.disk ≡ option_map (λ made. made ++ added) (changes before.disk)
  pub appends : AreAppends added
  pub writes : (appends : List Append) → IsGrown appends before.past before.id before.sections
      → (part : List Section) × AreBrought now part
      × IsGrown (appends ++ appends_of added) now.past now.id part
