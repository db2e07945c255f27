-- What a run appended to its segments, and the history that this reads as.
use Rattle.std.specs.Prelude.{◌≡◌, ℕ, ◌==◌, Bool, List, map, Contains}
use Rattle.std.specs.List.{filter}
use Rattle.clog_spec.specs.Names.{segment_name_of}
use Rattle.clog_disk.specs.declared.change.Change.{Change}
use Rattle.clog_scan.specs.Segment.{Entry}
use Rattle.clog_crash.specs.Grown.{Append, GrownSegment, IsKept, appends_of, grown}
use Rattle.clog_applied.specs.History.{LoggedLine, entry_of}

-- what changes appended to the segment of an id, laid end to end
abbrev pub appended : List Change → ℕ → List ℕ
appended changes id = grown (appends_of changes) (segment_name_of 6 id)

abbrev pub is_in : ℕ → LoggedLine → Bool
is_in id w = w.id == id

-- the entries of a history in the segment of an id
abbrev pub entries_in : ℕ → List LoggedLine → List Entry
entries_in id history = map entry_of (filter (is_in id) history)

-- the segments of these ids, each with its entries of a history
abbrev pub segments_of : List ℕ → List LoggedLine → List GrownSegment
segments_of ids history = map (λ (id : ℕ). (id, entries_in id history)) ids

-- the name is that of a segment of one of these ids
pub record IsSegmentOf (ids : List ℕ) (name : List ℕ) : Type 0 where
  pub id : ℕ
  pub listed : Contains ids id
  pub named : name ≡ segment_name_of 6 id

-- The history is what was appended: the segments of these ids, in ascending order, were appended
-- to, and nothing else was; and each reads as its entries of the history, to the end of its bytes.
pub record IsAppended (changes : List Change) (ids : List ℕ) (history : List LoggedLine) : Type 0
  where
    pub kept : IsKept (appends_of changes) (segments_of ids history)
    pub only : (a : Append) → Contains (appends_of changes) a → IsSegmentOf ids a.0
    pub no_other : (w : LoggedLine) → Contains history w → Contains ids w.id
