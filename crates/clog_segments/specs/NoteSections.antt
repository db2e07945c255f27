-- Notes as sections: which of them stand end to end, and the payloads that a section of them has.
use Rattle.std.specs.Prelude.{
  ◌≡◌,
  ◌≢◌,
  ℕ,
  ◌+◌,
  ◌-◌,
  ◌==◌,
  if◌then◌else◌,
  ◌<◌,
  ◌≤◌,
  List,
  [],
  ◌∷◌,
  ◌++◌,
  length,
  map,
  ⊤,
  get_or,
}
use Rattle.std.specs.List.{Contains, flat_map}
use Rattle.clog_spec.specs.Sizes.{front_size, header_size, marker_size}
use Rattle.clog_base.specs.declared.sizes.Sizes.{Sizes}
use Rattle.clog_base.specs.Positions.{ordinal_of, offset_of}
use Rattle.clog_scan.specs.Cut.{last_until}
use Rattle.clog_crash.specs.Sections.{next_bytes}
use Rattle.path_core.specs.declared.note.EntryNote.{EntryNote}
use Rattle.clog_segments.specs.Life.{State}
use Rattle.clog_segments.specs.NoteLog.{IsGood}
use Rattle.clog_segments.specs.Notes.{payload_in}

abbrev pub payloads_in : List EntryNote → List (List ℕ)
payloads_in notes = map (λ (n : EntryNote). payload_in n.bytes) notes

-- their bytes, laid end to end
abbrev pub bytes_in : List EntryNote → List ℕ
bytes_in notes = flat_map (λ (n : EntryNote). n.bytes) notes

-- So many of the notes stand end to end from the first on, and no more.
pub record AreOneSection (notes : List EntryNote) (count : ℕ) : Type 0 where
  pub some : 0 < count
  pub within : count ≤ length notes
  pub joined : (k : ℕ) (d : EntryNote) → 0 < k → k < count
      → (get_or notes k d).start.0 ≡ (get_or notes (k - 1) d).end.0
  pub apart : (d : EntryNote) → count < length notes
      → (get_or notes count d).start.0 ≢ (get_or notes (count - 1) d).end.0

-- notes that stand end to end from a key on
abbrev pub EndToEnd : ℕ → List EntryNote → Type 0
EndToEnd key [] = ⊤
EndToEnd key (n ∷ ns) = (n.start.0 ≡ key) × EndToEnd n.end.0 ns

abbrev pub first_start : List EntryNote → ℕ
first_start [] = 0
first_start (n ∷ ns) = n.start.0

-- the length of a segment's file in front of the section whose first entry stands at an offset
abbrev pub size_before : ℕ → ℕ
size_before at = if at == front_size then 0 else at - marker_size

-- What stands in front of so many bytes of entries, so that with them it brings the next section of
-- a segment whose file has this size.
abbrev pub IsFrontOf : ℕ → ℕ → ℕ → List ℕ → Type 0
IsFrontOf id size long front =
    (entries : List ℕ) → length entries ≡ long → front ++ entries ≡ next_bytes id size entries

-- The notes may be the next section of the segment at hand.
pub record MayBeNext {D : Type 0} (base : ℕ) (log : State D) (notes : List EntryNote) : Type 0 where
  pub sizes : Sizes
  pub good : (n : EntryNote) → Contains notes n → IsGood sizes n
  pub some : 0 < length notes
  pub joined : EndToEnd (first_start notes) notes
  pub segment_is : log.id ≡ base + ordinal_of (first_start notes)
  pub behind : offset_of (first_start notes) ≡ last_until header_size log.sections + marker_size
