-- Notes of entries as parts of the log: where each stands, and which sections a list of them makes.
--
-- Entries that stand end to end are one section. It ends where its last entry does, and a marker
-- stands there, or the log goes on in a later segment. The segment of an ordinal has the id
-- `base + ordinal`.
use Rattle.std.specs.Prelude.{
  ◌≡◌,
  ℕ,
  ◌+◌,
  ◌-◌,
  List,
  [],
  ◌∷◌,
  length,
  map,
  take,
  drop,
}
use Rattle.clog_spec.specs.Sizes.{frame_size}
use Rattle.clog_base.specs.Positions.{ordinal_of, offset_of}
use Rattle.clog_entry.specs.Fields.{entry_front_size}
use Rattle.clog_scan.specs.Segment.{entry_from}
use Rattle.clog_crash.specs.Runs.{AreRuns, Placed, Run, placed_in_all}
use Rattle.clog_crash.specs.WorkedGrown.{one_entry}
use Rattle.path_core.specs.declared.note.EntryNote.{EntryNote}

-- the payload in the bytes of an entry: behind its size and the check of that, and in front of its
-- last check
abbrev pub payload_in : List ℕ → List ℕ
payload_in bytes = take (length bytes - frame_size) (drop entry_front_size bytes)

-- the entry of a note, at its place
abbrev pub place_of : ℕ → EntryNote → Placed
place_of base n =
    (base + ordinal_of n.start.0, entry_from (offset_of n.start.0) (payload_in n.bytes))

abbrev pub places_of : ℕ → List EntryNote → List Placed
places_of base notes = map (place_of base) notes

-- The runs that these notes make behind a log that ends at an offset of a segment: their entries,
-- in their order, at their places, and nothing else.
pub record MakeRuns (base id until : ℕ) (notes : List EntryNote) (runs : List Run) : Type 0 where
  pub are : AreRuns id until runs
  pub places : placed_in_all runs ≡ places_of base notes

-- ---- a worked row: two notes end to end, a third behind a marker, and one in the next segment

abbrev pub note_at : ℕ → EntryNote
note_at start = record {
  start = record { 0 = start };
  end = record { 0 = start + 32 };
  tables = 1;
  line = 1;
  writer = record { 0 = 0 };
  bytes = one_entry;
}

abbrev pub the_notes : List EntryNote
the_notes = note_at 28 ∷ note_at 60 ∷ note_at 100 ∷ note_at 2147483676 ∷ []
