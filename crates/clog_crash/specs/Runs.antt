-- Entries at their places in the log, cut into runs that stand without a gap: a run is the entries
-- of one section.
use Rattle.std.specs.Prelude.{
  ◌≡◌,
  ◌⊎◌,
  ℕ,
  ◌+◌,
  ◌<◌,
  ◌≤◌,
  List,
  [],
  ◌∷◌,
  ◌++◌,
  length,
  map,
  ⊤,
}
use Rattle.std.specs.List.{flat_map}
use Rattle.clog_spec.specs.Sizes.{
  header_size,
  marker_size,
  front_size,
  frame_size,
  least_payload,
}
use Rattle.clog_scan.specs.Cut.{AreLong, Section, entries_bytes}
use Rattle.clog_scan.specs.Segment.{Entry, entries_from, entries_of}
use Rattle.clog_crash.specs.Log.{Write}

-- an entry of the segment of an id
abbrev pub Placed : Type 0
Placed = ℕ × Entry

-- the payloads of entries that stand end to end in a segment, from an offset on
pub record Run : Type 0 where
  pub id : ℕ
  pub start : ℕ
  pub payloads : List (List ℕ)

-- where a run ends
abbrev pub run_end : Run → ℕ
run_end run = run.start + length (entries_bytes run.payloads)

-- entries of one segment, at their places
abbrev pub placed : ℕ → List Entry → List Placed
placed id entries = map (λ (e : Entry). (id, e)) entries

abbrev pub placed_in : Run → List Placed
placed_in run = placed run.id (entries_from run.start run.payloads)

abbrev pub placed_in_all : List Run → List Placed
placed_in_all runs = flat_map placed_in runs

-- Where a further section's entries begin behind a log that ends at an offset of a segment: behind
-- a marker there, or behind the header and the first marker of a later segment.
abbrev pub BeginsAt : ℕ → ℕ → Run → Type 0
BeginsAt id until run =
    ((run.id ≡ id) × (run.start ≡ until + marker_size))
    ⊎ ((id < run.id) × (run.start ≡ front_size))

-- Runs that follow one another behind a log that ends at an offset of a segment. Each has an entry.
abbrev pub AreRuns : ℕ → ℕ → List Run → Type 0
AreRuns id until [] = ⊤
AreRuns id until (run ∷ runs) =
    BeginsAt id until run × (0 < length run.payloads) × AreLong run.payloads
    × AreRuns run.id (run_end run) runs

-- the entry's range is that of an entry of its payload, which is long enough
pub record IsWhole (e : Entry) : Type 0 where
  pub end : e.end ≡ e.start + frame_size + length e.payload
  pub long : least_payload ≤ length e.payload

-- the run that an entry begins
abbrev pub run_from : Placed → Run
run_from p = record { id = p.0; start = p.1.start; payloads = p.1.payload ∷ [] }

-- Entries that follow one another, the first behind one that ends at an offset of a segment: end to
-- end, with a marker between them, or in a later segment.
abbrev pub FollowOn : ℕ → ℕ → List Placed → Type 0
FollowOn id end [] = ⊤
FollowOn id end (p ∷ ps) =
    (((p.0 ≡ id) × (p.1.start ≡ end)) ⊎ ((p.0 ≡ id) × (p.1.start ≡ end + marker_size))
    ⊎ ((id < p.0) × (p.1.start ≡ front_size)))
    × FollowOn p.0 p.1.end ps

-- ---- the log as entries at their places

abbrev pub placed_of : Write → List Placed
placed_of w = placed w.id (entries_of header_size w.sections)

-- those of earlier segments, and of the sections of one
abbrev pub placed_log : List Write → ℕ → List Section → List Placed
placed_log past id sections =
    flat_map placed_of past ++ placed id (entries_of header_size sections)
