-- What the bytes of a segment hold: its entries and its end.
use Rattle.std.specs.Prelude.{
  ◌≡◌,
  ℕ,
  ◌+◌,
  ◌<◌,
  ◌≤◌,
  ◌⊎◌,
  List,
  [],
  ◌∷◌,
  ◌++◌,
  length,
  map,
  Option,
  Some,
  None,
  Ok,
  Err,
}
use Rattle.clog_spec.specs.Sizes.{header_size, marker_size, frame_size}
use Rattle.clog_entry.specs.declared.cause.Cause.{Cause}
use Rattle.clog_entry.specs.declared.marker.Marker.TheVariants.{End as no_marker}
use Rattle.clog_entry.specs.Reading.{header_read, marker_read, entry_read}
use Rattle.clog_scan.specs.declared.answer.Found.{Found}
use Rattle.clog_scan.specs.declared.answer.Scan.{Scan}
use Rattle.clog_scan.specs.declared.answer.End.{End}
use Rattle.clog_scan.specs.declared.answer.End.TheVariants.{Clean, Torn}
use Rattle.clog_scan.specs.Cut.{Section, IsFront, front_bytes, last_until}

-- an entry: its range, and its payload
pub record Entry : Type 0 where
  pub start : ℕ
  pub end : ℕ
  pub payload : List ℕ

-- the entry of a payload at an offset
abbrev pub entry_from : ℕ → List ℕ → Entry
entry_from at payload = record {
  start = at;
  end = at + frame_size + length payload;
  payload = payload;
}

-- entries from an offset on, laid end to end
abbrev pub entries_from : ℕ → List (List ℕ) → List Entry
entries_from at [] = []
entries_from at (p ∷ ps) = entry_from at p ∷ entries_from (at + frame_size + length p) ps

-- the entries of sections, the first of which begins at an offset
abbrev pub entries_of : ℕ → List Section → List Entry
entries_of at [] = []
entries_of at (s ∷ ss) = entries_from (at + marker_size) s.payloads ++ entries_of s.until ss

abbrev pub front_entries : Option (List Section) → List Entry
front_entries None = []
front_entries (Some ss) = entries_of header_size ss

-- Where a front ends at an offset, and its last section at another: a marker is read where they are
-- one, and an entry where they are not. The first rule that applies to what stands there ends the
-- segment.
abbrev pub StopsAt : List ℕ → ℕ → ℕ → ℕ → End → Type 0
StopsAt bytes id at until (Clean place) =
    (place ≡ at) × (at ≡ until) × (marker_read bytes id at ≡ Ok no_marker)
StopsAt bytes id at until (Torn place cause) =
    (place ≡ at) × (((at ≡ until) × (marker_read bytes id at ≡ Err cause))
    ⊎ ((at < until) × (entry_read bytes at until ≡ Err cause)))

-- with no header in front the segment is torn at its start
abbrev pub EndsBy : List ℕ → ℕ → Option (List Section) → End → Type 0
EndsBy bytes id None end =
    (cause : Cause) × (header_read bytes id ≡ Err cause) × (end ≡ Torn 0 cause)
EndsBy bytes id (Some ss) end =
    StopsAt bytes id (length (front_bytes id (Some ss))) (last_until header_size ss) end

-- the bytes of the segment of an id hold these entries and end so
pub record IsSegment (bytes : List ℕ) (id : ℕ) (entries : List Entry) (end : End) : Type 0 where
  pub front : Option (List Section)
  pub is_front : IsFront bytes id front
  pub longest : (other : Option (List Section)) → IsFront bytes id other
      → length (front_bytes id other) ≤ length (front_bytes id front)
  pub entries_are : entries ≡ front_entries front
  pub ends : EndsBy bytes id front end

abbrev pub found_of : Entry → Found
found_of e = record { start = e.start; end = e.end }

-- a scan tells the ranges of the entries, and the end
abbrev pub Scans : List ℕ → ℕ → Scan → Type 0
Scans bytes id scan =
    (entries : List Entry) × IsSegment bytes id entries scan.end
    × (scan.entries ≡ map found_of entries)
