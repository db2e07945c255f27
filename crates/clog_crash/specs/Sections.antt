-- The bytes of a segment with sections, which sections a segment can hold, and bytes that bring
-- further ones.
use Rattle.std.specs.Prelude.{
  ◌≡◌,
  ℕ,
  ◌+◌,
  ◌<◌,
  ◌^◌,
  ◌==◌,
  List,
  [],
  ◌∷◌,
  ◌++◌,
  length,
  Some,
  if◌then◌else◌,
  Contains,
}
use Rattle.clog_spec.specs.Crc.{IsBytes}
use Rattle.clog_spec.specs.Segment.{header_bytes, section_bytes}
use Rattle.clog_spec.specs.Sizes.{header_size, marker_size, front_size}
use Rattle.clog_mutation.specs.declared.mutation.Mutation.{Mutation}
use Rattle.clog_mutation.specs.Stored.{IsPayload}
use Rattle.clog_scan.specs.Cut.{Section, AreLong, entries_bytes, front_bytes, last_until}
use Rattle.clog_scan.specs.Laws.{AreWhole}
use Rattle.clog_scan.specs.Segment.{entries_of}
use Rattle.clog_crash.specs.Restore.{AreMutations}

-- The bytes of a segment with these sections: a file is made by its first section, with its header.
abbrev pub segment_bytes : ℕ → List Section → List ℕ
segment_bytes id [] = []
segment_bytes id (s ∷ ss) = front_bytes id (Some (s ∷ ss))

-- The segment of this id can hold these sections: their entries fill them, each payload is a
-- mutation's, and the file is short enough to be read.
pub record IsStored (id : ℕ) (sections : List Section) : Type 0 where
  pub fits : id < 2 ^ 63
  pub short : length (segment_bytes id sections) < 2 ^ 31
  pub bytes : IsBytes (segment_bytes id sections)
  pub whole : AreWhole (length (segment_bytes id sections)) header_size sections
  pub said : AreMutations (entries_of header_size sections)

-- Bytes behind those of the sections that stand: they bring the new ones.
pub record Brings (id : ℕ) (old kept new : List Section) (bytes : List ℕ) : Type 0 where
  pub spelled : segment_bytes id (old ++ kept) ++ bytes ≡ segment_bytes id (old ++ (kept ++ new))
  pub stored : IsStored id (old ++ (kept ++ new))

-- ---- one section more

-- the bytes of a section with these entries, in a file of this length: a new file begins with its
-- header
abbrev pub next_bytes : ℕ → ℕ → List ℕ → List ℕ
next_bytes id size entries =
    if size == 0 then header_bytes id ++ section_bytes id header_size entries
    else section_bytes id size entries

-- the section of these payloads behind others
abbrev pub next_section : List Section → List (List ℕ) → Section
next_section before payloads = record {
  until = last_until header_size before + marker_size + length (entries_bytes payloads);
  payloads = payloads;
}

-- The bytes are the next section of a segment whose file has this length, and its payloads are
-- mutations'.
pub record IsNext (id : ℕ) (old kept : List Section) (payloads : List (List ℕ)) (size : ℕ)
    (bytes : List ℕ) : Type 0 where
  pub size_is : size ≡ length (segment_bytes id (old ++ kept))
  pub bytes_are : bytes ≡ next_bytes id size (entries_bytes payloads)
  pub long : AreLong payloads
  pub said : (payload : List ℕ) → Contains payloads payload
      → (mutation : Mutation) × IsPayload payload mutation
  pub room : size + front_size + length (entries_bytes payloads) < 2 ^ 31
