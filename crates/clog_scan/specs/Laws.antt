-- What follows from the definition of a segment alone.
use Rattle.std.specs.Prelude.{
  ◌≡◌,
  ℕ,
  ◌+◌,
  ◌-◌,
  ◌^◌,
  ◌<◌,
  ◌≤◌,
  List,
  [],
  ◌∷◌,
  ◌++◌,
  length,
  drop,
  Some,
  ⊤,
}
use Rattle.std.specs.List.{All, slice_range}
use Rattle.clog_spec.specs.Crc.{IsBytes}
use Rattle.clog_spec.specs.Segment.{entry_bytes}
use Rattle.clog_spec.specs.Sizes.{
  header_size,
  marker_size,
  front_size,
  frame_size,
  least_payload,
}
use Rattle.clog_entry.specs.declared.cause.Cause.{Cause}
use Rattle.clog_entry.specs.Fields.{entry_front_size}
use Rattle.clog_entry.specs.Soft.{IsOfHeader, PassesAsHeader}
use Rattle.clog_entry.specs.Spelled.{IsMarkerAt}
use Rattle.clog_scan.specs.declared.answer.End.{End}
use Rattle.clog_scan.specs.declared.answer.Found.{Found}
use Rattle.clog_scan.specs.declared.answer.Scan.{Scan}
use Rattle.clog_scan.specs.declared.answer.End.TheVariants.{Clean, Torn}
use Rattle.clog_scan.specs.Cut.{
  Section,
  IsSection,
  IsFront,
  front_bytes,
  filled_to,
  last_until,
}
use Rattle.clog_scan.specs.Segment.{Entry, IsSegment}

-- the bytes of a file that a scan takes
pub record IsFile (bytes : List ℕ) : Type 0 where
  pub are_bytes : IsBytes bytes
  pub short : length bytes < 2 ^ 31

-- where a segment ends
abbrev pub place_of : End → ℕ
place_of (Clean at) = at
place_of (Torn at cause) = at

-- the bytes hold something
abbrev pub HasSegment : List ℕ → ℕ → Type 0
HasSegment bytes id = (entries : List Entry) × (end : End) × IsSegment bytes id entries end

-- two answers are one
pub record AreOne (entries : List Entry) (end : End) (entries' : List Entry) (end' : End)
    : Type 0 where
  pub entries_are : entries ≡ entries'
  pub ends_are : end ≡ end'

-- Reading the bytes comes to an offset, in a section that ends at another: some front ends there,
-- whether or not it is the longest.
pub record Reaches (bytes : List ℕ) (id at until : ℕ) : Type 0 where
  pub sections : List Section
  pub front : IsFront bytes id (Some sections)
  pub place : at ≡ length (front_bytes id (Some sections))
  pub end : until ≡ last_until header_size sections

-- An entry lies behind a marker that reading comes to, so at `front_size` or later, and ends at or
-- below the end of the marker's section.
pub record IsInSection (bytes : List ℕ) (id : ℕ) (e : Entry) : Type 0 where
  pub marker : ℕ
  pub until : ℕ
  pub reached : Reaches bytes id marker marker
  pub is_marker : IsMarkerAt bytes id marker until
  pub first : front_size ≤ e.start
  pub behind : marker + marker_size ≤ e.start
  pub within : e.end ≤ until

-- the bytes in an entry's range are the entry of its payload
pub record IsLaid (bytes : List ℕ) (id : ℕ) (e : Entry) : Type 0 where
  pub spelled : drop e.start bytes ≡ entry_bytes e.payload ++ drop e.end bytes
  pub range : e.end ≡ e.start + frame_size + length e.payload
  pub least : least_payload ≤ length e.payload
  pub payload_is : slice_range bytes (e.start + entry_front_size) (e.end - 4) ≡ e.payload
  pub section : IsInSection bytes id e

-- the range of an entry in a file of this length
pub record IsRange (len : ℕ) (f : Found) : Type 0 where
  pub room : f.start + frame_size + least_payload ≤ f.end
  pub within : f.end ≤ len

-- the ranges that a scan of a file of this length tells
abbrev pub HasRanges : ℕ → Scan → Type 0
HasRanges len scan = All (IsRange len) scan.entries

-- entries in order between two offsets, none over another
abbrev pub AreLaidOut : List ℕ → ℕ → ℕ → List Entry → ℕ → Type 0
AreLaidOut bytes id from [] place = from ≤ place
AreLaidOut bytes id from (e ∷ es) place =
    (from ≤ e.start) × IsLaid bytes id e × AreLaidOut bytes id e.end es place

-- sections from an offset on whose entries fill them, in a file of this length
abbrev pub AreWhole : ℕ → ℕ → List Section → Type 0
AreWhole len at [] = ⊤
AreWhole len at (s ∷ ss) =
    IsSection len at s × (filled_to at s ≡ s.until) × AreWhole len s.until ss

-- other bytes hold these entries too, and perhaps more behind the place
pub record HoldsThem (entries : List Entry) (place : ℕ) (entries' : List Entry) (place' : ℕ)
    : Type 0 where
  pub more : List Entry
  pub are : entries' ≡ entries ++ more
  pub behind : place ≤ place'

-- The header is another's: its check is right, and the segment is torn at its start.
pub record IsForeign (bytes : List ℕ) (place : ℕ) (cause : Cause) : Type 0 where
  pub start : place ≡ 0
  pub cause_is : IsOfHeader cause
  pub passes : PassesAsHeader bytes
