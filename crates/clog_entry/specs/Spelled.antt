-- What stands in a segment's bytes at a place.
use Rattle.std.specs.Prelude.{◌≡◌, ℕ, ◌+◌, ◌≤◌, List, ◌++◌, length, take, drop}
use Rattle.clog_spec.specs.Segment.{header_bytes, marker_bytes, entry_bytes}
use Rattle.clog_spec.specs.Sizes.{header_size, marker_size, frame_size, least_payload}
use Rattle.clog_entry.specs.Fields.{entry_front_size}

-- the marker of a section that ends at a place within the file
pub record IsMarkerAt (bytes : List ℕ) (id at end : ℕ) : Type 0 where
  pub spelled : drop at bytes ≡ marker_bytes id at end ++ drop (at + marker_size) bytes
  pub behind : at + marker_size ≤ end
  pub within : end ≤ length bytes

-- the entry of a payload, which ends at or below the end of its section
pub record IsEntryAt (bytes : List ℕ) (at end : ℕ) (payload : List ℕ) : Type 0 where
  pub spelled :
      drop at bytes ≡ entry_bytes payload ++ drop (at + frame_size + length payload) bytes
  pub least : least_payload ≤ length payload
  pub fits : at + frame_size + length payload ≤ end

-- the payload that lies in an entry of this size
abbrev pub payload_at : List ℕ → ℕ → ℕ → List ℕ
payload_at bytes at size = take size (drop (at + entry_front_size) bytes)

-- the header of the segment of an id
abbrev pub IsHeaderAt : List ℕ → ℕ → Type 0
IsHeaderAt bytes id = bytes ≡ header_bytes id ++ drop header_size bytes
