-- What is told of a file of which only a window is there.
use Rattle.std.specs.Prelude.{◌≡◌, ℕ, ◌+◌, ◌-◌, ◌<◌, ◌≤◌, List, length, Option, Some, None, Result}
use Rattle.std.specs.Prelude.{Ok, Err}
use Rattle.clog_spec.specs.Sizes.{header_size, marker_size, frame_size}
use Rattle.clog_entry.specs.declared.cause.Cause.{Cause}
use Rattle.clog_entry.specs.declared.marker.Marker.{Marker}
use Rattle.clog_entry.specs.declared.marker.Marker.TheVariants as markers
use Rattle.clog_entry.specs.Reading.{header_read, marker_read, entry_read, number_at}
use Rattle.clog_entry.specs.Fields.{entry_front_size}
use Rattle.clog_entry.specs.Spelled.{IsHeaderAt}
use Rattle.clog_scan.specs.Pieces.{IsAhead, IsWindow}

-- the header is read, or its last byte is not there yet
abbrev pub HeaderIs : ℕ → ℕ → List ℕ → Option (Result Unit Cause) → Type 0
HeaderIs len id window (Some (Ok done)) =
    (header_size ≤ length window)
    × ((file : List ℕ) → IsWindow file len window 0 → header_read file id ≡ Ok tt)
HeaderIs len id window (Some (Err cause)) =
    (file : List ℕ) → IsWindow file len window 0 → header_read file id ≡ Err cause
HeaderIs len id window None =
    (length window < len)
    × ((file : List ℕ) → IsWindow file len window 0 → IsHeaderAt file id
    → length window < header_size)

-- the marker is read, or its last byte is not there yet
abbrev pub MarkerIs : ℕ → ℕ → List ℕ → ℕ → Option (Result Marker Cause) → Type 0
MarkerIs len id window at (Some (Ok (markers.Section next))) =
    (marker_size ≤ length window) × (at + marker_size ≤ next) × (next ≤ len)
    × ((file : List ℕ) → IsWindow file len window at
    → marker_read file id at ≡ Ok (markers.Section next))
MarkerIs len id window at (Some (Ok markers.End)) =
    (file : List ℕ) → IsWindow file len window at → marker_read file id at ≡ Ok markers.End
MarkerIs len id window at (Some (Err cause)) =
    (file : List ℕ) → IsWindow file len window at → marker_read file id at ≡ Err cause
MarkerIs len id window at None = (at + marker_size ≤ len) × (length window < marker_size)

-- the entry is read, or its last byte is not there yet
abbrev pub EntryIs : List ℕ → ℕ → Option (Result ℕ Cause) → Type 0
EntryIs window room (Some (Ok size)) =
    (frame_size + size ≤ length window) × (frame_size + size ≤ room)
    × ((file : List ℕ) (at end : ℕ) → IsAhead file window at → end - at ≡ room
    → entry_read file at end ≡ Ok size)
EntryIs window room (Some (Err cause)) =
    (file : List ℕ) (at end : ℕ) → IsAhead file window at → end - at ≡ room
    → entry_read file at end ≡ Err cause
EntryIs window room None =
    (length window < room)
    × (entry_front_size ≤ length window → length window < frame_size + number_at window 0)
