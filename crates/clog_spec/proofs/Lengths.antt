-- How long headers, markers and entries are.
use Rattle.std.proofs.Common.{◌≡◌, ℕ, ◌+◌, List, ◌++◌, length, refl, arith, length-append}
use Rattle.std.specs.Int.{w32, to_be_bytes}
use Rattle.clog_spec.specs.Crc.{crc32_of}
use Rattle.clog_spec.specs.Segment.{header_bytes, marker_bytes, entry_bytes, size_bytes}
use Rattle.clog_spec.specs.Sizes.{header_size, marker_size, frame_size}

pub length-header_bytes : (id : ℕ) → length (header_bytes id) ≡ header_size
length-header_bytes id = refl

pub length-marker_bytes : (id at end : ℕ) → length (marker_bytes id at end) ≡ marker_size
length-marker_bytes id at end = refl

pub length-entry_bytes : (payload : List ℕ)
    → length (entry_bytes payload) ≡ frame_size + length payload
length-entry_bytes payload =
    let check = to_be_bytes w32 (crc32_of (size_bytes payload ++ payload)) in
    omega (arith, length-append payload check)
