-- The bytes of a segment of version 6. All numbers are big endian.
use Rattle.std.specs.Prelude.{ℕ, ◌+◌, ◌/◌, ◌%◌, ◌^◌, List, ◌++◌, length, codes}
use Rattle.std.specs.Int.{w16, w32, w64, to_be_bytes}
use Rattle.clog_spec.specs.Crc.{crc32_of}
use Rattle.clog_spec.specs.Sizes.{marker_size}

abbrev pub low_half : ℕ → ℕ
low_half id = id % 2 ^ 32

abbrev pub high_half : ℕ → ℕ
high_half id = id / 2 ^ 32

-- version, id, length of the parameters, parameters
abbrev pub header_front : ℕ → List ℕ
header_front id = to_be_bytes w32 6 ++ to_be_bytes w64 id ++ to_be_bytes w16 2 ++ codes "{}"

-- what a header's check is of
abbrev pub header_checked : ℕ → List ℕ
header_checked id =
    to_be_bytes w32 6 ++ to_be_bytes w32 (low_half id) ++ to_be_bytes w32 (high_half id)
    ++ to_be_bytes w32 2 ++ codes "{}"

-- the header of the segment of an id, 20 bytes
abbrev pub header_bytes : ℕ → List ℕ
header_bytes id = header_front id ++ to_be_bytes w32 (crc32_of (header_checked id))

-- What a marker's check is of: the target is not among it.
abbrev pub marker_checked : ℕ → ℕ → List ℕ
marker_checked id at =
    to_be_bytes w32 (low_half id) ++ to_be_bytes w32 (high_half id) ++ to_be_bytes w32 at

-- the marker at a place in the segment of an id, pointing to the end of its section, 8 bytes
abbrev pub marker_bytes : ℕ → ℕ → ℕ → List ℕ
marker_bytes id at end = to_be_bytes w32 end ++ to_be_bytes w32 (crc32_of (marker_checked id at))

-- what an entry's first check is of, and the second begins with
abbrev pub size_bytes : List ℕ → List ℕ
size_bytes payload = to_be_bytes w32 (length payload)

-- what stands before a payload of a size: the size, and its check
abbrev pub entry_front : ℕ → List ℕ
entry_front size = to_be_bytes w32 size ++ to_be_bytes w32 (crc32_of (to_be_bytes w32 size))

-- an entry, 12 bytes longer than its payload
abbrev pub entry_bytes : List ℕ → List ℕ
entry_bytes payload =
    entry_front (length payload) ++ payload
    ++ to_be_bytes w32 (crc32_of (size_bytes payload ++ payload))

-- a section at a place in the segment of an id: its marker, and its entries laid end to end
abbrev pub section_bytes : ℕ → ℕ → List ℕ → List ℕ
section_bytes id at entries = marker_bytes id at (at + marker_size + length entries) ++ entries
