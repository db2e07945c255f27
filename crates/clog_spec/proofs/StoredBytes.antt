-- Headers, markers and entries are bytes.
use Rattle.std.proofs.Common.{ℕ, zero, suc, List, ◌++◌, length, codes, lit<}
use Rattle.std.specs.Int.{w16, w32, w64, to_be_bytes}
use Rattle.clog_spec.specs.Crc.{IsBytes, crc32_of}
use Rattle.clog_spec.specs.Segment.{
  header_bytes,
  header_front,
  header_checked,
  marker_bytes,
  marker_checked,
  entry_bytes,
  entry_front,
  size_bytes,
}
use Rattle.clog_spec.proofs.Bytes.{append-IsBytes, short_number, number-IsBytes, long_number}

-- the parameters of a header
pub braces-IsBytes : IsBytes (codes "{}")
braces-IsBytes zero = lit< tt
braces-IsBytes (suc zero) = lit< tt
braces-IsBytes (suc (suc i)) = lit< tt

pub header-IsBytes : (id : ℕ) → IsBytes (header_bytes id)
header-IsBytes id =
    let version = to_be_bytes w32 6 in
    let number = to_be_bytes w64 id in
    let two = to_be_bytes w16 2 in
    let check = to_be_bytes w32 (crc32_of (header_checked id)) in
    append-IsBytes (header_front id) check
    (append-IsBytes (version ++ number ++ two) (codes "{}")
    (append-IsBytes (version ++ number) two
    (append-IsBytes version number (number-IsBytes 6) (long_number id)) (short_number 2))
    braces-IsBytes) (number-IsBytes (crc32_of (header_checked id)))

pub marker-IsBytes : (id at end : ℕ) → IsBytes (marker_bytes id at end)
marker-IsBytes id at end =
    append-IsBytes (to_be_bytes w32 end) (to_be_bytes w32 (crc32_of (marker_checked id at)))
    (number-IsBytes end) (number-IsBytes (crc32_of (marker_checked id at)))

pub front-of-entry-IsBytes : (size : ℕ) → IsBytes (entry_front size)
front-of-entry-IsBytes size =
    append-IsBytes (to_be_bytes w32 size) (to_be_bytes w32 (crc32_of (to_be_bytes w32 size)))
    (number-IsBytes size) (number-IsBytes (crc32_of (to_be_bytes w32 size)))

pub entry-IsBytes : (payload : List ℕ) → IsBytes payload → IsBytes (entry_bytes payload)
entry-IsBytes payload are =
    let second = crc32_of (size_bytes payload ++ payload) in
    append-IsBytes (entry_front (length payload) ++ payload) (to_be_bytes w32 second)
    (append-IsBytes (entry_front (length payload)) payload
    (front-of-entry-IsBytes (length payload)) are) (number-IsBytes second)
