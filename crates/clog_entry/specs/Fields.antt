-- The fields of a segment of any version, as a reader meets them. All numbers are big endian.
use Rattle.std.specs.Prelude.{ℕ, List, ◌++◌, length}
use Rattle.std.specs.Int.{w32, to_be_bytes}
use Rattle.clog_spec.specs.Segment.{low_half, high_half}

-- what stands before the payload in an entry: its size, and the size's check
abbrev pub entry_front_size : ℕ
entry_front_size = 8

-- where a header's fields stand: behind the version the id, the length of the parameters, and these
abbrev pub header_id_at : ℕ
header_id_at = 4

abbrev pub parameters_size_at : ℕ
parameters_size_at = 12

abbrev pub parameters_at : ℕ
parameters_at = 14

-- a header without its parameters
abbrev pub bare_header_size : ℕ
bare_header_size = 18

-- what a header's check is of: version, halves of the id, length of the parameters, parameters
abbrev pub header_fields : ℕ → ℕ → List ℕ → List ℕ
header_fields version id parameters =
    to_be_bytes w32 version ++ to_be_bytes w32 (low_half id) ++ to_be_bytes w32 (high_half id)
    ++ to_be_bytes w32 (length parameters) ++ parameters
