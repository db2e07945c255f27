-- What is read at a place of a segment's bytes: of each table of rules the first that applies.
use Rattle.std.specs.Prelude.{
  ℕ,
  ◌+◌,
  ◌-◌,
  ◌==◌,
  ◌&&◌,
  ◌||◌,
  List,
  [],
  ◌∷◌,
  ◌++◌,
  length,
  take,
  drop,
  codes,
  Bool,
  if◌then◌else◌,
  nat_lt,
  Result,
  Ok,
  Err,
  not,
}
use Rattle.std.specs.Str.{bytes_eq}
use Rattle.std.specs.Int.{w32, to_be_bytes}
use Rattle.byteorder.specs.Endian.{big_number}
use Rattle.clog_spec.specs.Crc.{crc32_of}
use Rattle.clog_spec.specs.Segment.{marker_checked}
use Rattle.clog_spec.specs.Sizes.{marker_size, frame_size, least_payload}
use Rattle.clog_entry.specs.Fields.{
  header_fields,
  entry_front_size,
  header_id_at,
  parameters_size_at,
  parameters_at,
  bare_header_size,
}
use Rattle.clog_entry.specs.declared.cause.Cause.{Cause}
use Rattle.clog_entry.specs.declared.cause.Cause.TheVariants.{
  Short,
  SizeUnder10,
  SizeCheck,
  BodyCheck,
  PastSection,
  Version,
  Parameters,
  HeaderCheck,
  MarkerCheck,
  MarkerTarget,
  HeaderId,
}
use Rattle.clog_entry.specs.declared.marker.Marker.{Marker}
use Rattle.clog_entry.specs.declared.marker.Marker.TheVariants.{End, Section}

-- the answer of the first rule that applies, and what is answered where none does
abbrev pub first_of : {A : Type 0} → List (Bool × Result A Cause) → Result A Cause
    → Result A Cause
first_of [] otherwise = otherwise
first_of (rule ∷ rules) otherwise = if rule.0 then rule.1 else first_of rules otherwise

-- the number in the four bytes at an offset
abbrev pub number_at : List ℕ → ℕ → ℕ
number_at bytes at = big_number 4 (drop at bytes)

-- a header of these fields, in the segment of an id
unfoldable pub header_judged : ℕ → ℕ → List ℕ → ℕ → ℕ → Result Unit Cause
header_judged version found parameters check id =
    first_of (
    (not (check == crc32_of (header_fields version found parameters)), Err HeaderCheck)
    ∷ (not (version == 6), Err (Version version))
    ∷ (not (found == id), Err (HeaderId found))
    ∷ (not (bytes_eq parameters (codes "{}")), Err Parameters)
    ∷ [])
    (Ok tt)

-- the header of the segment of an id
unfoldable pub header_read : List ℕ → ℕ → Result Unit Cause
header_read bytes id =
    let size = big_number 2 (drop parameters_size_at bytes) in
    first_of (
    (nat_lt (length bytes) parameters_at, Err Short)
    ∷ (nat_lt (length bytes) (bare_header_size + size), Err Short)
    ∷ [])
    (header_judged (number_at bytes 0) (big_number 8 (drop header_id_at bytes))
    (take size (drop parameters_at bytes)) (number_at bytes (parameters_at + size)) id)

-- A marker of this target and check at an offset, in a file of this length that has room for it.
unfoldable pub marker_judged : ℕ → ℕ → ℕ → ℕ → ℕ → Result Marker Cause
marker_judged len id at target check =
    first_of (
    ((target == 0) && (check == 0), Ok End)
    ∷ (not (check == crc32_of (marker_checked id at)), Err MarkerCheck)
    ∷ (nat_lt target (at + marker_size) || nat_lt len target, Err (MarkerTarget target))
    ∷ [])
    (Ok (Section target))

-- the marker at an offset
unfoldable pub marker_read : List ℕ → ℕ → ℕ → Result Marker Cause
marker_read bytes id at =
    first_of ((nat_lt (length bytes) (at + marker_size), Ok End) ∷ [])
    (marker_judged (length bytes) id at (number_at bytes at) (number_at bytes (at + 4)))

-- The size of a payload and its check, in an entry that begins where so many bytes are left in its
-- section.
unfoldable pub size_judged : ℕ → ℕ → ℕ → Result Unit Cause
size_judged room size check =
    first_of (
    (nat_lt size least_payload, Err SizeUnder10)
    ∷ (not (check == crc32_of (to_be_bytes w32 size)), Err SizeCheck)
    ∷ (nat_lt room (frame_size + size), Err PastSection)
    ∷ [])
    (Ok tt)

-- a payload of a size, and the check behind it
unfoldable pub body_judged : ℕ → ℕ → List ℕ → Result Unit Cause
body_judged size check payload =
    first_of (
    (not (check == crc32_of (to_be_bytes w32 size ++ payload)), Err BodyCheck) ∷ [])
    (Ok tt)

-- a second judgement where the first lets pass, and then an answer
abbrev pub then_ok : Result Unit Cause → Result Unit Cause → ℕ → Result ℕ Cause
then_ok (Err cause) second answer = Err cause
then_ok (Ok done) (Err cause) answer = Err cause
then_ok (Ok done) (Ok done') answer = Ok answer

-- the entry at an offset in a section that ends at an offset behind it: the size of its payload
unfoldable pub entry_read : List ℕ → ℕ → ℕ → Result ℕ Cause
entry_read bytes at end =
    let size = number_at bytes at in
    first_of ((nat_lt (end - at) entry_front_size, Err Short) ∷ [])
    (then_ok (size_judged (end - at) size (number_at bytes (at + 4)))
    (body_judged size (number_at bytes (at + entry_front_size + size))
    (take size (drop (at + entry_front_size) bytes)))
    size)
