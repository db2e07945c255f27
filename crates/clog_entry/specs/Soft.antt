-- Which causes a crash may leave: those that come where a check is wrong, or bytes are missing.
use Rattle.std.specs.Prelude.{◌≡◌, ℕ, ◌+◌, ◌≤◌, List, length, take, drop, ⊤}
use Rattle.byteorder.specs.Endian.{big_number}
use Rattle.clog_spec.specs.Crc.{crc32_of}
use Rattle.clog_entry.specs.declared.cause.Cause.{Cause}
use Rattle.clog_entry.specs.declared.cause.Cause.TheVariants.{
  Version,
  Parameters,
  HeaderId,
  Payload,
}
use Rattle.clog_entry.specs.Fields.{
  header_fields,
  header_id_at,
  parameters_size_at,
  parameters_at,
  bare_header_size,
}
use Rattle.clog_entry.specs.Reading.{number_at}

-- A crash may leave a segment torn for this cause. The others come behind a check that was right.
abbrev pub IsSoft : Cause → Type 0
IsSoft (Version version) = ⊥
IsSoft Parameters = ⊥
IsSoft (HeaderId id) = ⊥
IsSoft (Payload fault) = ⊥
IsSoft other = ⊤

-- a header whose check is right is refused for this cause
abbrev pub IsOfHeader : Cause → Type 0
IsOfHeader (Version version) = ⊤
IsOfHeader Parameters = ⊤
IsOfHeader (HeaderId id) = ⊤
IsOfHeader other = ⊥

-- The bytes begin with a header of any version, id and parameters, whose check is right.
pub record PassesAsHeader (bytes : List ℕ) : Type 0 where
  pub fits : bare_header_size + big_number 2 (drop parameters_size_at bytes) ≤ length bytes
  pub check :
      number_at bytes (parameters_at + big_number 2 (drop parameters_size_at bytes))
      ≡ crc32_of (header_fields (number_at bytes 0) (big_number 8 (drop header_id_at bytes))
      (take (big_number 2 (drop parameters_size_at bytes)) (drop parameters_at bytes)))
