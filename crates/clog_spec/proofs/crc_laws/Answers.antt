use Rattle.clog_spec.proofs.Divide.{
  crc32_of-continues,
  crc32_of_is_remainder,
  crc32_of-digits,
  crc32_of-four_zeros,
  crc32_of-nothing,
}
use Rattle.clog_spec.proofs.crc_laws.Goals as goal

pub returns-clause-remainder : goal.returns-clause-remainder
returns-clause-remainder c = crc32_of_is_remainder

pub returns-clause-continues : goal.returns-clause-continues
returns-clause-continues c = crc32_of-continues

pub returns-clause-of_digits : goal.returns-clause-of_digits
returns-clause-of_digits c = crc32_of-digits

pub returns-clause-of_four_zeros : goal.returns-clause-of_four_zeros
returns-clause-of_four_zeros c = crc32_of-four_zeros

pub returns-clause-of_nothing : goal.returns-clause-of_nothing
returns-clause-of_nothing c = crc32_of-nothing
