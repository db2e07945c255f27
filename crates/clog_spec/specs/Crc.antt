-- CRC-32 (the check of java.util.zip.CRC32) as the remainder of a polynomial over bits.
--
-- A polynomial over the field of two elements is written as a number, the coefficient of its
-- highest power in the lowest bit. So a string of bytes, the lowest bit of each byte first, is the
-- number whose digits in base 256 are the bytes, the first byte the lowest; adding is `bit_xor`;
-- and multiplying by the polynomial's next lower power is doubling.
use Rattle.std.specs.Prelude.{
  ◌≡◌,
  ℕ,
  zero,
  suc,
  ◌+◌,
  ◌*◌,
  ◌/◌,
  ◌%◌,
  ◌^◌,
  ◌<◌,
  ◌==◌,
  List,
  [],
  ◌∷◌,
  length,
  slice_index,
  bit_xor,
  Bool,
  if◌then◌else◌,
}

-- x^32 + x^26 + x^23 + x^22 + x^16 + x^12 + x^11 + x^10 + x^8 + x^7 + x^5 + x^4 + x^2 + x + 1,
-- without its highest power
abbrev pub tail_of_polynomial : ℕ
tail_of_polynomial = 0xEDB88320

-- the whole polynomial
abbrev pub polynomial : ℕ
polynomial = 1 + 2 * 0xEDB88320

-- 32 ones
abbrev pub ones : ℕ
ones = 0xFFFFFFFF

-- each item is a byte
abbrev pub IsBytes : List ℕ → Type 0
IsBytes bytes = (i : ℕ) → slice_index bytes i < 256

-- the bytes as one polynomial
abbrev pub polynomial_of : List ℕ → ℕ
polynomial_of [] = 0
polynomial_of (b ∷ bs) = b + 256 * polynomial_of bs

-- One step of the long division: where the highest power is there, the polynomial is taken away.
unfoldable pub divide_once : ℕ → ℕ
divide_once s = if s % 2 == 1 then bit_xor (s / 2) tail_of_polynomial else s / 2

-- What is left after n steps.
unfoldable pub divide : ℕ → ℕ → ℕ
divide zero s = s
divide (suc n) s = divide n (divide_once s)

-- The check of bytes behind a front whose check is `state`: the first 32 bits are complemented (for
-- no front: with ones), 32 zero bits stand behind the last byte, and the remainder is complemented.
unfoldable pub crc32_after : ℕ → List ℕ → ℕ
crc32_after state bytes =
    bit_xor ones (divide (8 * length bytes) (bit_xor (bit_xor ones state) (polynomial_of bytes)))

-- the check of bytes with nothing before them
unfoldable pub crc32_of : List ℕ → ℕ
crc32_of bytes = crc32_after 0 bytes

-- the product of two polynomials, of the first by its coefficients
abbrev pub times : List Bool → ℕ → ℕ
times [] p = 0
times (b ∷ bs) p = bit_xor (if b then p else 0) (2 * times bs p)

-- The dividend is a multiple of the polynomial and a rest below it, which is the complement of the
-- check and stands behind the 8 bits of each byte.
pub record IsRemainder (bytes : List ℕ) (check : ℕ) : Type 0 where
  pub quotient : List Bool
  pub size : length quotient ≡ 8 * length bytes
  pub divides :
      bit_xor ones (polynomial_of bytes)
      ≡ bit_xor (times quotient polynomial) (2 ^ (8 * length bytes) * bit_xor ones check)
  pub fits : check < 2 ^ 32
