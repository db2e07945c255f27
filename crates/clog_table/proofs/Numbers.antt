-- Numbers of four and eight bytes at the front of others.
use Rattle.std.proofs.Common.{
  ◌≡◌,
  ℕ,
  ◌<◌,
  ◌≤◌,
  ◌^◌,
  List,
  [],
  ◌∷◌,
  length,
  take,
  refl,
  sym,
  ap,
  ◌∙◌,
  arith,
}
use Rattle.std.specs.Int.{w32, w64, to_be_bytes, from_be_bytes}
use Rattle.std.proofs.lemmas.Nat.{
  be_bytes_4,
  be_bytes_8,
  from_be_bytes-to_be_bytes_4,
}
use Rattle.std.proofs.lemmas.List.{length-take-le}
use Rattle.byteorder.specs.Endian.{big_number}
use Rattle.clog_spec.specs.Crc.{IsBytes}
use Rattle.clog_spec.proofs.Bytes.{take-IsBytes}

pub four_at : (bs : List ℕ) → 4 ≤ length bs → from_be_bytes w32 bs ≡ from_be_bytes w32 (take 4 bs)
four_at [] h = absurd (omega arith)
four_at (a ∷ []) h = absurd (omega arith)
four_at (a ∷ b ∷ []) h = absurd (omega arith)
four_at (a ∷ b ∷ c ∷ []) h = absurd (omega arith)
four_at (a ∷ b ∷ c ∷ d ∷ bs) h = refl

eight_at : (bs : List ℕ) → 8 ≤ length bs → from_be_bytes w64 bs ≡ from_be_bytes w64 (take 8 bs)
eight_at [] h = absurd (omega arith)
eight_at (a ∷ []) h = absurd (omega arith)
eight_at (a ∷ b ∷ []) h = absurd (omega arith)
eight_at (a ∷ b ∷ c ∷ []) h = absurd (omega arith)
eight_at (a ∷ b ∷ c ∷ d ∷ []) h = absurd (omega arith)
eight_at (a ∷ b ∷ c ∷ d ∷ e ∷ []) h = absurd (omega arith)
eight_at (a ∷ b ∷ c ∷ d ∷ e ∷ f ∷ []) h = absurd (omega arith)
eight_at (a ∷ b ∷ c ∷ d ∷ e ∷ f ∷ g ∷ []) h = absurd (omega arith)
eight_at (a ∷ b ∷ c ∷ d ∷ e ∷ f ∷ g ∷ i ∷ bs) h = refl

-- the first four bytes are those of the number that they are read as
pub four_spelled : (bs : List ℕ) → 4 ≤ length bs → IsBytes bs
    → take 4 bs ≡ to_be_bytes w32 (from_be_bytes w32 bs)
four_spelled bs h fits =
    sym (be_bytes_4 (take 4 bs) (from_be_bytes w32 bs) (length-take-le 4 bs h) (take-IsBytes 4 bs
    fits) (four_at bs h))

pub eight_spelled : (bs : List ℕ) → 8 ≤ length bs → IsBytes bs
    → take 8 bs ≡ to_be_bytes w64 (from_be_bytes w64 bs)
eight_spelled bs h fits =
    sym (be_bytes_8 (take 8 bs) (from_be_bytes w64 bs) (length-take-le 8 bs h) (take-IsBytes 8 bs
    fits) (eight_at bs h))

pub four_below : (bs : List ℕ) → IsBytes bs → from_be_bytes w32 bs < 2 ^ 32
four_below bs fits = omega (arith, fits 0, fits 1, fits 2, fits 3)

pub eight_below : (bs : List ℕ) → IsBytes bs → from_be_bytes w64 bs < 2 ^ 64
eight_below bs fits =
    omega (arith, fits 0, fits 1, fits 2, fits 3, fits 4, fits 5, fits 6, fits 7)

-- two numbers of four bytes that are spelled alike are the same
pub four_once : (m n : ℕ) → m < 2 ^ 32 → n < 2 ^ 32 → to_be_bytes w32 m ≡ to_be_bytes w32 n → m ≡ n
four_once m n fits_m fits_n e =
    sym (from_be_bytes-to_be_bytes_4 m fits_m) ∙ ap (from_be_bytes w32) e
    ∙ from_be_bytes-to_be_bytes_4 n fits_n

pub big_is : (bs : List ℕ) → big_number 4 bs ≡ from_be_bytes w32 bs
big_is bs = omega arith
