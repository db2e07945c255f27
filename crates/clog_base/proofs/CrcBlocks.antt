-- The division of a sum is the sum of the divisions, so eight bytes can be divided apart.
use Rattle.std.proofs.Common.{
  ◌≡◌,
  ℕ,
  zero,
  suc,
  ◌+◌,
  ◌*◌,
  ◌/◌,
  ◌%◌,
  ◌^◌,
  ◌<◌,
  ◌≤◌,
  List,
  [],
  ◌∷◌,
  length,
  get_or,
  drop,
  take,
  bit_xor,
  cond,
  eqb,
  refl,
  subst,
  sym,
  ◌∙◌,
  ap,
  ap₂,
  arith,
  drop-cons,
  length-drop,
}
use Rattle.std.proofs.lemmas.List.{drop_all, take-append-drop, length-take}
use Rattle.std.proofs.lemmas.Nat.{xor_comm, xor_mod, xor_shr}
use lib.Bits.{xor_assoc, xor_zero_r}
use Rattle.clog_spec.specs.Crc.{IsBytes, tail_of_polynomial, polynomial_of, divide_once, divide}
use Rattle.clog_spec.proofs.Bytes.{take-IsBytes, drop-IsBytes}
use Rattle.clog_spec.proofs.Divide.{
  xor_swap,
  xor_twice,
  divide-xor,
  divide-add,
  split_byte,
  register,
  register-nil,
  register-append,
}

-- one step, of a number's lowest bit and its half
step : ℕ → ℕ → ℕ
step bit half = cond (eqb bit 1) (bit_xor half tail_of_polynomial) half

step-xor : (p q g h : ℕ) → p < 2 → q < 2 → step (bit_xor p q) (bit_xor g h)
    ≡ bit_xor (step p g) (step q h)
unfolding step
step-xor zero zero g h fits_p fits_q = refl
step-xor zero (suc zero) g h fits_p fits_q = xor_assoc g h tail_of_polynomial
step-xor (suc zero) zero g h fits_p fits_q = xor_swap g h tail_of_polynomial
step-xor (suc zero) (suc zero) g h fits_p fits_q =
    sym (xor_assoc g tail_of_polynomial (bit_xor h tail_of_polynomial)
    ∙ ap (bit_xor g) (ap (bit_xor tail_of_polynomial) (xor_comm h tail_of_polynomial)
    ∙ xor_twice tail_of_polynomial h))
step-xor p (suc (suc q)) g h fits_p fits_q = absurd (omega arith)
step-xor (suc (suc p)) q g h fits_p fits_q = absurd (omega arith)

divide_once-sum : (a b : ℕ) → divide_once (bit_xor a b) ≡ bit_xor (divide_once a) (divide_once b)
unfolding divide_once step
divide_once-sum a b =
    ap₂ step (xor_mod a b 1) (xor_shr a b 1)
    ∙ step-xor (a % 2) (b % 2) (a / 2) (b / 2) (omega arith) (omega arith)

-- the division of a sum is the sum of the divisions
pub divide-sum : (k a b : ℕ) → divide k (bit_xor a b) ≡ bit_xor (divide k a) (divide k b)
unfolding divide
divide-sum zero a b = refl
divide-sum (suc k) a b = ap (divide k) (divide_once-sum a b)
    ∙ divide-sum k (divide_once a) (divide_once b)

-- nothing stands before the first
nothing_and : (b : ℕ) → bit_xor 0 b ≡ b
nothing_and b = xor_comm 0 b ∙ xor_zero_r b

-- eight steps take a multiple of 256 down
divide_eight : (h : ℕ) → divide 8 (h * 256) ≡ h
unfolding divide divide_once
divide_eight h =
    ap (divide 8) (sym (nothing_and (h * 256)))
    ∙ divide-xor 8 0 h ∙ nothing_and h

-- the first byte is divided apart, with the zeros of those behind it
register-apart : (c b : ℕ) (bytes : List ℕ) → b < 256 → register c (b ∷ bytes)
    ≡ bit_xor (divide (8 * length (b ∷ bytes)) (bit_xor (c % 256) b)) (register (c / 256) bytes)
unfolding register
register-apart c b bytes fits =
    let r = polynomial_of bytes in
    let x = bit_xor c (b + 256 * r) in
    let n = 8 * length bytes in
    let e : 8 * length (b ∷ bytes) ≡ 8 + n = omega arith in
    let low : x % 256 ≡ bit_xor (c % 256) b =
    xor_mod c (b + 256 * r) 8 ∙ ap (bit_xor (c % 256)) (omega arith) in
    let high : x / 256 ≡ bit_xor (c / 256) r =
    xor_shr c (b + 256 * r) 8 ∙ ap (bit_xor (c / 256)) (omega arith) in
    let taken : divide (8 + n) (x / 256 * 256) ≡ divide n (bit_xor (c / 256) r) =
    divide-add 8 n (x / 256 * 256) ∙ ap (divide n) (divide_eight (x / 256) ∙ high) in
    ap (divide (8 * length (b ∷ bytes))) (split_byte x)
    ∙ divide-sum (8 * length (b ∷ bytes)) (x % 256) (x / 256 * 256)
    ∙ ap₂ bit_xor (ap (divide (8 * length (b ∷ bytes))) low)
    (ap (λ k. divide k (x / 256 * 256)) e ∙ taken)

-- the next byte goes into a sum
apart : (sum c : ℕ) (bytes : List ℕ) (i n : ℕ) → IsBytes bytes → length bytes ≡ i + suc n
    → bit_xor sum (register c (drop i bytes))
    ≡ bit_xor (bit_xor sum (divide (8 * suc n) (bit_xor (c % 256) (get_or bytes i 0))))
    (register (c / 256) (drop (suc i) bytes))
apart sum c bytes i n fits size =
    let b = get_or bytes i 0 in
    let more : i < length bytes = omega (arith, size) in
    let e : length (b ∷ drop (suc i) bytes) ≡ suc n =
    omega (arith, size, length-drop (suc i) bytes) in
    ap (λ l. bit_xor sum (register c l)) (drop-cons bytes i 0 more)
    ∙ ap (bit_xor sum) (register-apart c b (drop (suc i) bytes) (fits i)
    ∙ ap (λ k. bit_xor (divide (8 * k) (bit_xor (c % 256) b))
    (register (c / 256) (drop (suc i) bytes))) e)
    ∙ sym (xor_assoc sum (divide (8 * suc n) (bit_xor (c % 256) b))
    (register (c / 256) (drop (suc i) bytes)))

-- the next byte goes into a sum, past the register
apart_past : (sum : ℕ) (bytes : List ℕ) (i n : ℕ) → IsBytes bytes → length bytes ≡ i + suc n
    → bit_xor sum (register 0 (drop i bytes))
    ≡ bit_xor (bit_xor sum (divide (8 * suc n) (get_or bytes i 0)))
    (register 0 (drop (suc i) bytes))
apart_past sum bytes i n fits size =
    apart sum 0 bytes i n fits size
    ∙ ap (λ b. bit_xor (bit_xor sum (divide (8 * suc n) b)) (register 0 (drop (suc i) bytes)))
    (nothing_and (get_or bytes i 0))

-- eight bytes, each apart; the register lies over the first four
pub register-eight : (c : ℕ) (bytes : List ℕ) → IsBytes bytes → length bytes ≡ 8 → c < 2 ^ 32
    → register c bytes
    ≡ bit_xor (bit_xor (bit_xor (bit_xor (bit_xor (bit_xor (bit_xor
    (divide 64 (bit_xor (c % 256) (get_or bytes 0 0)))
    (divide 56 (bit_xor (c / 256 % 256) (get_or bytes 1 0))))
    (divide 48 (bit_xor (c / 65536 % 256) (get_or bytes 2 0))))
    (divide 40 (bit_xor (c / 16777216 % 256) (get_or bytes 3 0))))
    (divide 32 (get_or bytes 4 0)))
    (divide 24 (get_or bytes 5 0)))
    (divide 16 (get_or bytes 6 0)))
    (divide 8 (get_or bytes 7 0))
register-eight c bytes fits size fits_c =
    let s0 = divide 64 (bit_xor (c % 256) (get_or bytes 0 0)) in
    let s1 = bit_xor s0 (divide 56 (bit_xor (c / 256 % 256) (get_or bytes 1 0))) in
    let s2 = bit_xor s1 (divide 48 (bit_xor (c / 65536 % 256) (get_or bytes 2 0))) in
    let s3 = bit_xor s2 (divide 40 (bit_xor (c / 16777216 % 256) (get_or bytes 3 0))) in
    let s4 = bit_xor s3 (divide 32 (get_or bytes 4 0)) in
    let s5 = bit_xor s4 (divide 24 (get_or bytes 5 0)) in
    let s6 = bit_xor s5 (divide 16 (get_or bytes 6 0)) in
    let s7 = bit_xor s6 (divide 8 (get_or bytes 7 0)) in
    let second : c / 256 / 256 ≡ c / 65536 = omega arith in
    let third : c / 65536 / 256 ≡ c / 16777216 = omega arith in
    let fourth : c / 16777216 / 256 ≡ 0 = omega arith in
    let none : drop 8 bytes ≡ [] = drop_all 8 bytes (omega (arith, size)) in
    sym (nothing_and (register c bytes))
    ∙ apart 0 c bytes 0 7 fits size
    ∙ ap (λ x. bit_xor x (register (c / 256) (drop 1 bytes))) (nothing_and s0)
    ∙ apart s0 (c / 256) bytes 1 6 fits size
    ∙ ap (λ k. bit_xor s1 (register k (drop 2 bytes))) second
    ∙ apart s1 (c / 65536) bytes 2 5 fits size
    ∙ ap (λ k. bit_xor s2 (register k (drop 3 bytes))) third
    ∙ apart s2 (c / 16777216) bytes 3 4 fits size
    ∙ ap (λ k. bit_xor s3 (register k (drop 4 bytes))) fourth
    ∙ apart_past s3 bytes 4 3 fits size
    ∙ apart_past s4 bytes 5 2 fits size
    ∙ apart_past s5 bytes 6 1 fits size
    ∙ apart_past s6 bytes 7 0 fits size
    ∙ ap (bit_xor s7) (ap (register 0) none ∙ register-nil 0) ∙ xor_zero_r s7

-- what is behind a front of bytes is bytes
pub bytes_behind : (n : ℕ) (bytes back : List ℕ) → back ≡ drop n bytes → IsBytes bytes
    → IsBytes back
bytes_behind n bytes back is fits = subst IsBytes (sym is) (drop-IsBytes n bytes fits)

-- a block goes into the register
pub register-block : (c : ℕ) (block behind bytes : List ℕ) → IsBytes bytes
    → block ≡ take 8 bytes → behind ≡ drop 8 bytes → 8 ≤ length bytes
    → register (divide 64 (bit_xor c (polynomial_of block))) behind ≡ register c bytes
unfolding register
register-block c block behind bytes fits is_block is_behind enough =
    let size : length block ≡ 8 = omega (arith, ap length is_block, length-take 8 bytes) in
    ap (λ n. register (divide (8 * n) (bit_xor c (polynomial_of block))) behind) (sym size)
    ∙ ap₂ (λ front. register (register c front)) is_block is_behind
    ∙ sym (register-append c (take 8 bytes) (drop 8 bytes) (take-IsBytes 8 bytes fits))
    ∙ ap (register c) (take-append-drop 8 bytes)
