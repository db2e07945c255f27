-- Long division over bits: what it does to a sum, and a byte at a time.
use Rattle.std.proofs.Common.{
  bit_and,
  drop,
  drop-cons,
  add-one,
  get_or,
  inl,
  inr,
  ◌≢◌,
  ◌≡◌,
  ℕ,
  zero,
  suc,
  ◌+◌,
  ◌*◌,
  ◌/◌,
  ◌%◌,
  ◌^◌,
  ◌<◌,
  ◌≤◌,
  List,
  [],
  ◌∷◌,
  ◌++◌,
  length,
  bit_xor,
  Bool,
  true,
  false,
  cond,
  eqb,
  refl,
  sym,
  ◌∙◌,
  ap,
  subst,
  arith,
  zero-add,
  lit<,
  codes,
  replicate,
}
use Rattle.std.proofs.lemmas.List.{drop_all}
use Rattle.std.proofs.lemmas.Nat.{
  xor_comm,
  xor_mod,
  xor_shr,
  and_mask,
  pow-add,
  xor_block,
  xor_lt,
  xor_of_32,
}
use Rattle.std.proofs.Math.Nat.{pow-suc, pow-succ', mul_assoc}
use Rattle.std.proofs.Math.Pow.{pow_mono}
use Rattle.std.proofs.lemmas.Bool.Decides.{eqb_tells}
use lib.Bits.{xor_assoc, xor_zero_r, xor_shifted, xor_self}
use Rattle.clog_spec.specs.Crc.{
  IsBytes,
  tail_of_polynomial,
  polynomial_of,
  divide_once,
  divide,
  crc32_after,
  crc32_of,
  ones,
  polynomial,
  times,
  IsRemainder,
}

-- two parts of a sum change places
pub xor_swap : (a b c : ℕ) → bit_xor (bit_xor a b) c ≡ bit_xor (bit_xor a c) b
xor_swap a b c = xor_assoc a b c ∙ ap (bit_xor a) (xor_comm b c) ∙ sym (xor_assoc a c b)

pub parity_xor : (a h : ℕ) → bit_xor a (h * 2) % 2 ≡ a % 2
parity_xor a h = xor_mod a (h * 2) 1 ∙ ap (λ x. bit_xor (a % 2) x) (omega arith)
    ∙ xor_zero_r (a % 2)

pub half_xor : (a h : ℕ) → bit_xor a (h * 2) / 2 ≡ bit_xor (a / 2) h
half_xor a h = xor_shr a (h * 2) 1 ∙ ap (bit_xor (a / 2)) (omega arith)

cond_xor : (b : Bool) (a h : ℕ) → cond b (bit_xor (bit_xor a h) tail_of_polynomial) (bit_xor a h)
    ≡ bit_xor (cond b (bit_xor a tail_of_polynomial) a) h
cond_xor true a h = xor_swap a h tail_of_polynomial
cond_xor false a h = refl

pub divide_once-xor : (a h : ℕ) → divide_once (bit_xor a (h * 2)) ≡ bit_xor (divide_once a) h
unfolding divide_once
divide_once-xor a h = rw (parity_xor a h, half_xor a h) (cond_xor (eqb (a % 2) 1) (a / 2) h)

pow_double : (h k : ℕ) → h * 2 ^ suc k ≡ h * 2 ^ k * 2
pow_double h k = ap (λ x. h * x) (pow-suc 2 k) ∙ sym (mul_assoc h (2 ^ k) 2)

pub divide-xor : (k a h : ℕ) → divide k (bit_xor a (h * 2 ^ k)) ≡ bit_xor (divide k a) h
unfolding divide
divide-xor zero a h = ap (bit_xor a) (omega arith)
divide-xor (suc k) a h =
    let e : h * 2 ^ suc k ≡ h * 2 ^ k * 2 = pow_double h k in
    ap (λ x. divide k (divide_once (bit_xor a x))) e ∙ ap (divide k) (divide_once-xor a
    (h * 2 ^ k)) ∙ divide-xor k (divide_once a) h

pub divide-add : (m n s : ℕ) → divide (m + n) s ≡ divide n (divide m s)
unfolding divide
divide-add zero n s = let e : 0 + n ≡ n = omega arith in ap (λ k. divide k s) e
divide-add (suc m) n s =
    let e : suc m + n ≡ suc (m + n) = omega arith in
    ap (λ k. divide k s) e ∙ divide-add m n (divide_once s)

-- a number is the sum of its low eight bits and of the others
pub split_byte : (x : ℕ) → x ≡ bit_xor (x % 256) (x / 256 * 256)
split_byte x =
    let low : x % 256 < 2 ^ 8 = omega arith in
    sym (xor_comm (x % 256) (x / 256 * 256) ∙ xor_shifted (x / 256) 8 (x % 256) low ∙ omega arith)

pub join_byte : (b r : ℕ) → b < 256 → b + 256 * r ≡ bit_xor b (r * 256)
join_byte b r h = omega arith ∙ sym (xor_shifted r 8 b h) ∙ xor_comm (r * 256) b

-- what the table has to hold takes in eight bits at once
pub divide_byte : (c b : ℕ) → b < 256 → divide 8 (bit_xor c b)
    ≡ bit_xor (divide 8 (bit_xor c b % 256)) (c / 256)
divide_byte c b h =
    let high : bit_xor c b / 256 ≡ c / 256 = xor_shr c b 8 ∙ ap (bit_xor (c / 256)) (omega arith)
    ∙ xor_zero_r (c / 256) in
    ap (divide 8) (split_byte (bit_xor c b)) ∙ divide-xor 8 (bit_xor c b % 256)
    (bit_xor c b / 256) ∙ ap (bit_xor (divide 8 (bit_xor c b % 256))) high

-- the rest after the division of a register and the bytes behind it
unfoldable pub register : ℕ → List ℕ → ℕ
register c bytes = divide (8 * length bytes) (bit_xor c (polynomial_of bytes))

pub register-nil : (c : ℕ) → register c [] ≡ c
unfolding register divide
register-nil c = xor_zero_r c

pub register-cons : (c b : ℕ) (bs : List ℕ) → b < 256 → register c (b ∷ bs)
    ≡ register (bit_xor (divide 8 (bit_xor c b % 256)) (c / 256)) bs
unfolding register
register-cons c b bs h =
    let r = polynomial_of bs in
    let e : 8 * length (b ∷ bs) ≡ 8 + 8 * length bs = omega arith in
    ap (λ k. divide k (bit_xor c (b + 256 * r))) e
    ∙ divide-add 8 (8 * length bs) (bit_xor c (b + 256 * r))
    ∙ ap (λ x. divide (8 * length bs) (divide 8 (bit_xor c x))) (join_byte b r h)
    ∙ ap (λ x. divide (8 * length bs) (divide 8 x)) (sym (xor_assoc c b (r * 256)))
    ∙ ap (divide (8 * length bs)) (divide-xor 8 (bit_xor c b) r
    ∙ ap (λ x. bit_xor x r) (divide_byte c b h))

pub register-append : (c : ℕ) (front bytes : List ℕ) → IsBytes front
    → register c (front ++ bytes) ≡ register (register c front) bytes
register-append c [] bytes fits = ap (λ x. register x bytes) (sym (register-nil c))
register-append c (b ∷ front) bytes fits =
    let c' = bit_xor (divide 8 (bit_xor c b % 256)) (c / 256) in
    register-cons c b (front ++ bytes) (fits 0) ∙ register-append c' front bytes (λ i. fits (suc i))
    ∙ ap (λ x. register x bytes) (sym (register-cons c b front (fits 0)))

pub xor_twice : (a b : ℕ) → bit_xor a (bit_xor a b) ≡ b
xor_twice a b = sym (xor_assoc a a b) ∙ ap (λ x. bit_xor x b) (xor_self a)

pub crc32_after_is : (state : ℕ) (bytes : List ℕ) → crc32_after state bytes
    ≡ bit_xor ones (register (bit_xor ones state) bytes)
unfolding crc32_after register
crc32_after_is state bytes = refl

pub crc32_of-continues : (front bytes : List ℕ) → IsBytes front
    → crc32_after (crc32_of front) bytes ≡ crc32_of (front ++ bytes)
unfolding crc32_of
crc32_of-continues front bytes fits =
    crc32_after_is (crc32_after 0 front) bytes
    ∙ ap (λ x. bit_xor ones (register (bit_xor ones x) bytes)) (crc32_after_is 0 front)
    ∙ ap (λ x. bit_xor ones (register x bytes)) (xor_twice ones (register ones front))
    ∙ ap (bit_xor ones) (sym (register-append ones front bytes fits))
    ∙ sym (crc32_after_is 0 (front ++ bytes))

double_xor : (a b : ℕ) → 2 * bit_xor a b ≡ bit_xor (2 * a) (2 * b)
double_xor a b =
    let l : a * 2 ^ 1 + 0 ≡ 2 * a = omega arith in
    let r : b * 2 ^ 1 + 0 ≡ 2 * b = omega arith in
    omega arith ∙ sym (xor_block 1 a b 0 0 (omega arith) (omega arith))
    ∙ ap (λ x. bit_xor x (b * 2 ^ 1 + 0)) l ∙ ap (bit_xor (2 * a)) r

once_back_odd : (s : ℕ) → s % 2 ≡ 1 → s ≡ bit_xor polynomial (2 * bit_xor
    (s / 2) tail_of_polynomial)
once_back_odd s h =
    let one : 1 < 2 ^ 1 = omega arith in
    let e : s ≡ s / 2 * 2 ^ 1 + 1 = omega arith in
    let d : s / 2 * 2 ^ 1 ≡ 2 * (s / 2) = omega arith in
    let p : bit_xor polynomial (2 * tail_of_polynomial) ≡ 1 = refl in
    e ∙ sym (xor_shifted (s / 2) 1 1 one)
    ∙ ap (λ x. bit_xor x 1) d ∙ xor_comm (2 * (s / 2)) 1
    ∙ ap (λ x. bit_xor x (2 * (s / 2))) (sym p)
    ∙ xor_swap polynomial (2 * tail_of_polynomial) (2 * (s / 2))
    ∙ xor_assoc polynomial (2 * (s / 2)) (2 * tail_of_polynomial)
    ∙ ap (bit_xor polynomial) (sym (double_xor (s / 2) tail_of_polynomial))

once_back : (s : ℕ) → s ≡ bit_xor (cond (eqb (s % 2) 1) polynomial 0) (2 * divide_once s)
unfolding divide_once
once_back s = elim (eqb_tells (s % 2) 1) [
  | inl odd ↦ rw odd.0 (once_back_odd s odd.1)
  | inr even ↦ let rest : s % 2 ≢ 1 = even.1 in rw even.0 (omega arith)
]

-- the coefficients of what was taken away
pub quotient_of : ℕ → ℕ → List Bool
quotient_of zero s = []
quotient_of (suc n) s = eqb (s % 2) 1 ∷ quotient_of n (divide_once s)

pub length-quotient_of : (n s : ℕ) → length (quotient_of n s) ≡ n
unfolding quotient_of
length-quotient_of zero s = refl
length-quotient_of (suc n) s = ap suc (length-quotient_of n (divide_once s))

pub divided : (n s : ℕ) → s ≡ bit_xor (times (quotient_of n s) polynomial) (2 ^ n * divide n s)
unfolding quotient_of divide
divided zero s = omega arith
divided (suc n) s =
    let b = cond (eqb (s % 2) 1) polynomial 0 in
    let t = times (quotient_of n (divide_once s)) polynomial in
    let r = divide n (divide_once s) in
    let e : 2 * (2 ^ n * r) ≡ 2 ^ suc n * r = sym (mul_assoc 2 (2 ^ n) r)
    ∙ ap (λ x. x * r) (sym (pow-succ' 2 n)) in
    once_back s ∙ ap (λ x. bit_xor b (2 * x)) (divided n (divide_once s))
    ∙ ap (bit_xor b) (double_xor t (2 ^ n * r) ∙ ap (bit_xor (2 * t)) e)
    ∙ sym (xor_assoc b (2 * t) (2 ^ suc n * r))

-- what is below a power is below a greater one
below_power : (i j n : ℕ) → i ≤ j → n < 2 ^ i → n < 2 ^ j
below_power i j n order fits = omega (arith, pow_mono order, fits)

-- one step keeps a number below a power from the 32nd on, and takes a bit off it
divide_once-lt : (m s : ℕ) → 32 ≤ m → s < 2 ^ suc m → divide_once s < 2 ^ m
unfolding divide_once
divide_once-lt m s wide fits =
    let half : s / 2 < 2 ^ m =
    let e : 2 ^ suc m ≡ 2 * 2 ^ m = pow-succ' 2 m in omega (arith, e, fits) in
    let tail : tail_of_polynomial < 2 ^ m = below_power 32 m tail_of_polynomial wide (lit< tt) in
    elim (eqb (s % 2) 1) as (λ b. cond b (bit_xor (s / 2) tail_of_polynomial) (s / 2) < 2 ^ m) [
      | true ↦ xor_lt m (s / 2) tail_of_polynomial half tail
      | false ↦ half
    ]

-- what n steps leave of a number of n + 32 bits has 32 bits
divide-lt : (n s : ℕ) → s < 2 ^ (n + 32) → divide n s < 2 ^ 32
unfolding divide
divide-lt zero s fits = let P : ℕ → Type 0 = λ k. s < 2 ^ k in subst P (zero-add 32) fits
divide-lt (suc n) s fits =
    let P : ℕ → Type 0 = λ k. s < 2 ^ k in
    let e : suc n + 32 ≡ suc (n + 32) = omega arith in
    divide-lt n (divide_once s) (divide_once-lt (n + 32) s (omega arith) (subst P e fits))

-- the polynomial of n bytes has 8 n bits
polynomial_of-lt : (bytes : List ℕ) → IsBytes bytes → polynomial_of bytes < 2 ^ (8 * length bytes)
polynomial_of-lt [] fits = lit< tt
polynomial_of-lt (b ∷ bytes) fits =
    let rest : polynomial_of bytes < 2 ^ (8 * length bytes) =
    polynomial_of-lt bytes (λ i. fits (suc i)) in
    let e : 8 * length (b ∷ bytes) ≡ 8 + 8 * length bytes = omega arith in
    let w : 2 ^ (8 * length (b ∷ bytes)) ≡ 256 * 2 ^ (8 * length bytes) =
    ap (λ k. 2 ^ k) e ∙ pow-add 2 8 (8 * length bytes) in
    omega (arith, rest, w, fits 0)

pub crc32_of_is_remainder : (bytes : List ℕ) → IsBytes bytes → IsRemainder bytes (crc32_of bytes)
unfolding crc32_of crc32_after
crc32_of_is_remainder bytes are_bytes =
    let n = 8 * length bytes in
    let s = bit_xor ones (polynomial_of bytes) in
    let front : ones < 2 ^ (n + 32) = below_power 32 (n + 32) ones (omega arith) (lit< tt) in
    let behind : polynomial_of bytes < 2 ^ (n + 32) = below_power n (n + 32) (polynomial_of bytes)
    (omega arith) (polynomial_of-lt bytes are_bytes) in
    record {
      quotient = quotient_of n s;
      size = length-quotient_of n s;
      divides = divided n s
          ∙ ap (λ x. bit_xor (times (quotient_of n s) polynomial) (2 ^ n * x))
          (sym (xor_twice ones (divide n s)));
      fits = xor_of_32 ones (divide n s) (lit< tt)
          (divide-lt n s (xor_lt (n + 32) ones (polynomial_of bytes) front behind));
    }

pub crc32_of-digits : crc32_of (codes "123456789") ≡ 0xcbf43926
unfolding crc32_of crc32_after divide divide_once
crc32_of-digits = refl

pub crc32_of-four_zeros : crc32_of (replicate 4 0) ≡ 0x2144df1c
unfolding crc32_of crc32_after divide divide_once
crc32_of-four_zeros = refl

pub crc32_of-nothing : crc32_of [] ≡ 0
unfolding crc32_of crc32_after divide
crc32_of-nothing = refl

-- one byte of a string goes into the register
pub register_more : (c : ℕ) (bytes : List ℕ) (i : ℕ) → i < length bytes → get_or bytes i 0 < 256
    → register (bit_xor (divide 8 (bit_and (bit_xor c (get_or bytes i 0)) 255)) (c / 256)) (drop
    (i + 1) bytes) ≡ register c (drop i bytes)
register_more c bytes i h fits =
    let low = and_mask (bit_xor c (get_or bytes i 0)) 8 in
    ap (λ x. register (bit_xor (divide 8 x) (c / 256)) (drop (i + 1) bytes)) low
    ∙ sym (register-cons c (get_or bytes i 0) (drop (i + 1) bytes) fits)
    ∙ ap (register c) (rw (add-one, drop-cons bytes i 0))

-- nothing is left behind the end
pub register_all : (c : ℕ) (bytes : List ℕ) (i : ℕ) → length bytes ≤ i
    → register c (drop i bytes) ≡ c
register_all c bytes i h = ap (register c) (drop_all i bytes h) ∙ register-nil c
