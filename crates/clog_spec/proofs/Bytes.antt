-- Lists of bytes: numbers, texts, and lists joined and cut.
use Rattle.std.proofs.Common.{
  ◌≡◌,
  ℕ,
  zero,
  suc,
  ◌+◌,
  ◌/◌,
  ◌<◌,
  List,
  [],
  ◌∷◌,
  ◌++◌,
  take,
  drop,
  Bool,
  true,
  false,
  cond,
  nat_lt,
  lit<,
  inl,
  inr,
  refl,
  subst,
  arith,
}
use Rattle.std.specs.Prelude.{IsUtf8}
use Rattle.std.specs.Int.{w16, w32, w64, to_be_bytes}
use Rattle.std.specs.Int.{bytes_high_first, byte_at as number_byte}
use Rattle.std.proofs.Math.Utf8.{encode, encodes, scalar, scalars, next, scalar_cases}
use Rattle.std.proofs.lemmas.Bool.{and_parts}
use Rattle.std.proofs.lemmas.Bool.Decides.{nat_tests}
use Rattle.clog_spec.specs.Crc.{IsBytes}

pub bytes-nil : IsBytes []
bytes-nil i = lit< tt

pub bytes-cons : (b : ℕ) (bytes : List ℕ) → b < 256 → IsBytes bytes → IsBytes (b ∷ bytes)
bytes-cons b bytes first rest zero = first
bytes-cons b bytes first rest (suc i) = rest i

-- ---- joined and cut

pub append-IsBytes : (xs ys : List ℕ) → IsBytes xs → IsBytes ys → IsBytes (xs ++ ys)
append-IsBytes [] ys p q i = q i
append-IsBytes (x ∷ xs) ys p q zero = p zero
append-IsBytes (x ∷ xs) ys p q (suc i) = append-IsBytes xs ys (λ j. p (suc j)) q i

pub drop-IsBytes : (n : ℕ) (bytes : List ℕ) → IsBytes bytes → IsBytes (drop n bytes)
drop-IsBytes zero bytes fits i = fits i
drop-IsBytes (suc n) [] fits i = lit< tt
drop-IsBytes (suc n) (b ∷ bytes) fits i = drop-IsBytes n bytes (λ j. fits (suc j)) i

pub take-IsBytes : (n : ℕ) (bytes : List ℕ) → IsBytes bytes → IsBytes (take n bytes)
take-IsBytes zero bytes fits i = lit< tt
take-IsBytes (suc n) [] fits i = lit< tt
take-IsBytes (suc n) (b ∷ bytes) fits zero = fits 0
take-IsBytes (suc n) (b ∷ bytes) fits (suc i) = take-IsBytes n bytes (λ j. fits (suc j)) i

pub front-IsBytes : (front back : List ℕ) → IsBytes (front ++ back) → IsBytes front
front-IsBytes [] back fits i = lit< tt
front-IsBytes (b ∷ front) back fits zero = fits 0
front-IsBytes (b ∷ front) back fits (suc i) = front-IsBytes front back (λ j. fits (suc j)) i

pub back-IsBytes : (front back : List ℕ) → IsBytes (front ++ back) → IsBytes back
back-IsBytes [] back fits i = fits i
back-IsBytes (b ∷ front) back fits i = back-IsBytes front back (λ j. fits (suc j)) i

-- ---- numbers

low_byte : (k n : ℕ) → number_byte k n < 256
low_byte zero n = omega arith
low_byte (suc k) n = omega arith

high_first : (k n : ℕ) → IsBytes (bytes_high_first k n)
high_first zero n = bytes-nil
high_first (suc k) n =
    bytes-cons (number_byte k n) (bytes_high_first k n) (low_byte k n) (high_first k n)

-- the bytes of a number, of two, four and eight
pub short_number : (n : ℕ) → IsBytes (to_be_bytes w16 n)
short_number n = high_first 2 n

pub number-IsBytes : (n : ℕ) → IsBytes (to_be_bytes w32 n)
number-IsBytes n = high_first 4 n

pub long_number : (n : ℕ) → IsBytes (to_be_bytes w64 n)
long_number n = high_first 8 n

-- ---- texts

-- of the list that a test chooses
chosen : (test : Bool) (xs ys : List ℕ) → (test ≡ true → IsBytes xs) → (test ≡ false → IsBytes ys)
    → IsBytes (cond test xs ys)
chosen true xs ys p q = p refl
chosen false xs ys p q = q refl

later_byte : (n : ℕ) → next n < 256
later_byte n = omega arith

scalar_is_low : (c : ℕ) → scalar c ≡ true → c < 1114112
scalar_is_low c is = elim (scalar_cases c is) [
  | inl low ↦ omega (arith, low)
  | inr high ↦ omega (arith, high.1)
]

pub one_byte-IsBytes : (a : ℕ) → a < 256 → IsBytes (a ∷ [])
one_byte-IsBytes a fits = bytes-cons a [] fits bytes-nil

two_bytes : (a b : ℕ) → a < 256 → b < 256 → IsBytes (a ∷ b ∷ [])
two_bytes a b fits more = bytes-cons a (b ∷ []) fits (one_byte-IsBytes b more)

three_bytes : (a b c : ℕ) → a < 256 → b < 256 → c < 256 → IsBytes (a ∷ b ∷ c ∷ [])
three_bytes a b c fits second third =
    bytes-cons a (b ∷ c ∷ []) fits (two_bytes b c second third)

four_bytes : (a b c d : ℕ) → a < 256 → b < 256 → c < 256 → d < 256
    → IsBytes (a ∷ b ∷ c ∷ d ∷ [])
four_bytes a b c d fits second third fourth =
    bytes-cons a (b ∷ c ∷ d ∷ []) fits (three_bytes b c d second third fourth)

char_bytes : (c : ℕ) → c < 1114112 → IsBytes (encode c)
unfolding encode
char_bytes c low =
    chosen (nat_lt c 128) _ _
    (λ one. let small : c < 128 = grind (arith, nat_tests) in
    one_byte-IsBytes c (omega (arith, small)))
    (λ more. chosen (nat_lt c 2048) _ _
    (λ two. let small : c < 2048 = grind (arith, nat_tests) in
    two_bytes (192 + c / 64) (next c) (omega (arith, small)) (later_byte c))
    (λ more. chosen (nat_lt c 65536) _ _
    (λ three. let small : c < 65536 = grind (arith, nat_tests) in
    three_bytes (224 + c / 4096) (next (c / 64)) (next c) (omega (arith, small))
    (later_byte (c / 64)) (later_byte c))
    (λ four. four_bytes (240 + c / 262144) (next (c / 4096)) (next (c / 64)) (next c)
    (omega (arith, low)) (later_byte (c / 4096)) (later_byte (c / 64)) (later_byte c))))

chars_bytes : (cs : List ℕ) → scalars cs ≡ true → IsBytes (encodes cs)
chars_bytes [] are = bytes-nil
chars_bytes (c ∷ cs) are =
    let parts = and_parts (scalar c) (scalars cs) are in
    append-IsBytes (encode c) (encodes cs) (char_bytes c (scalar_is_low c parts.0))
    (chars_bytes cs parts.1)

-- the bytes of a text
pub text_bytes : (text : List ℕ) → IsUtf8 text → IsBytes text
text_bytes text utf8 = subst IsBytes utf8.1.1 (chars_bytes utf8.0 utf8.1.0)
