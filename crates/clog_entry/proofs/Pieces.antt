-- Pieces of bytes, and the numbers in them.
use Rattle.std.proofs.Common.{
  ◌≡◌,
  ℕ,
  zero,
  suc,
  ◌+◌,
  ◌^◌,
  ◌<◌,
  ◌≤◌,
  List,
  [],
  ◌∷◌,
  ◌++◌,
  length,
  drop,
  refl,
  sym,
  ◌∙◌,
  ap,
  arith,
}
use Rattle.std.proofs.lemmas.List.{drop_all, length-drop}
use Rattle.std.proofs.lemmas.Nat.{be_bytes_2, be_bytes_4, be_bytes_8}
use Rattle.std.proofs.Math.Seq.{drop-append_seam}
use Rattle.std.specs.Int.{w16, w32, w64, to_be_bytes}
use Rattle.byteorder.specs.Endian.{big_number}
use Rattle.byteorder.specs.Numbers.{big_number-reads_back}
use Rattle.clog_spec.specs.Crc.{IsBytes, crc32_of}
use Rattle.clog_spec.proofs.Bytes.{drop-IsBytes, front-IsBytes}
use Rattle.clog_spec.proofs.Divide.{crc32_of_is_remainder}
use Rattle.clog_entry.specs.Reading.{number_at}

pub drop_more : (n m : ℕ) (l : List ℕ) → drop (n + m) l ≡ drop m (drop n l)
drop_more zero m l = let e : 0 + m ≡ m = omega arith in ap (λ k. drop k l) e
drop_more (suc n) m [] =
    let e : suc n + m ≡ suc (n + m) = omega arith in
    ap (λ k. drop k []) e ∙ sym (drop_all m [] (omega arith))
drop_more (suc n) m (x ∷ l) =
    let e : suc n + m ≡ suc (n + m) = omega arith in
    ap (λ k. drop k (x ∷ l)) e ∙ drop_more n m l

-- what stands behind a front that is known
pub behind : (bytes front rest : List ℕ) (at next : ℕ) → drop at bytes ≡ front ++ rest
    → next ≡ at + length front → drop next bytes ≡ rest
behind bytes front rest at next is where_ =
    ap (λ k. drop k bytes) where_ ∙ drop_more at (length front) bytes
    ∙ ap (drop (length front)) is ∙ drop-append_seam front rest

-- a check has four bytes
pub check_fits : (bytes : List ℕ) → IsBytes bytes → crc32_of bytes < 2 ^ 32
check_fits bytes fits = (crc32_of_is_remainder bytes fits).fits

-- the number in the first four bytes, and the bytes behind them
pub number_back : (n : ℕ) (rest : List ℕ) → n < 2 ^ 32
    → big_number 4 (to_be_bytes w32 n ++ rest) ≡ n
number_back n rest fits = big_number-reads_back 4 n rest fits

four : (a b c d : ℕ) → IsBytes (a ∷ b ∷ c ∷ d ∷ [])
    → to_be_bytes w32 (big_number 4 (a ∷ b ∷ c ∷ d ∷ [])) ≡ a ∷ b ∷ c ∷ d ∷ []
four a b c d fits = be_bytes_4 (a ∷ b ∷ c ∷ d ∷ []) _ refl fits (omega arith)

number_front : (s : List ℕ) → IsBytes s → 4 ≤ length s
    → s ≡ to_be_bytes w32 (big_number 4 s) ++ drop 4 s
number_front [] fits enough = absurd (omega arith)
number_front (a ∷ []) fits enough = absurd (omega arith)
number_front (a ∷ b ∷ []) fits enough = absurd (omega arith)
number_front (a ∷ b ∷ c ∷ []) fits enough = absurd (omega arith)
number_front (a ∷ b ∷ c ∷ d ∷ s) fits enough =
    ap (λ front. front ++ s)
    (sym (four a b c d (front-IsBytes (a ∷ b ∷ c ∷ d ∷ []) s fits)))

-- four bytes are the number in them
pub number_here : (bytes : List ℕ) (at next : ℕ) → IsBytes bytes → at + 4 ≤ length bytes
    → next ≡ at + 4
    → drop at bytes ≡ to_be_bytes w32 (number_at bytes at) ++ drop next bytes
number_here bytes at next fits enough is_next =
    number_front (drop at bytes) (drop-IsBytes at bytes fits) (omega (arith, length-drop at bytes))
    ∙ ap (λ rest. to_be_bytes w32 (number_at bytes at) ++ rest)
    (sym (ap (λ k. drop k bytes) is_next ∙ drop_more at 4 bytes))

-- the same of two bytes, and of eight
pub two_back : (n : ℕ) (rest : List ℕ) → n < 2 ^ 16
    → big_number 2 (to_be_bytes w16 n ++ rest) ≡ n
two_back n rest fits = big_number-reads_back 2 n rest fits

pub eight_back : (n : ℕ) (rest : List ℕ) → n < 2 ^ 64
    → big_number 8 (to_be_bytes w64 n ++ rest) ≡ n
eight_back n rest fits = big_number-reads_back 8 n rest fits

two_front : (s : List ℕ) → IsBytes s → 2 ≤ length s
    → s ≡ to_be_bytes w16 (big_number 2 s) ++ drop 2 s
two_front [] fits enough = absurd (omega arith)
two_front (a ∷ []) fits enough = absurd (omega arith)
two_front (a ∷ b ∷ s) fits enough =
    ap (λ front. front ++ s)
    (sym (be_bytes_2 (a ∷ b ∷ []) _ refl (front-IsBytes (a ∷ b ∷ []) s fits) (omega arith)))

pub two_here : (bytes : List ℕ) (at next : ℕ) → IsBytes bytes → at + 2 ≤ length bytes
    → next ≡ at + 2
    → drop at bytes ≡ to_be_bytes w16 (big_number 2 (drop at bytes)) ++ drop next bytes
two_here bytes at next fits enough is_next =
    two_front (drop at bytes) (drop-IsBytes at bytes fits) (omega (arith, length-drop at bytes))
    ∙ ap (λ rest. to_be_bytes w16 (big_number 2 (drop at bytes)) ++ rest)
    (sym (ap (λ k. drop k bytes) is_next ∙ drop_more at 2 bytes))

eight_front : (s : List ℕ) → IsBytes s → 8 ≤ length s
    → s ≡ to_be_bytes w64 (big_number 8 s) ++ drop 8 s
eight_front [] fits enough = absurd (omega arith)
eight_front (a ∷ []) fits enough = absurd (omega arith)
eight_front (a ∷ b ∷ []) fits enough = absurd (omega arith)
eight_front (a ∷ b ∷ c ∷ []) fits enough = absurd (omega arith)
eight_front (a ∷ b ∷ c ∷ d ∷ []) fits enough = absurd (omega arith)
eight_front (a ∷ b ∷ c ∷ d ∷ e ∷ []) fits enough = absurd (omega arith)
eight_front (a ∷ b ∷ c ∷ d ∷ e ∷ f ∷ []) fits enough = absurd (omega arith)
eight_front (a ∷ b ∷ c ∷ d ∷ e ∷ f ∷ g ∷ []) fits enough = absurd (omega arith)
eight_front (a ∷ b ∷ c ∷ d ∷ e ∷ f ∷ g ∷ h ∷ s) fits enough =
    ap (λ front. front ++ s)
    (sym (be_bytes_8 (a ∷ b ∷ c ∷ d ∷ e ∷ f ∷ g ∷ h ∷ []) _ refl
    (front-IsBytes (a ∷ b ∷ c ∷ d ∷ e ∷ f ∷ g ∷ h ∷ []) s fits) (omega arith)))

pub eight_here : (bytes : List ℕ) (at next : ℕ) → IsBytes bytes → at + 8 ≤ length bytes
    → next ≡ at + 8
    → drop at bytes ≡ to_be_bytes w64 (big_number 8 (drop at bytes)) ++ drop next bytes
eight_here bytes at next fits enough is_next =
    eight_front (drop at bytes) (drop-IsBytes at bytes fits) (omega (arith, length-drop at bytes))
    ∙ ap (λ rest. to_be_bytes w64 (big_number 8 (drop at bytes)) ++ rest)
    (sym (ap (λ k. drop k bytes) is_next ∙ drop_more at 8 bytes))
