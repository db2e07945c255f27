-- What is read as a header is one, and each header is read.
use Rattle.std.proofs.Common.{
  ◌≡◌,
  ℕ,
  ◌+◌,
  ◌^◌,
  ◌<◌,
  ◌≤◌,
  ◌==◌,
  Bool,
  true,
  false,
  not,
  cond,
  List,
  [],
  ◌∷◌,
  ◌++◌,
  length,
  take,
  drop,
  codes,
  nat_lt,
  Result,
  Ok,
  Err,
  refl,
  sym,
  ◌∙◌,
  ap,
  ap₂,
  arith,
  append_assoc,
  lit<,
}
use Rattle.std.proofs.lemmas.List.{length-drop, length-take, take-append-drop}
use Rattle.std.proofs.lemmas.Bool.Decides.{nat_tests}
use Rattle.std.proofs.lemmas.Slice.Eq.{bytes_eq-Decides}
use Rattle.std.specs.Str.{bytes_eq}
use Rattle.std.specs.Int.{w16, w32, w64, to_be_bytes}
use Rattle.byteorder.specs.Endian.{big_number}
use Rattle.clog_spec.specs.Crc.{IsBytes, crc32_of}
use Rattle.clog_spec.specs.Segment.{low_half, high_half, header_checked}
use Rattle.clog_entry.specs.declared.cause.Cause.{Cause}
use Rattle.clog_entry.specs.declared.cause.Cause.TheVariants.{
  Short,
  Version,
  Parameters,
  HeaderCheck,
  HeaderId,
}
use Rattle.clog_entry.specs.Fields.{header_fields}
use Rattle.clog_entry.specs.Reading.{first_of, number_at, header_judged, header_read}
use Rattle.clog_entry.specs.Spelled.{IsHeaderAt}
use Rattle.clog_spec.proofs.StoredBytes.{braces-IsBytes}
use Rattle.clog_spec.proofs.Bytes.{number-IsBytes, append-IsBytes}
use Rattle.clog_entry.proofs.Pieces.{
  check_fits,
  number_back,
  number_here,
  two_back,
  two_here,
  eight_back,
  eight_here,
  drop_more,
}

-- the rules on what was found: the length of the file, that of the parameters, and the judgement
judged : ℕ → ℕ → Result Unit Cause → Result Unit Cause
judged len size judgement =
    first_of ((nat_lt len 14, Err Short) ∷ (nat_lt len (18 + size), Err Short) ∷ []) judgement

header_read_is : (bytes : List ℕ) (id : ℕ) → header_read bytes id
    ≡ judged (length bytes) (big_number 2 (drop 12 bytes))
    (header_judged (number_at bytes 0) (big_number 8 (drop 4 bytes))
    (take (big_number 2 (drop 12 bytes)) (drop 14 bytes))
    (number_at bytes (14 + big_number 2 (drop 12 bytes))) id)
unfolding header_read judged
header_read_is bytes id = refl

abbrev pub all_fits : Result Unit Cause
all_fits = Ok tt

long_enough : (a b : Bool) (judgement : Result Unit Cause)
    → cond a (Err Short) (cond b (Err Short) judgement) ≡ Ok tt
    → (a ≡ false) × (b ≡ false) × (judgement ≡ Ok tt)
long_enough true b judgement h = absurd cc
long_enough false true judgement h = absurd cc
long_enough false false judgement h = (refl, refl, h)

none_applied : (a b c d : Bool) (version id : ℕ)
    → cond a (Err HeaderCheck) (cond b (Err (Version version)) (cond c (Err (HeaderId id))
    (cond d (Err Parameters) all_fits))) ≡ all_fits
    → (a ≡ false) × (b ≡ false) × (c ≡ false) × (d ≡ false)
none_applied true b c d version id h = absurd cc
none_applied false true c d version id h = absurd cc
none_applied false false true d version id h = absurd cc
none_applied false false false true version id h = absurd cc
none_applied false false false false version id h = (refl, refl, refl, refl)

record Fits (version found : ℕ) (parameters : List ℕ) (check id : ℕ) : Type 0 where
  check_is : check ≡ crc32_of (header_fields version found parameters)
  version_is : version ≡ 6
  id_is : found ≡ id
  parameters_are : parameters ≡ codes "{}"

not_false : (b : Bool) → not b ≡ false → b ≡ true
not_false true h = refl
not_false false h = absurd cc

fits_all : (version found : ℕ) (parameters : List ℕ) (check id : ℕ)
    → header_judged version found parameters check id ≡ Ok tt
    → Fits version found parameters check id
unfolding header_judged
fits_all version found parameters check id h =
    let tests = none_applied
    (not (check == crc32_of (header_fields version found parameters)))
    (not (version == 6)) (not (found == id)) (not (bytes_eq parameters (codes "{}")))
    version found h in
    record {
      check_is = let t = tests.0 in grind (arith, nat_tests);
      version_is = let t = tests.1 in grind (arith, nat_tests);
      id_is = let t = tests.2 in grind (arith, nat_tests);
      parameters_are = (bytes_eq-Decides parameters (codes "{}")).0
          (not_false (bytes_eq parameters (codes "{}")) tests.3);
    }

joined : (a b c d e r : List ℕ) → a ++ (b ++ (c ++ (d ++ (e ++ r)))) ≡ a ++ b ++ c ++ d ++ e ++ r
joined a b c d e r =
    sym (append_assoc a b (c ++ (d ++ (e ++ r)))) ∙ sym (append_assoc (a ++ b) c (d ++ (e ++ r)))
    ∙ sym (append_assoc (a ++ b ++ c) d (e ++ r)) ∙ sym (append_assoc (a ++ b ++ c ++ d) e r)

-- what is read as a header is one
pub header_found : (bytes : List ℕ) (id : ℕ) → IsBytes bytes → header_read bytes id ≡ Ok tt
    → IsHeaderAt bytes id
unfolding judged
header_found bytes id are_bytes h =
    let version = number_at bytes 0 in
    let found = big_number 8 (drop 4 bytes) in
    let size = big_number 2 (drop 12 bytes) in
    let parameters = take size (drop 14 bytes) in
    let check = number_at bytes (14 + size) in
    let long = long_enough (nat_lt (length bytes) 14) (nat_lt (length bytes) (18 + size))
    (header_judged version found parameters check id) (sym (header_read_is bytes id) ∙ h) in
    let all = fits_all version found parameters check id long.2 in
    let enough : 18 + size ≤ length bytes = let t = long.1 in grind (arith, nat_tests) in
    let whole : length parameters ≡ size =
    omega (arith, enough, length-take size (drop 14 bytes), length-drop 14 bytes) in
    let two : size ≡ 2 = sym whole ∙ ap length all.parameters_are in
    let first = number_here bytes 0 4 are_bytes (omega (arith, enough)) refl in
    let second = eight_here bytes 4 12 are_bytes (omega (arith, enough)) refl in
    let third = two_here bytes 12 14 are_bytes (omega (arith, enough)) refl in
    let fourth : drop 14 bytes ≡ codes "{}" ++ drop 16 bytes =
    sym (take-append-drop size (drop 14 bytes))
    ∙ ap₂ (λ (l r : List ℕ). l ++ r) all.parameters_are
    (ap (λ k. drop k (drop 14 bytes)) two ∙ sym (drop_more 14 2 bytes)) in
    let fifth = number_here bytes 16 20 are_bytes (omega (arith, enough, two)) refl in
    let check_is : number_at bytes 16 ≡ crc32_of (header_checked id) =
    ap (λ k. number_at bytes (14 + k)) (sym two) ∙ all.check_is
    ∙ ap₂ (λ (v : ℕ) (i : ℕ). crc32_of (header_fields v i parameters)) all.version_is all.id_is
    ∙ ap (λ l. crc32_of (header_fields 6 id l)) all.parameters_are in
    first
    ∙ ap₂ (λ (k : ℕ) (l : List ℕ). to_be_bytes w32 k ++ l) all.version_is (second
    ∙ ap₂ (λ (k : ℕ) (l : List ℕ). to_be_bytes w64 k ++ l) all.id_is (third
    ∙ ap₂ (λ (k : ℕ) (l : List ℕ). to_be_bytes w16 k ++ l) two (fourth
    ∙ ap (λ l. codes "{}" ++ l) (fifth
    ∙ ap (λ k. to_be_bytes w32 k ++ drop 20 bytes) check_is))))
    ∙ joined (to_be_bytes w32 6) (to_be_bytes w64 id) (to_be_bytes w16 2) (codes "{}")
    (to_be_bytes w32 (crc32_of (header_checked id))) (drop 20 bytes)

header_checked-IsBytes : (id : ℕ) → IsBytes (header_checked id)
header_checked-IsBytes id =
    let six = to_be_bytes w32 6 in
    let low = to_be_bytes w32 (low_half id) in
    let high = to_be_bytes w32 (high_half id) in
    let two = to_be_bytes w32 2 in
    append-IsBytes (six ++ low ++ high ++ two) (codes "{}")
    (append-IsBytes (six ++ low ++ high) two
    (append-IsBytes (six ++ low) high
    (append-IsBytes six low (number-IsBytes 6) (number-IsBytes (low_half id)))
    (number-IsBytes (high_half id))) (number-IsBytes 2)) braces-IsBytes

same_is : (n : ℕ) → not (n == n) ≡ false
same_is n = grind (arith, nat_tests)

passes : (id : ℕ) → header_judged 6 id (codes "{}") (crc32_of (header_checked id)) id ≡ Ok tt
unfolding header_judged
passes id = rw (same_is (crc32_of (header_checked id)), same_is id) refl

enough_is : (len : ℕ) (judgement : Result Unit Cause) → 20 ≤ len
    → judged len 2 judgement ≡ judgement
unfolding judged
enough_is len judgement enough =
    let first : nat_lt len 14 ≡ false = grind (arith, nat_tests) in
    let second : nat_lt len 20 ≡ false = grind (arith, nat_tests) in
    rw (first, second) refl

-- each header is read
pub header_again : (bytes : List ℕ) (id : ℕ) → id < 2 ^ 64 → IsHeaderAt bytes id
    → header_read bytes id ≡ Ok tt
header_again bytes id short is =
    let check = crc32_of (header_checked id) in
    let a = to_be_bytes w32 6 in
    let b = to_be_bytes w64 id in
    let c = to_be_bytes w16 2 in
    let d = codes "{}" in
    let e = to_be_bytes w32 check in
    let rest = drop 20 bytes in
    let here : bytes ≡ a ++ (b ++ (c ++ (d ++ (e ++ rest)))) =
    is ∙ sym (joined a b c d e rest) in
    let here4 : drop 4 bytes ≡ b ++ (c ++ (d ++ (e ++ rest))) = ap (drop 4) here in
    let here12 : drop 12 bytes ≡ c ++ (d ++ (e ++ rest)) = ap (drop 12) here in
    let here14 : drop 14 bytes ≡ d ++ (e ++ rest) = ap (drop 14) here in
    let here16 : drop 16 bytes ≡ e ++ rest = ap (drop 16) here in
    let version_is : number_at bytes 0 ≡ 6 =
    ap (big_number 4) here ∙ number_back 6 (b ++ (c ++ (d ++ (e ++ rest)))) (lit< tt) in
    let id_is : big_number 8 (drop 4 bytes) ≡ id =
    ap (big_number 8) here4 ∙ eight_back id (c ++ (d ++ (e ++ rest))) short in
    let size_is : big_number 2 (drop 12 bytes) ≡ 2 =
    ap (big_number 2) here12 ∙ two_back 2 (d ++ (e ++ rest)) (lit< tt) in
    let parameters_are : take 2 (drop 14 bytes) ≡ d = ap (take 2) here14 in
    let check_is : number_at bytes 16 ≡ check =
    ap (big_number 4) here16
    ∙ number_back check rest (check_fits (header_checked id) (header_checked-IsBytes id)) in
    let enough : 20 ≤ length bytes = omega (arith, ap length here) in
    header_read_is bytes id
    ∙ ap (λ k. judged (length bytes) k (header_judged (number_at bytes 0)
    (big_number 8 (drop 4 bytes)) (take k (drop 14 bytes)) (number_at bytes (14 + k)) id)) size_is
    ∙ enough_is (length bytes) (header_judged (number_at bytes 0) (big_number 8 (drop 4 bytes))
    (take 2 (drop 14 bytes)) (number_at bytes 16) id) enough
    ∙ ap₂ (λ (v i : ℕ). header_judged v i (take 2 (drop 14 bytes)) (number_at bytes 16) id)
    version_is id_is
    ∙ ap₂ (λ (l : List ℕ) (k : ℕ). header_judged 6 id l k id) parameters_are check_is
    ∙ passes id
