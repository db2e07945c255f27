-- What is read as an entry is one, and each entry is read.
use Rattle.std.proofs.Common.{
  ◌≡◌,
  ℕ,
  ◌+◌,
  ◌-◌,
  ◌^◌,
  ◌<◌,
  ◌≤◌,
  ◌==◌,
  Bool,
  true,
  false,
  not,
  cond,
  List,
  [],
  ◌∷◌,
  ◌++◌,
  length,
  take,
  drop,
  nat_lt,
  Result,
  Ok,
  Err,
  refl,
  sym,
  ◌∙◌,
  ap,
  subst,
  arith,
  append_assoc,
}
use Rattle.std.proofs.lemmas.List.{length-drop, length-take, take-append-drop}
use Rattle.std.proofs.lemmas.Bool.Decides.{nat_tests}
use Rattle.std.proofs.Math.Seq.{take-append_seam}
use Rattle.std.specs.Int.{w32, to_be_bytes}
use Rattle.byteorder.specs.Endian.{big_number}
use Rattle.clog_entry.specs.Fields.{entry_front_size}
use Rattle.clog_spec.specs.Crc.{IsBytes, crc32_of}
use Rattle.clog_spec.specs.Segment.{entry_bytes}
use Rattle.clog_entry.specs.declared.cause.Cause.{Cause}
use Rattle.clog_entry.specs.declared.cause.Cause.TheVariants.{
  Short,
  SizeUnder10,
  SizeCheck,
  BodyCheck,
  PastSection,
}
use Rattle.clog_entry.specs.Reading.{
  first_of,
  number_at,
  then_ok,
  size_judged,
  body_judged,
  entry_read,
}
use Rattle.clog_entry.specs.Spelled.{IsEntryAt, payload_at}
use Rattle.clog_spec.proofs.Bytes.{number-IsBytes, append-IsBytes, drop-IsBytes, front-IsBytes}
use Rattle.clog_entry.proofs.Pieces.{
  drop_more,
  behind,
  check_fits,
  number_back,
  number_here,
}
use Rattle.clog_spec.specs.Sizes.{frame_size, least_payload}

-- the rules on what was found: the size, the first check, the payload and the second check
judged : ℕ → ℕ → ℕ → ℕ → List ℕ → ℕ → Result ℕ Cause
judged at end size first payload second =
    first_of (
    (nat_lt (end - at) entry_front_size, Err Short)
    ∷ (nat_lt size least_payload, Err SizeUnder10)
    ∷ (not (first == crc32_of (to_be_bytes w32 size)), Err SizeCheck)
    ∷ (nat_lt (end - at) (frame_size + size), Err PastSection)
    ∷ (not (second == crc32_of (to_be_bytes w32 size ++ payload)), Err BodyCheck)
    ∷ [])
    (Ok size)

-- one judgement after another is one table of rules
through : (a b c d : Bool) (size : ℕ)
    → then_ok (cond a (Err SizeUnder10) (cond b (Err SizeCheck) (cond c (Err PastSection) (Ok tt))))
    (cond d (Err BodyCheck) (Ok tt)) size
    ≡ cond a (Err SizeUnder10) (cond b (Err SizeCheck)
    (cond c (Err PastSection) (cond d (Err BodyCheck) (Ok size))))
through true b c d size = refl
through false true c d size = refl
through false false true d size = refl
through false false false true size = refl
through false false false false size = refl

entry_read_is : (bytes : List ℕ) (at end : ℕ) → entry_read bytes at end
    ≡ judged at end (number_at bytes at) (number_at bytes (at + 4))
    (payload_at bytes at (number_at bytes at)) (number_at bytes
    (at + entry_front_size + number_at bytes at))
unfolding entry_read size_judged body_judged judged
entry_read_is bytes at end =
    let size = number_at bytes at in
    let first = number_at bytes (at + 4) in
    let second = number_at bytes (at + entry_front_size + size) in
    let payload = payload_at bytes at size in
    ap (λ later. cond (nat_lt (end - at) entry_front_size) (Err Short) later)
    (through (nat_lt size least_payload) (not (first == crc32_of (to_be_bytes w32 size)))
    (nat_lt (end - at) (frame_size + size)) (not (second == crc32_of (to_be_bytes w32 size
    ++ payload)))
    size)

-- no rule applied
none_applied : (a b c d e : Bool) (size n : ℕ)
    → cond a (Err Short) (cond b (Err SizeUnder10) (cond c (Err SizeCheck)
    (cond d (Err PastSection) (cond e (Err BodyCheck) (Ok size))))) ≡ Ok n
    → (a ≡ false) × (b ≡ false) × (c ≡ false) × (d ≡ false) × (e ≡ false) × (size ≡ n)
none_applied true b c d e size n h = absurd cc
none_applied false true c d e size n h = absurd cc
none_applied false false true d e size n h = absurd cc
none_applied false false false true e size n h = absurd cc
none_applied false false false false true size n h = absurd cc
none_applied false false false false false size n h = (refl, refl, refl, refl, refl, cc)

record Passed (at end size first : ℕ) (payload : List ℕ) (second n : ℕ) : Type 0 where
  room : entry_front_size ≤ end - at
  least : least_payload ≤ size
  first_is : first ≡ crc32_of (to_be_bytes w32 size)
  fits : at + frame_size + size ≤ end
  second_is : second ≡ crc32_of (to_be_bytes w32 size ++ payload)
  size_is : size ≡ n

passed : (at end size first : ℕ) (payload : List ℕ) (second n : ℕ)
    → judged at end size first payload second ≡ Ok n → Passed at end size first payload second n
unfolding judged
passed at end size first payload second n h =
    let tests = none_applied (nat_lt (end - at) entry_front_size) (nat_lt size least_payload)
    (not (first == crc32_of (to_be_bytes w32 size))) (nat_lt (end - at) (frame_size + size))
    (not (second == crc32_of (to_be_bytes w32 size ++ payload))) size n h in
    record {
      room = let t = tests.0 in grind (arith, nat_tests);
      least = let t = tests.1 in grind (arith, nat_tests);
      first_is = let t = tests.2 in grind (arith, nat_tests);
      fits = let t = tests.3 in grind (arith, nat_tests);
      second_is = let t = tests.4 in grind (arith, nat_tests);
      size_is = tests.5;
    }

passes : (at end size : ℕ) (payload : List ℕ) → least_payload ≤ size → at + frame_size + size ≤ end
    → judged at end size (crc32_of (to_be_bytes w32 size)) payload
    (crc32_of (to_be_bytes w32 size ++ payload)) ≡ Ok size
unfolding judged
passes at end size payload least fits =
    let room : nat_lt (end - at) entry_front_size ≡ false = grind (arith, nat_tests) in
    let enough : nat_lt size least_payload ≡ false = grind (arith, nat_tests) in
    let first : not (crc32_of (to_be_bytes w32 size) == crc32_of (to_be_bytes w32 size))
    ≡ false = grind (arith, nat_tests) in
    let within : nat_lt (end - at) (frame_size + size) ≡ false = grind (arith, nat_tests) in
    let second : not (crc32_of (to_be_bytes w32 size ++ payload)
    == crc32_of (to_be_bytes w32 size ++ payload)) ≡ false = grind (arith, nat_tests) in
    rw (room, enough, first, within, second) refl

joined : (a b p c r : List ℕ) → a ++ (b ++ (p ++ (c ++ r))) ≡ a ++ b ++ p ++ c ++ r
joined a b p c r =
    sym (append_assoc a b (p ++ (c ++ r))) ∙ sym (append_assoc (a ++ b) p (c ++ r))
    ∙ sym (append_assoc (a ++ b ++ p) c r)

-- what is read as an entry is one
pub entry_found : (bytes : List ℕ) (at end size : ℕ) → IsBytes bytes → end ≤ length bytes
    → entry_read bytes at end ≡ Ok size → IsEntryAt bytes at end (payload_at bytes at size)
entry_found bytes at end size are_bytes within h =
    let n = number_at bytes at in
    let p = payload_at bytes at n in
    let ok = passed at end n (number_at bytes (at + 4)) p (number_at bytes
    (at + entry_front_size + n)) size
    (sym (entry_read_is bytes at end) ∙ h) in
    let size_is : n ≡ size = ok.size_is in
    let long : at + frame_size + n ≤ length bytes = omega (arith, ok.fits, within) in
    let whole : length p ≡ n =
    omega (
      arith,
      long,
      length-take n (drop (at + entry_front_size) bytes),
      length-drop
          (at + entry_front_size) bytes,
    ) in
    let first = number_here bytes at (at + 4) are_bytes (omega (arith, long)) refl in
    let second = number_here bytes (at + 4) (at + entry_front_size) are_bytes (omega (arith, long))
    (omega arith) in
    let third : drop (at + entry_front_size) bytes ≡ p ++ drop (at + entry_front_size + n) bytes =
    sym (take-append-drop n (drop (at + entry_front_size) bytes))
    ∙ ap (λ rest. p ++ rest) (sym (drop_more (at + entry_front_size) n bytes)) in
    let fourth = number_here bytes (at + entry_front_size + n) (at + frame_size + n) are_bytes
    (omega (arith, long))
    (omega arith) in
    let a = to_be_bytes w32 n in
    let rest = drop (at + frame_size + n) bytes in
    let spelled : drop at bytes ≡ entry_bytes p ++ drop (at + frame_size + length p) bytes =
    first
    ∙ ap (λ l. a ++ l) (second ∙ ap (λ k. to_be_bytes w32 k
    ++ drop (at + entry_front_size) bytes) ok.first_is
    ∙ ap (λ l. to_be_bytes w32 (crc32_of a) ++ l) (third
    ∙ ap (λ l. p ++ l) (fourth ∙ ap (λ k. to_be_bytes w32 k ++ rest) ok.second_is)))
    ∙ joined a (to_be_bytes w32 (crc32_of a)) p (to_be_bytes w32 (crc32_of (a ++ p))) rest
    ∙ ap (λ k. to_be_bytes w32 k ++ to_be_bytes w32 (crc32_of (to_be_bytes w32 k)) ++ p
    ++ to_be_bytes w32 (crc32_of (to_be_bytes w32 k ++ p))
    ++ drop (at + frame_size + k) bytes) (sym whole)
    in
    let IsHere : ℕ → Type 0 = λ k. IsEntryAt bytes at end (payload_at bytes at k) in
    subst IsHere size_is (record {
      spelled = spelled;
      least = omega (arith, whole, ok.least);
      fits = omega (arith, whole, ok.fits);
    })

-- each entry is read
pub entry_again : (bytes : List ℕ) (at end : ℕ) (payload : List ℕ) → IsBytes bytes
    → length payload < 2 ^ 32 → IsEntryAt bytes at end payload
    → entry_read bytes at end ≡ Ok (length payload)
entry_again bytes at end payload are_bytes short is =
    let n = length payload in
    let a = to_be_bytes w32 n in
    let first = crc32_of a in
    let second = crc32_of (a ++ payload) in
    let b = to_be_bytes w32 first in
    let c = to_be_bytes w32 second in
    let rest = drop (at + frame_size + n) bytes in
    let here : drop at bytes ≡ a ++ (b ++ (payload ++ (c ++ rest))) =
    is.spelled ∙ sym (joined a b payload c rest) in
    let size_is : number_at bytes at ≡ n =
    ap (big_number 4) here ∙ number_back n (b ++ (payload ++ (c ++ rest))) short in
    let here1 : drop (at + 4) bytes ≡ b ++ (payload ++ (c ++ rest)) =
    behind bytes a (b ++ (payload ++ (c ++ rest))) at (at + 4) here refl in
    let first_is : number_at bytes (at + 4) ≡ first =
    ap (big_number 4) here1
    ∙ number_back first (payload ++ (c ++ rest)) (check_fits a (number-IsBytes n)) in
    let here2 : drop (at + entry_front_size) bytes ≡ payload ++ (c ++ rest) =
    behind bytes b (payload ++ (c ++ rest)) (at + 4) (at + entry_front_size) here1 (omega arith) in
    let payload_is : payload_at bytes at n ≡ payload =
    ap (take n) here2 ∙ take-append_seam payload (c ++ rest) in
    let fits : IsBytes payload = front-IsBytes payload (c ++ rest)
    (subst IsBytes here2 (drop-IsBytes (at + entry_front_size) bytes are_bytes)) in
    let here3 : drop (at + entry_front_size + n) bytes ≡ c ++ rest =
    behind bytes payload (c ++ rest) (at + entry_front_size)
    (at + entry_front_size + n) here2 refl in
    let second_is : number_at bytes (at + entry_front_size + n) ≡ second =
    ap (big_number 4) here3 ∙ number_back second rest
    (check_fits (a ++ payload) (append-IsBytes a payload (number-IsBytes n) fits)) in
    entry_read_is bytes at end
    ∙ ap (λ k. judged at end k (number_at bytes (at + 4)) (payload_at bytes at k)
    (number_at bytes (at + entry_front_size + k))) size_is
    ∙ ap (λ k. judged at end n k (payload_at bytes at n) (number_at bytes
    (at + entry_front_size + n))) first_is
    ∙ ap (λ l. judged at end n first l (number_at bytes (at + entry_front_size + n))) payload_is
    ∙ ap (judged at end n first payload) second_is
    ∙ passes at end n payload is.least is.fits

-- the payload of an entry lies 8 bytes behind its start
pub entry_payload : (bytes : List ℕ) (at end : ℕ) (payload : List ℕ)
    → IsEntryAt bytes at end payload → payload_at bytes at (length payload) ≡ payload
entry_payload bytes at end payload is =
    let n = length payload in
    let a = to_be_bytes w32 n in
    let b = to_be_bytes w32 (crc32_of a) in
    let c = to_be_bytes w32 (crc32_of (a ++ payload)) in
    let rest = drop (at + frame_size + n) bytes in
    let here : drop at bytes ≡ (a ++ b) ++ (payload ++ (c ++ rest)) =
    is.spelled ∙ sym (joined a b payload c rest) ∙ sym (append_assoc a b (payload ++ (c ++ rest)))
    in
    ap (take n) (behind bytes (a ++ b) (payload ++ (c ++ rest)) at
    (at + entry_front_size) here refl)
    ∙ take-append_seam payload (c ++ rest)
