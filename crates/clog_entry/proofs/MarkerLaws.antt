-- What is read as a marker is one, and each marker is read.
use Rattle.std.proofs.Common.{
  ◌≡◌,
  ℕ,
  ◌+◌,
  ◌^◌,
  ◌<◌,
  ◌≤◌,
  ◌==◌,
  ◌&&◌,
  ◌||◌,
  Bool,
  true,
  false,
  not,
  cond,
  List,
  [],
  ◌∷◌,
  ◌++◌,
  length,
  drop,
  nat_lt,
  Result,
  Ok,
  Err,
  refl,
  sym,
  ◌∙◌,
  ap,
  ap₂,
  arith,
  append_assoc,
}
use Rattle.std.proofs.lemmas.Bool.Decides.{nat_tests}
use Rattle.std.specs.Int.{w32, to_be_bytes}
use Rattle.byteorder.specs.Endian.{big_number}
use Rattle.clog_spec.specs.Crc.{IsBytes, crc32_of}
use Rattle.clog_spec.specs.Segment.{low_half, high_half, marker_checked}
use Rattle.clog_entry.specs.declared.cause.Cause.{Cause}
use Rattle.clog_entry.specs.declared.cause.Cause.TheVariants.{MarkerCheck, MarkerTarget}
use Rattle.clog_entry.specs.declared.marker.Marker.{Marker}
use Rattle.clog_entry.specs.declared.marker.Marker.TheVariants.{End, Section}
use Rattle.clog_entry.specs.Reading.{first_of, number_at, marker_judged, marker_read}
use Rattle.clog_entry.specs.Spelled.{IsMarkerAt}
use Rattle.clog_spec.proofs.Bytes.{number-IsBytes, append-IsBytes}
use Rattle.clog_entry.proofs.Pieces.{behind, check_fits, number_back, number_here}
use Rattle.clog_spec.specs.Sizes.{marker_size}

-- the rules on what was found: the length of the file, the target and the check
judged : ℕ → ℕ → ℕ → ℕ → ℕ → Result Marker Cause
judged id at len target check =
    first_of (
    (nat_lt len (at + marker_size), Ok End)
    ∷ ((target == 0) && (check == 0), Ok End)
    ∷ (not (check == crc32_of (marker_checked id at)), Err MarkerCheck)
    ∷ (nat_lt target (at + marker_size) || nat_lt len target, Err (MarkerTarget target))
    ∷ [])
    (Ok (Section target))

marker_read_is : (bytes : List ℕ) (id at : ℕ) → marker_read bytes id at
    ≡ judged id at (length bytes) (number_at bytes at) (number_at bytes (at + 4))
unfolding marker_read marker_judged judged
marker_read_is bytes id at = refl

-- no rule applied
none_applied : (a b c d : Bool) (target end : ℕ)
    → cond a (Ok End) (cond b (Ok End) (cond c (Err MarkerCheck)
    (cond d (Err (MarkerTarget target)) (Ok (Section target))))) ≡ Ok (Section end)
    → (a ≡ false) × (c ≡ false) × (d ≡ false) × (target ≡ end)
none_applied true b c d target end h = absurd cc
none_applied false true c d target end h = absurd cc
none_applied false false true d target end h = absurd cc
none_applied false false false true target end h = absurd cc
none_applied false false false false target end h = (refl, refl, refl, cc)

record Passed (id at len target check end : ℕ) : Type 0 where
  room : at + marker_size ≤ len
  check_is : check ≡ crc32_of (marker_checked id at)
  behind_it : at + marker_size ≤ target
  within : target ≤ len
  target_is : target ≡ end

passed : (id at len target check end : ℕ) → judged id at len target check ≡ Ok (Section end)
    → Passed id at len target check end
unfolding judged
passed id at len target check end h =
    let tests = none_applied (nat_lt len (at + marker_size)) ((target == 0) && (check == 0))
    (not (check == crc32_of (marker_checked id at)))
    (nat_lt target (at + marker_size) || nat_lt len target) target end h in
    record {
      room = let t = tests.0 in grind (arith, nat_tests);
      check_is = let t = tests.1 in grind (arith, nat_tests);
      behind_it = let t = tests.2 in grind (arith, nat_tests);
      within = let t = tests.2 in grind (arith, nat_tests);
      target_is = tests.3;
    }

passes : (id at len target : ℕ) → at + marker_size ≤ target → target ≤ len
    → judged id at len target (crc32_of (marker_checked id at)) ≡ Ok (Section target)
unfolding judged
passes id at len target behind_it within =
    let check = crc32_of (marker_checked id at) in
    let room : nat_lt len (at + marker_size) ≡ false = grind (arith, nat_tests) in
    let more : (target == 0) && (check == 0) ≡ false = grind (arith, nat_tests) in
    let same : not (check == check) ≡ false = grind (arith, nat_tests) in
    let fits : nat_lt target (at + marker_size) || nat_lt len target
    ≡ false = grind (arith, nat_tests) in
    rw (room, more, same, fits) refl

-- what is read as a marker is one
pub marker_found : (bytes : List ℕ) (id at end : ℕ) → IsBytes bytes
    → marker_read bytes id at ≡ Ok (Section end) → IsMarkerAt bytes id at end
marker_found bytes id at end are_bytes h =
    let target = number_at bytes at in
    let check = number_at bytes (at + 4) in
    let ok = passed id at (length bytes) target check end
    (sym (marker_read_is bytes id at) ∙ h) in
    let target_is : target ≡ end = ok.target_is in
    let first = number_here bytes at (at + 4) are_bytes (omega (arith, ok.room)) refl in
    let second = number_here bytes (at + 4) (at + marker_size) are_bytes (omega (arith, ok.room))
    (omega arith) in
    record {
      spelled = first
          ∙ ap (λ l. to_be_bytes w32 target ++ l) second
          ∙ sym (append_assoc (to_be_bytes w32 target) (to_be_bytes w32 check)
          (drop (at + marker_size) bytes))
          ∙ ap₂ (λ (t c : ℕ). to_be_bytes w32 t ++ to_be_bytes w32 c
          ++ drop (at + marker_size) bytes)
          target_is ok.check_is;
      behind = omega (arith, target_is, ok.behind_it);
      within = omega (arith, target_is, ok.within);
    }

marker_checked-IsBytes : (id at : ℕ) → IsBytes (marker_checked id at)
marker_checked-IsBytes id at =
    let low = to_be_bytes w32 (low_half id) in
    let high = to_be_bytes w32 (high_half id) in
    append-IsBytes (low ++ high) (to_be_bytes w32 at)
    (append-IsBytes low high (number-IsBytes (low_half id)) (number-IsBytes (high_half id)))
    (number-IsBytes at)

-- each marker is read
pub marker_again : (bytes : List ℕ) (id at end : ℕ) → end < 2 ^ 32 → IsMarkerAt bytes id at end
    → marker_read bytes id at ≡ Ok (Section end)
marker_again bytes id at end short is =
    let check = crc32_of (marker_checked id at) in
    let a = to_be_bytes w32 end in
    let b = to_be_bytes w32 check in
    let rest = drop (at + marker_size) bytes in
    let here : drop at bytes ≡ a ++ (b ++ rest) = is.spelled ∙ append_assoc a b rest in
    let target_is : number_at bytes at ≡ end =
    ap (big_number 4) here ∙ number_back end (b ++ rest) short in
    let here1 : drop (at + 4) bytes ≡ b ++ rest =
    behind bytes a (b ++ rest) at (at + 4) here refl in
    let check_is : number_at bytes (at + 4) ≡ check =
    ap (big_number 4) here1
    ∙ number_back check rest (check_fits (marker_checked id at) (marker_checked-IsBytes id at)) in
    marker_read_is bytes id at
    ∙ ap₂ (λ (t c : ℕ). judged id at (length bytes) t c) target_is check_is
    ∙ passes id at (length bytes) end is.behind is.within
