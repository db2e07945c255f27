-- What is read of a window is what is read of the file.
use Rattle.std.proofs.Common.{◌≡◌, ℕ, ◌+◌, ◌-◌, ◌^◌, ◌<◌, ◌≤◌, List, [], ◌∷◌, ◌++◌, length, take}
use Rattle.std.proofs.Common.{drop, Bool, true, false, cond, nat_lt, not, ◌==◌, ◌&&◌, ◌||◌, Result}
use Rattle.std.proofs.Common.{Ok, Err, refl, sym, ◌∙◌, ap, arith}
use Rattle.std.proofs.lemmas.Bool.Decides.{nat_tests}
use Rattle.std.proofs.lemmas.List.{drop-append-le, take-append-le, take_rest, length-append}
use Rattle.std.proofs.lemmas.List.{length-drop}
use Rattle.byteorder.specs.Endian.{big_from, big_number}
use Rattle.byteorder.specs.Numbers.{big_from-take}
use Rattle.clog_spec.specs.Crc.{crc32_of}
use Rattle.clog_spec.specs.Segment.{marker_checked}
use Rattle.clog_spec.specs.Sizes.{marker_size, frame_size}
use Rattle.clog_entry.specs.declared.cause.Cause.{Cause}
use Rattle.clog_entry.specs.declared.cause.Cause.TheVariants.{Short, MarkerCheck, MarkerTarget}
use Rattle.clog_entry.specs.declared.marker.Marker.{Marker}
use Rattle.clog_entry.specs.declared.marker.Marker.TheVariants as markers
use Rattle.clog_entry.specs.Fields.{entry_front_size}
use Rattle.clog_entry.specs.Reading.{first_of, number_at, header_judged, header_read, marker_judged}
use Rattle.clog_entry.specs.Reading.{marker_read, size_judged, body_judged, then_ok, entry_read}
use Rattle.clog_entry.specs.Spelled.{IsEntryAt}
use Rattle.clog_entry.proofs.Pieces.{drop_more, number_back}
use Rattle.clog_scan.specs.Pieces.{IsAhead, IsWindow}

-- ---- numbers and pieces

number_less : (n : ℕ) (xs ys : List ℕ) → n ≤ length xs → big_number n (xs ++ ys) ≡ big_number n xs
number_less n xs ys enough =
    sym (big_from-take 0 n n (xs ++ ys) (omega arith))
    ∙ ap (big_from 0 n) (take-append-le n xs ys enough) ∙ big_from-take 0 n n xs (omega arith)

behind_ahead : (file window : List ℕ) (at k place : ℕ) (ahead : IsAhead file window at)
    → place ≡ at + k → k ≤ length window → drop place file ≡ drop k window ++ ahead.rest
behind_ahead file window at k place ahead is enough =
    ap (λ n. drop n file) is ∙ drop_more at k file ∙ ap (drop k) ahead.there
    ∙ drop-append-le k window ahead.rest enough

pub big_ahead : (n : ℕ) (file window : List ℕ) (at k place : ℕ) → IsAhead file window at
    → place ≡ at + k → k + n ≤ length window
    → big_number n (drop place file) ≡ big_number n (drop k window)
big_ahead n file window at k place ahead is enough =
    ap (big_number n) (behind_ahead file window at k place ahead is (omega (arith, enough)))
    ∙ number_less n (drop k window) ahead.rest (omega (arith, enough, length-drop k window))

pub piece_ahead : (n : ℕ) (file window : List ℕ) (at k place : ℕ) → IsAhead file window at
    → place ≡ at + k → k + n ≤ length window
    → take n (drop place file) ≡ take n (drop k window)
piece_ahead n file window at k place ahead is enough =
    ap (take n) (behind_ahead file window at k place ahead is (omega (arith, enough)))
    ∙ take-append-le n (drop k window) ahead.rest (omega (arith, enough, length-drop k window))

-- a number that is read of the rest of a window
pub number_from : (n : ℕ) (window : List ℕ) (k : ℕ)
    → big_number n (drop k window) ≡ big_number n (take (length window - k) (drop k window))
number_from n window k = ap (big_number n) (sym (take_rest window k))

-- what is left of a window stands behind what was read of it
pub window_on : (file : List ℕ) (len : ℕ) (window : List ℕ) (from at : ℕ)
    → IsWindow file len window from → from ≤ at → at - from ≤ length window
    → IsWindow file len (drop (at - from) window) at
window_on file len window from at is forward inside = record {
  is_file = is.is_file;
  len_is = is.len_is;
  ahead = record {
    rest = is.ahead.rest;
    there = behind_ahead file window from (at - from) at is.ahead (omega (arith, forward)) inside;
  };
}

-- ---- headers

judged : ℕ → ℕ → Result Unit Cause → Result Unit Cause
judged len size judgement =
    first_of ((nat_lt len 14, Err Short) ∷ (nat_lt len (18 + size), Err Short) ∷ []) judgement

header_read_is : (bytes : List ℕ) (id : ℕ) → header_read bytes id
    ≡ judged (length bytes) (big_number 2 (drop 12 bytes))
    (header_judged (number_at bytes 0) (big_number 8 (drop 4 bytes))
    (take (big_number 2 (drop 12 bytes)) (drop 14 bytes))
    (number_at bytes (14 + big_number 2 (drop 12 bytes))) id)
unfolding header_read judged
header_read_is bytes id = refl

opened : (len size : ℕ) (j : Result Unit Cause) → 18 + size ≤ len → judged len size j ≡ j
unfolding judged
opened len size j long =
    let a : nat_lt len 14 ≡ false = grind (arith, nat_tests) in
    let b : nat_lt len (18 + size) ≡ false = grind (arith, nat_tests) in
    rw (a, b) refl

either_short : (a b : Bool) (j : Result Unit Cause) → b ≡ true
    → cond a (Err Short) (cond b (Err Short) j) ≡ Err Short
either_short true b j is = refl
either_short false b j is = rw is refl

-- a file that ends before its header does
pub header_short : (file : List ℕ) (id size : ℕ) → big_number 2 (drop 12 file) ≡ size
    → length file < 18 + size → header_read file id ≡ Err Short
unfolding judged
header_short file id size is short =
    let n = big_number 2 (drop 12 file) in
    let b : nat_lt (length file) (18 + n) ≡ true = grind (arith, nat_tests) in
    header_read_is file id
    ∙ either_short (nat_lt (length file) 14) (nat_lt (length file) (18 + n)) _ b

pub header_bare : (file : List ℕ) (id : ℕ) → length file < 14 → header_read file id ≡ Err Short
unfolding judged
header_bare file id short =
    let a : nat_lt (length file) 14 ≡ true = grind (arith, nat_tests) in
    header_read_is file id ∙ (rw a refl)

pub header_same : (file window : List ℕ) (id : ℕ) → IsAhead file window 0
    → 18 + big_number 2 (drop 12 window) ≤ length window
    → header_read file id ≡ header_read window id
header_same file window id ahead long =
    let n = big_number 2 (drop 12 file) in
    let m = big_number 2 (drop 12 window) in
    let all : length window ≤ length file =
    omega (arith, ap length ahead.there, length-append window ahead.rest) in
    let size : n ≡ m = big_ahead 2 file window 0 12 12 ahead (omega arith) (omega (arith, long)) in
    let version = big_ahead 4 file window 0 0 0 ahead (omega arith) (omega (arith, long)) in
    let found = big_ahead 8 file window 0 4 4 ahead (omega arith) (omega (arith, long)) in
    let parameters : take n (drop 14 file) ≡ take m (drop 14 window) =
    ap (λ k. take k (drop 14 file)) size
    ∙ piece_ahead m file window 0 14 14 ahead (omega arith) (omega (arith, long)) in
    let check : number_at file (14 + n) ≡ number_at window (14 + m) =
    ap (λ k. number_at file (14 + k)) size
    ∙ big_ahead 4 file window 0 (14 + m) (14 + m) ahead (omega arith) (omega (arith, long)) in
    header_read_is file id
    ∙ opened (length file) n _ (omega (arith, long, size, all))
    ∙ (λ i. header_judged (version i) (found i) (parameters i) (check i) id)
    ∙ sym (opened (length window) m _ long)
    ∙ sym (header_read_is window id)

-- ---- markers

read_here : ℕ → ℕ → Result Marker Cause → Result Marker Cause
read_here len at judgement =
    first_of ((nat_lt len (at + marker_size), Ok markers.End) ∷ []) judgement

marker_read_is : (bytes : List ℕ) (id at : ℕ) → marker_read bytes id at
    ≡ read_here (length bytes) at
    (marker_judged (length bytes) id at (number_at bytes at) (number_at bytes (at + 4)))
unfolding marker_read read_here
marker_read_is bytes id at = refl

has_room : (len at : ℕ) (j : Result Marker Cause) → at + marker_size ≤ len → read_here len at j ≡ j
unfolding read_here
has_room len at j room =
    let a : nat_lt len (at + marker_size) ≡ false = grind (arith, nat_tests) in rw a refl

-- no marker fits the file
pub marker_none : (file : List ℕ) (id at : ℕ) → length file < at + marker_size
    → marker_read file id at ≡ Ok markers.End
unfolding read_here
marker_none file id at short =
    let a : nat_lt (length file) (at + marker_size) ≡ true = grind (arith, nat_tests) in
    marker_read_is file id at ∙ (rw a refl)

pub marker_ahead : (file : List ℕ) (len id : ℕ) (window : List ℕ) (at : ℕ)
    → IsWindow file len window at → marker_size ≤ length window → at + marker_size ≤ len
    → marker_read file id at
    ≡ marker_judged len id at (number_at window 0) (number_at window 4)
marker_ahead file len id window at is enough room =
    let target = big_ahead 4 file window at 0 at is.ahead (omega arith) (omega (arith, enough)) in
    let check = big_ahead 4 file window at 4 (at + 4) is.ahead (omega arith)
    (omega (arith, enough)) in
    marker_read_is file id at
    ∙ has_room (length file) at _ (omega (arith, room, is.len_is))
    ∙ (λ i. marker_judged (is.len_is i) id at (target i) (check i))

section_told : (a b c : Bool) (t e : ℕ)
    → cond a (Ok markers.End) (cond b (Err MarkerCheck) (cond c (Err (MarkerTarget t))
    (Ok (markers.Section t)))) ≡ Ok (markers.Section e)
    → (c ≡ false) × (t ≡ e)
section_told true b c t e h = absurd cc
section_told false true c t e h = absurd cc
section_told false false true t e h = absurd cc
section_told false false false t e h = (refl, cc)

-- the section of a marker that passes ends behind it, and within the file
pub marker_bounds : (len id at target check end : ℕ)
    → marker_judged len id at target check ≡ Ok (markers.Section end)
    → (at + marker_size ≤ end) × (end ≤ len)
unfolding marker_judged
marker_bounds len id at target check end h =
    let told = section_told ((target == 0) && (check == 0))
    (not (check == crc32_of (marker_checked id at)))
    (nat_lt target (at + marker_size) || nat_lt len target) target end h in
    let t = told.0 in
    let same = told.1 in
    let low : at + marker_size ≤ target = grind (arith, nat_tests) in
    let high : target ≤ len = grind (arith, nat_tests) in
    (omega (arith, low, same), omega (arith, high, same))

-- ---- entries

fits_front : ℕ → Result ℕ Cause → Result ℕ Cause
fits_front room judgement = first_of ((nat_lt room entry_front_size, Err Short) ∷ []) judgement

entry_read_is : (bytes : List ℕ) (at end : ℕ) → entry_read bytes at end
    ≡ fits_front (end - at)
    (then_ok (size_judged (end - at) (number_at bytes at) (number_at bytes (at + 4)))
    (body_judged (number_at bytes at)
    (number_at bytes (at + entry_front_size + number_at bytes at))
    (take (number_at bytes at) (drop (at + entry_front_size) bytes)))
    (number_at bytes at))
unfolding entry_read fits_front
entry_read_is bytes at end = refl

front_fits : (room : ℕ) (j : Result ℕ Cause) → entry_front_size ≤ room → fits_front room j ≡ j
unfolding fits_front
front_fits room j enough =
    let a : nat_lt room entry_front_size ≡ false = grind (arith, nat_tests) in rw a refl

pub entry_short : (file : List ℕ) (at end : ℕ) → end - at < entry_front_size
    → entry_read file at end ≡ Err Short
unfolding fits_front
entry_short file at end short =
    let a : nat_lt (end - at) entry_front_size ≡ true = grind (arith, nat_tests) in
    entry_read_is file at end ∙ (rw a refl)

size_ahead : (file window : List ℕ) (at : ℕ) → IsAhead file window at
    → entry_front_size ≤ length window → number_at file at ≡ number_at window 0
size_ahead file window at ahead enough =
    big_ahead 4 file window at 0 at ahead (omega arith) (omega (arith, enough))

check_ahead : (file window : List ℕ) (at : ℕ) → IsAhead file window at
    → entry_front_size ≤ length window → number_at file (at + 4) ≡ number_at window 4
check_ahead file window at ahead enough =
    big_ahead 4 file window at 4 (at + 4) ahead (omega arith) (omega (arith, enough))

pub entry_refused : (file window : List ℕ) (at end room : ℕ) (cause : Cause)
    → IsAhead file window at → end - at ≡ room → entry_front_size ≤ room
    → entry_front_size ≤ length window
    → size_judged room (number_at window 0) (number_at window 4) ≡ Err cause
    → entry_read file at end ≡ Err cause
entry_refused file window at end room cause ahead is fits enough refused =
    let size = size_ahead file window at ahead enough in
    let check = check_ahead file window at ahead enough in
    let judged_so : size_judged (end - at) (number_at file at) (number_at file (at + 4))
    ≡ Err cause =
    (λ i. size_judged (is i) (size i) (check i)) ∙ refused in
    entry_read_is file at end
    ∙ front_fits (end - at) _ (omega (arith, fits, is))
    ∙ ap (λ s. then_ok s (body_judged (number_at file at)
    (number_at file (at + entry_front_size + number_at file at))
    (take (number_at file at) (drop (at + entry_front_size) file))) (number_at file at)) judged_so

abbrev answers : Result Unit Cause → ℕ → Result ℕ Cause
answers r size = then_ok (Ok tt) r size

pub entry_judged : (file window : List ℕ) (at end room : ℕ) (r : Result Unit Cause)
    → IsAhead file window at → end - at ≡ room → entry_front_size ≤ room
    → frame_size + number_at window 0 ≤ length window
    → size_judged room (number_at window 0) (number_at window 4) ≡ Ok tt
    → body_judged (number_at window 0) (number_at window (entry_front_size + number_at window 0))
    (take (number_at window 0) (drop entry_front_size window)) ≡ r
    → entry_read file at end ≡ then_ok (Ok tt) r (number_at window 0)
entry_judged file window at end room r ahead is fits enough sized bodied =
    let n = number_at file at in
    let m = number_at window 0 in
    let front : entry_front_size ≤ length window = omega (arith, enough) in
    let size : n ≡ m = size_ahead file window at ahead front in
    let check = check_ahead file window at ahead front in
    let first : size_judged (end - at) n (number_at file (at + 4)) ≡ Ok tt =
    (λ i. size_judged (is i) (size i) (check i)) ∙ sized in
    let last : number_at file (at + entry_front_size + n)
    ≡ number_at window (entry_front_size + m) =
    ap (λ k. number_at file (at + entry_front_size + k)) size
    ∙ big_ahead 4 file window at (entry_front_size + m) (at + entry_front_size + m) ahead
    (omega arith) (omega (arith, enough)) in
    let payload : take n (drop (at + entry_front_size) file)
    ≡ take m (drop entry_front_size window) =
    ap (λ k. take k (drop (at + entry_front_size) file)) size
    ∙ piece_ahead m file window at entry_front_size (at + entry_front_size) ahead refl
    (omega (arith, enough)) in
    let second : body_judged n (number_at file (at + entry_front_size + n))
    (take n (drop (at + entry_front_size) file)) ≡ r =
    (λ i. body_judged (size i) (last i) (payload i)) ∙ bodied in
    entry_read_is file at end
    ∙ front_fits (end - at) _ (omega (arith, fits, is))
    ∙ (λ i. then_ok (first i) (second i) (size i))

-- the same of the numbers that were read, and the piece
pub entry_judged_at : (file window : List ℕ) (at end room n first last : ℕ)
    (r : Result Unit Cause) → IsAhead file window at → end - at ≡ room → entry_front_size ≤ room
    → frame_size + n ≤ length window → number_at window 0 ≡ n → number_at window 4 ≡ first
    → number_at window (entry_front_size + n) ≡ last
    → size_judged room n first ≡ Ok tt
    → body_judged n last (take (8 + n - 8) (drop 8 window)) ≡ r
    → entry_read file at end ≡ then_ok (Ok tt) r n
entry_judged_at file window at end room n first last r ahead is fits enough size_is first_is
    last_is sized bodied =
    let m = number_at window 0 in
    let less : 8 + n - 8 ≡ n = omega arith in
    let size : size_judged room m (number_at window 4) ≡ Ok tt =
    (λ i. size_judged room (size_is i) (first_is i)) ∙ sized in
    let behind : number_at window (entry_front_size + m) ≡ last =
    ap (λ k. number_at window (entry_front_size + k)) size_is ∙ last_is in
    let payload : take m (drop entry_front_size window) ≡ take (8 + n - 8) (drop 8 window) =
    ap (λ k. take k (drop entry_front_size window)) (size_is ∙ sym less) in
    entry_judged file window at end room r ahead is fits (omega (arith, enough, size_is)) size
    ((λ i. body_judged (size_is i) (behind i) (payload i)) ∙ bodied)
    ∙ ap (then_ok (Ok tt) r) size_is

-- the size of an entry that stands there is read in the window
pub size_there : (file window : List ℕ) (at end : ℕ) (p : List ℕ) → IsAhead file window at
    → entry_front_size ≤ length window → length p < 2 ^ 32 → IsEntryAt file at end p
    → number_at window 0 ≡ length p
size_there file window at end p ahead enough short is =
    sym (size_ahead file window at ahead enough) ∙ ap (big_number 4) is.spelled
    ∙ number_back (length p) [] short
