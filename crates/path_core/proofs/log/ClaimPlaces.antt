-- Where an entry or a marker of some bytes stands that is claimed at a log key, whether it fits
-- there or not.
use Rattle.std.proofs.Common.{◌≡◌, ℕ, ◌+◌, ◌/◌, ◌<◌, ◌≤◌, Bool, true, false, cond, refl, arith}
use Rattle.std.proofs.lemmas.Bool.{ltb-true, cond_both}
use Rattle.path_core.specs.Keys.{
  ordinal_of,
  offset_of,
  first_offset,
  marker_size,
  next_segment,
  fits,
  entry_start,
  marker_end,
  behind_marker,
}

-- where a claim of some bytes stands at a log key
pub record IsPlacedAt (capacity key size start : ℕ) : Type 0 where
  pub above : key ≤ start
  pub behind_front : first_offset ≤ offset_of start
  pub room : offset_of start + size < capacity
  pub near : ordinal_of start ≤ ordinal_of key + 1

try_here : (capacity key size : ℕ) → first_offset ≤ offset_of key → offset_of key + size < capacity
    → IsPlacedAt capacity key size key
try_here capacity key size front room = record {
  above = omega arith;
  behind_front = front;
  room = room;
  near = omega arith;
}

next_offset : (key : ℕ) → offset_of (next_segment key) ≡ 28
next_offset key = omega arith

next_ordinal : (key : ℕ) → ordinal_of (next_segment key) ≡ ordinal_of key + 1
next_ordinal key = omega arith

try_next : (capacity key size : ℕ) → 28 + size < capacity
    → IsPlacedAt capacity key size (next_segment key)
try_next capacity key size room =
    let o = next_offset key in
    let n = next_ordinal key in
    record {
      above = omega arith;
      behind_front = omega arith;
      room = omega arith;
      near = omega arith;
    }

-- An entry claim of a size that may be stands so, whether it fits or not.
pub entry_placed : (capacity key size : ℕ) → 4096 ≤ capacity → size ≤ capacity / 2
    → first_offset ≤ offset_of key → IsPlacedAt capacity key size (entry_start capacity key size)
entry_placed capacity key size large small front =
    cond_both (fits capacity key size) key (next_segment key) (IsPlacedAt capacity key size)
    (λ e. let room = ltb-true (offset_of key + size) capacity e in
    try_here capacity key size front room)
    (λ e. try_next capacity key size (omega arith))

-- A marker that is claimed at a log key ends at or behind it, and the log goes on behind both.
pub record IsMarkedAt (capacity key end behind : ℕ) : Type 0 where
  pub forward : key ≤ end
  pub behind_end : end ≤ behind
  pub behind_front : first_offset ≤ offset_of behind
  pub inside : offset_of behind < capacity
  pub near : ordinal_of behind ≤ ordinal_of key + 1

pub marker_placed : (capacity key : ℕ) → 4096 ≤ capacity → capacity ≤ 33554432
    → first_offset ≤ offset_of key
    → IsMarkedAt capacity key (marker_end capacity key) (behind_marker capacity key)
marker_placed capacity key large few front = by (fits capacity key marker_size) refl
  where
    by : (b : Bool) → fits capacity key marker_size ≡ b → IsMarkedAt capacity key
        (cond b (key + marker_size) key) (cond b (key + marker_size) (next_segment key))
    by true e = let room = ltb-true (offset_of key + marker_size) capacity e in record {
      forward = omega arith;
      behind_end = omega arith;
      behind_front = omega arith;
      inside = omega arith;
      near = omega arith;
    }
    by false e = let o = next_offset key in let n = next_ordinal key in record {
      forward = omega arith;
      behind_end = omega arith;
      behind_front = omega arith;
      inside = omega arith;
      near = omega arith;
    }
