-- What comes next, by what was read of a window.
use Rattle.std.proofs.Common.{◌≡◌, ℕ, ◌+◌, ◌-◌, ◌^◌, ◌<◌, ◌≤◌, List, length, take, drop, Some, None}
use Rattle.std.proofs.Common.{Result, Ok, Err, refl, ◌∙◌, subst, inl, inr, arith}
use Rattle.std.proofs.lemmas.Bool.{cases_lt}
use Rattle.clog_spec.specs.Sizes.{marker_size}
use Rattle.clog_entry.specs.declared.cause.Cause.{Cause}
use Rattle.clog_entry.specs.declared.marker.Marker.{Marker}
use Rattle.clog_entry.specs.declared.marker.Marker.TheVariants as markers
use Rattle.clog_entry.specs.Fields.{entry_front_size}
use Rattle.clog_entry.specs.Reading.{number_at, marker_judged}
use Rattle.clog_entry.specs.Spelled.{IsEntryAt, payload_at}
use Rattle.clog_entry.proofs.EntryLaws.{entry_found}
use Rattle.clog_entry.proofs.MarkerLaws.{marker_found}
use Rattle.clog_scan.specs.declared.next.Next.TheVariants as nexts
use Rattle.clog_scan.specs.Ahead.{EntryIs, MarkerIs}
use Rattle.clog_scan.specs.Pieces.{NextIs}
use Rattle.clog_scan.proofs.WindowLaws.{marker_ahead, marker_bounds, piece_ahead, size_there}

pub marker_is : (len id : ℕ) (window : List ℕ) (at target check : ℕ) (read : Result Marker Cause)
    → marker_size ≤ length window → at + marker_size ≤ len → number_at window 0 ≡ target
    → number_at window 4 ≡ check → marker_judged len id at target check ≡ read
    → MarkerIs len id window at (Some read)
marker_is len id window at target check (Ok (markers.Section next)) enough room one two judged =
    let bounds = marker_bounds len id at target check next judged in (
      enough,
      bounds.0,
      bounds.1,
      λ file is. marker_ahead file len id window at is enough room
          ∙ (λ i. marker_judged len id at (one i) (two i)) ∙ judged,
    )
marker_is len id window at target check (Ok markers.End) enough room one two judged =
    λ file is. marker_ahead file len id window at is enough room
    ∙ (λ i. marker_judged len id at (one i) (two i)) ∙ judged
marker_is len id window at target check (Err cause) enough room one two judged =
    λ file is. marker_ahead file len id window at is enough room
    ∙ (λ i. marker_judged len id at (one i) (two i)) ∙ judged

pub entry_next : (len id : ℕ) (window : List ℕ) (at until size : ℕ) → at < until → until ≤ len
    → EntryIs window (until - at) (Some (Ok size))
    → NextIs len id window at until (nexts.Entry size)
entry_next len id window at until size here within is = (
  here,
  is.0,
  (let most = is.1 in omega arith),
  λ file w.
      let held = entry_found file at until size w.is_file.are_bytes
      (omega (arith, w.len_is, within)) (is.2 file at until w.ahead refl) in
      let same : payload_at file at size ≡ take size (drop entry_front_size window) =
      piece_ahead size file window at entry_front_size (at + entry_front_size) w.ahead refl
      (let long = is.0 in omega arith) in
      subst (IsEntryAt file at until) same held,
)

pub section_next : (len id : ℕ) (window : List ℕ) (at until next : ℕ) → at ≡ until
    → MarkerIs len id window at (Some (Ok (markers.Section next)))
    → NextIs len id window at until (nexts.Section next)
section_next len id window at until next full is = (
  full,
  is.0,
  is.1,
  is.2,
  λ file w. marker_found file id at next w.is_file.are_bytes (is.3 file w),
)

-- an entry of which bytes are wanted ends behind those that are there
pub entry_stuck : (len id : ℕ) (window : List ℕ) (at until : ℕ) → len < 2 ^ 31 → at < until
    → until ≤ len → EntryIs window (until - at) None
    → NextIs len id window at until nexts.Wait
entry_stuck len id window at until short here within is = (
  (let less = is.0 in omega arith),
  λ file w. record {
    marker = λ full. absurd (omega (arith, here, full));
    entry = λ payload room held. elim (cases_lt (length window) entry_front_size) [
      | inl few ↦ omega (arith, few, held.least)
      | inr front ↦
          let size = size_there file window at until payload w.ahead (omega (arith, front))
          (omega (arith, held.fits, within, short)) held in
          let less = is.1 (omega (arith, front)) in
          omega (arith, size, less)
    ];
  },
)
