-- Reading behind a front that stands: each step is one that was written, or the end. The invariant
-- is that what passes from here on is among the items that were written from here on.
use Rattle.std.proofs.Common.{
  ◌≡◌,
  ℕ,
  suc,
  ◌+◌,
  ◌<◌,
  ◌≤◌,
  inl,
  inr,
  List,
  [],
  ◌∷◌,
  ◌++◌,
  length,
  take,
  Result,
  Ok,
  Err,
  refl,
  sym,
  ap,
  subst,
  arith,
}
use Rattle.std.specs.Prelude.{Contains}
use Rattle.std.proofs.lemmas.Bool.{cases_lt}
use Rattle.clog_spec.specs.Sizes.{frame_size, header_size, marker_size}
use Rattle.clog_base.proofs.Members.{nothing_there, first_or_further}
use Rattle.clog_entry.specs.declared.cause.Cause.{Cause}
use Rattle.clog_entry.specs.declared.marker.Marker.{Marker}
use Rattle.clog_entry.specs.declared.marker.Marker.TheVariants as markers
use Rattle.clog_entry.specs.Reading.{marker_read, entry_read}
use Rattle.clog_entry.specs.Spelled.{IsHeaderAt, IsMarkerAt, IsEntryAt, payload_at}
use Rattle.clog_entry.proofs.Causes.{marker_soft, entry_soft}
use Rattle.clog_entry.proofs.EntryLaws.{entry_found}
use Rattle.clog_entry.proofs.MarkerLaws.{marker_found}
use Rattle.clog_scan.specs.declared.answer.End.{End}
use Rattle.clog_scan.specs.declared.answer.End.TheVariants.{Clean, Torn}
use Rattle.clog_scan.specs.Laws.{IsFile, Reaches}
use Rattle.clog_scan.specs.Segment.{Entry, entry_from, StopsAt}
use Rattle.clog_scan.proofs.Theorems.{front_by_way}
use Rattle.clog_scan.proofs.Trace.{
  Item,
  Marked,
  Held,
  Trace,
  held_from,
  marked_last,
  held_last,
}
use Rattle.clog_crash.specs.Tail.{IsSoftEnd}
use Rattle.clog_crash.proofs.torn.Marks.{marks_from, marks_above, held_above}

-- from an offset on, what passes as a marker stands where one of these items is a marker
abbrev pub MarksAmong : List ℕ → ℕ → ℕ → List Item → Type 0
MarksAmong bytes id at items = (q next : ℕ) → at ≤ q → Reaches bytes id q q
    → IsMarkerAt bytes id q next → Contains (marks_from at items) q

-- from an offset on, what passes as an entry is that of one of these items
abbrev pub EntriesAmong : List ℕ → ℕ → ℕ → List Item → Type 0
EntriesAmong bytes id at items = (q until : ℕ) (p : List ℕ) → at ≤ q → q < until
    → Reaches bytes id q until → IsEntryAt bytes q until p
    → Contains (held_from at items) (entry_from q p)

-- a way that ends clean or for a soft cause, over the first of the entries among these items
pub record Reads (bytes : List ℕ) (id at until : ℕ) (rest : List Item) : Type 0 where
  pub items : List Item
  pub place : ℕ
  pub end : ℕ
  pub stop : End
  pub way : Trace bytes id at until items place end
  pub stops : StopsAt bytes id place end stop
  pub soft : IsSoftEnd stop
  pub n : ℕ
  pub some : n ≤ length (held_from at rest)
  pub first : held_from at items ≡ take n (held_from at rest)

-- ---- one step, or the end

stops_here : (bytes : List ℕ) (id at until : ℕ) (rest : List Item) (stop : End)
    → StopsAt bytes id at until stop → IsSoftEnd stop → Reads bytes id at until rest
stops_here bytes id at until rest stop stops soft = record {
  items = [];
  place = at;
  end = until;
  stop = stop;
  way = (refl, refl);
  stops = stops;
  soft = soft;
  n = 0;
  some = omega arith;
  first = refl;
}

by_entry : (bytes : List ℕ) (id at until : ℕ) (rest : List Item) → IsFile bytes → at < until
    → until ≤ length bytes
    → ((p : List ℕ) → IsEntryAt bytes at until p → Reads bytes id at until rest)
    → (read : Result ℕ Cause) → entry_read bytes at until ≡ read → Reads bytes id at until rest
by_entry bytes id at until rest file room within more (Ok size) is =
    more (payload_at bytes at size) (entry_found bytes at until size file.are_bytes within is)
by_entry bytes id at until rest file room within more (Err cause) is =
    stops_here bytes id at until rest (Torn at cause) (refl, inr (room, is))
    (entry_soft bytes at until cause is)

by_marker : (bytes : List ℕ) (id at until : ℕ) (rest : List Item) → IsFile bytes → at ≡ until
    → ((next : ℕ) → IsMarkerAt bytes id at next → Reads bytes id at until rest)
    → (read : Result Marker Cause) → marker_read bytes id at ≡ read → Reads bytes id at until rest
by_marker bytes id at until rest file full more (Ok (markers.Section next)) is =
    more next (marker_found bytes id at next file.are_bytes is)
by_marker bytes id at until rest file full more (Ok markers.End) is =
    stops_here bytes id at until rest (Clean at) (refl, full, is) tt
by_marker bytes id at until rest file full more (Err cause) is =
    stops_here bytes id at until rest (Torn at cause) (refl, inl (full, is))
    (marker_soft bytes id at cause is)

-- ---- a step that was written

marker_next : (bytes : List ℕ) (id at until m next : ℕ) (rest : List Item) → at ≡ until
    → IsMarkerAt bytes id at next → Reads bytes id (at + marker_size) next rest
    → Reads bytes id at until (Marked m ∷ rest)
marker_next bytes id at until m next rest full marked more = record {
  items = Marked next ∷ more.items;
  place = more.place;
  end = more.end;
  stop = more.stop;
  way = (full, marked, more.way);
  stops = more.stops;
  soft = more.soft;
  n = more.n;
  some = more.some;
  first = more.first;
}

entry_next : (bytes : List ℕ) (id at until : ℕ) (p : List ℕ) (rest : List Item)
    → at < until → IsEntryAt bytes at until p → Reads bytes id
    (at + frame_size + length p) until rest
    → Reads bytes id at until (Held p ∷ rest)
entry_next bytes id at until p rest room held more = record {
  items = Held p ∷ more.items;
  place = more.place;
  end = more.end;
  stop = more.stop;
  way = (room, held, more.way);
  stops = more.stops;
  soft = more.soft;
  n = suc more.n;
  some = omega (arith, more.some);
  first = ap (λ (es : List Entry). entry_from at p ∷ es) more.first;
}

-- what was written behind a marker, or behind an entry
marks_behind_marker : (bytes : List ℕ) (id at m : ℕ) (rest : List Item)
    → MarksAmong bytes id at (Marked m ∷ rest) → MarksAmong bytes id (at + marker_size) rest
marks_behind_marker bytes id at m rest marks q next far reached is =
    elim (first_or_further at (marks_from (at + marker_size) rest) q
    (marks q next (omega (arith, far)) reached is)) [
      | inl same ↦ absurd (omega (arith, far, same))
      | inr more ↦ more
    ]

entries_behind_entry : (bytes : List ℕ) (id at : ℕ) (p : List ℕ) (rest : List Item)
    → EntriesAmong bytes id at (Held p ∷ rest) → EntriesAmong bytes id
    (at + frame_size + length p) rest
entries_behind_entry bytes id at p rest entries k until l far less reached is =
    elim (first_or_further (entry_from at p) (held_from (at + frame_size + length p) rest)
    (entry_from k l) (entries k until l (omega (arith, far)) less reached is)) [
      | inl same ↦ absurd (omega (arith, far, ap (λ (e : Entry). e.start) same))
      | inr more ↦ more
    ]

-- ---- the reading

pub reads : (bytes : List ℕ) (id at until : ℕ) (before rest : List Item) → IsFile bytes
    → IsHeaderAt bytes id → at ≤ until → until ≤ length bytes
    → Trace bytes id header_size header_size before at until → MarksAmong bytes id at rest
    → EntriesAmong bytes id at rest → Reads bytes id at until rest
reads bytes id at until before [] file header order within way marks entries =
    let here = front_by_way bytes id before at until header way in
    elim (cases_lt at until) [
      | inl room ↦ by_entry bytes id at until [] file room within
          (λ p held. absurd (nothing_there (entry_from at p)
          (entries at until p (omega arith) room here held))) (entry_read bytes at until) refl
      | inr past ↦
          let full : at ≡ until = omega (arith, past, order) in
          by_marker bytes id at until [] file full
          (λ next marked. absurd (nothing_there at (marks at next (omega arith)
          (subst (λ (u : ℕ). Reaches bytes id at u) (sym full) here) marked)))
          (marker_read bytes id at) refl
    ]
reads bytes id at until before (Marked m ∷ rest) file header order within way marks entries =
    let here = front_by_way bytes id before at until header way in
    elim (cases_lt at until) [
      | inl room ↦ by_entry bytes id at until (Marked m ∷ rest) file room within
          (λ p held. absurd (omega (
            arith,
            held_above (at + marker_size) rest (entry_from at p)
                (entries at until p (omega arith) room here held),
          ))) (entry_read bytes at until) refl
      | inr past ↦
          let full : at ≡ until = omega (arith, past, order) in
          by_marker bytes id at until (Marked m ∷ rest) file full
          (λ next marked. marker_next bytes id at until m next rest full marked
          (reads bytes id (at + marker_size) next (before ++ Marked next ∷ []) rest file header
          marked.behind marked.within
          (marked_last bytes id header_size header_size before at until next way full marked)
          (marks_behind_marker bytes id at m rest marks)
          (λ q u p far less reached is. entries q u p (omega (arith, far)) less reached is)))
          (marker_read bytes id at) refl
    ]
reads bytes id at until before (Held q ∷ rest) file header order within way marks entries =
    let here = front_by_way bytes id before at until header way in
    let next = at + frame_size + length q in
    let goes_on : IsEntryAt bytes at until q → at < until → Reads bytes id at until (Held q ∷ rest)
    = λ held room. entry_next bytes id at until q rest room held
    (reads bytes id next until (before ++ Held q ∷ []) rest file header held.fits within
    (held_last bytes id header_size header_size before at until q way room held)
    (λ k u far reached is. marks k u (omega (arith, far)) reached is)
    (entries_behind_entry bytes id at q rest entries)) in
    elim (cases_lt at until) [
      | inl room ↦ by_entry bytes id at until (Held q ∷ rest) file room within
          (λ p held. elim (first_or_further (entry_from at q) (held_from next rest)
          (entry_from at p) (entries at until p (omega arith) room here held)) [
            | inr more ↦ absurd (omega (arith, held_above next rest (entry_from at p) more))
            | inl is ↦
                let same : q ≡ p = ap (λ (e : Entry). e.payload) is in
                goes_on (subst (λ (l : List ℕ). IsEntryAt bytes at until l) (sym same) held) room
          ]) (entry_read bytes at until) refl
      | inr past ↦
          let full : at ≡ until = omega (arith, past, order) in
          by_marker bytes id at until (Held q ∷ rest) file full
          (λ m marked. absurd (omega (
            arith,
            marks_above next rest at (marks at m (omega arith)
                (subst (λ (u : ℕ). Reaches bytes id at u) (sym full) here) marked),
          ))) (marker_read bytes id at) refl
    ]
