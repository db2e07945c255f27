-- What stands at and behind a segment's end does not matter to the entries in front of it.
use Rattle.std.proofs.Common.{
  ◌≡◌,
  ℕ,
  ◌+◌,
  ◌^◌,
  ◌<◌,
  ◌≤◌,
  List,
  [],
  ◌∷◌,
  ◌++◌,
  length,
  take,
  drop,
  Option,
  Some,
  None,
  refl,
  sym,
  ◌∙◌,
  ap,
  ap₂,
  subst,
  arith,
}
use Rattle.std.proofs.lemmas.List.{drop-take, take-append-drop, take-take}
use Rattle.std.proofs.Math.Seq.{take-append_seam}
use Rattle.clog_spec.specs.Segment.{header_bytes, marker_bytes, entry_bytes}
use Rattle.clog_entry.specs.Spelled.{IsHeaderAt, IsMarkerAt, IsEntryAt}
use Rattle.clog_entry.proofs.HeaderLaws.{header_again}
use Rattle.clog_entry.proofs.Pieces.{drop_more}
use Rattle.clog_scan.specs.declared.answer.End.{End}
use Rattle.clog_scan.specs.Cut.{Section, front_bytes, last_until, IsFront}
use Rattle.clog_scan.specs.Laws.{IsFile, HoldsThem, place_of}
use Rattle.clog_scan.specs.Segment.{Entry, entry_from, front_entries, EndsBy, IsSegment}
use Rattle.clog_scan.proofs.Trace.{Item, Marked, Held, Trace, held_from, goes_forward, one_way}
use Rattle.clog_spec.proofs.Lengths.{length-entry_bytes}
use Rattle.clog_scan.proofs.Sections.{items_of, held_from-items_of}
use Rattle.clog_scan.proofs.Theorems.{
  front_header,
  front_way,
  header_long,
}
use Rattle.clog_scan.proofs.Order.{stop_place}
use Rattle.clog_spec.specs.Sizes.{header_size, marker_size, frame_size}

piece_kept : (bytes other : List ℕ) (at m place : ℕ) → take place other ≡ take place bytes
    → at + m ≤ place → take m (drop at other) ≡ take m (drop at bytes)
piece_kept bytes other at m place same less =
    sym (drop-take at m other)
    ∙ ap (drop at) (sym (take-take (at + m) place other less) ∙ ap (take (at + m)) same
    ∙ take-take (at + m) place bytes less)
    ∙ drop-take at m bytes

text_kept : (bytes other text : List ℕ) (at next place : ℕ)
    → take place other ≡ take place bytes → next ≡ at + length text → next ≤ place
    → drop at bytes ≡ text ++ drop next bytes → drop at other ≡ text ++ drop next other
text_kept bytes other text at next place same is_next less spelled =
    let m = length text in
    sym (take-append-drop m (drop at other))
    ∙ ap₂ (λ (x y : List ℕ). x ++ y)
    (piece_kept bytes other at m place same (omega (arith, is_next, less))
    ∙ ap (take m) spelled ∙ take-append_seam text (drop next bytes))
    (sym (drop_more at m other) ∙ ap (λ k. drop k other) (sym is_next))

marker_kept : (bytes other : List ℕ) (id at until place : ℕ) → take place other ≡ take place bytes
    → length bytes ≤ length other → at + marker_size ≤ place → IsMarkerAt bytes id at until
    → IsMarkerAt other id at until
marker_kept bytes other id at until place same size less is = record {
  spelled = text_kept bytes other (marker_bytes id at until) at
      (at + marker_size) place same refl less
      is.spelled;
  behind = is.behind;
  within = omega (arith, size, is.within);
}

entry_kept : (bytes other : List ℕ) (at until place : ℕ) (p : List ℕ)
    → take place other ≡ take place bytes → at + frame_size + length p ≤ place
    → IsEntryAt bytes at until p → IsEntryAt other at until p
entry_kept bytes other at until place p same less is = record {
  spelled = text_kept bytes other (entry_bytes p) at (at + frame_size + length p) place same
      (omega (arith, length-entry_bytes p)) less is.spelled;
  least = is.least;
  fits = is.fits;
}

way_kept : (bytes other : List ℕ) (id at until : ℕ) (items : List Item) (place end : ℕ)
    → take place other ≡ take place bytes → length bytes ≤ length other
    → Trace bytes id at until items place end → Trace other id at until items place end
way_kept bytes other id at until [] place end same size way = way
way_kept bytes other id at until (Marked next ∷ items) place end same size way = (
  way.0,
  marker_kept bytes other id at next place same size
      (goes_forward bytes id (at + marker_size) next items place end way.2) way.1,
  way_kept bytes other id (at + marker_size) next items place end same size way.2,
)
way_kept bytes other id at until (Held p ∷ items) place end same size way = (
  way.0,
  entry_kept bytes other at until place p same
      (goes_forward bytes id (at + frame_size + length p) until items place end way.2) way.1,
  way_kept bytes other id (at + frame_size + length p) until items place end same size way.2,
)

pub held_from-append : (bytes : List ℕ) (id at until : ℕ) (items more : List Item) (place end : ℕ)
    → Trace bytes id at until items place end
    → held_from at (items ++ more) ≡ held_from at items ++ held_from place more
held_from-append bytes id at until [] more place end way = ap (λ k. held_from k more) way.0
held_from-append bytes id at until (Marked next ∷ items) more place end way =
    held_from-append bytes id (at + marker_size) next items more place end way.2
held_from-append bytes id at until (Held p ∷ items) more place end way =
    ap (λ es. entry_from at p ∷ es)
    (held_from-append bytes id (at + frame_size + length p) until items more place end way.2)

-- a way over these bytes is the front of the way that stops
whole_of : (other : List ℕ) (id : ℕ) (entries' : List Entry) (end' : End)
    (front' : Option (List Section)) → IsFile other → id < 2 ^ 64 → IsHeaderAt other id
    → IsFront other id front' → entries' ≡ front_entries front' → EndsBy other id front' end'
    → (items : List Item) (at until : ℕ) → Trace other id header_size header_size items at until
    → HoldsThem (held_from header_size items) at entries' (place_of end')
whole_of other id entries' end' None file fits header is' are' ends' items at until way =
    let there = header_again other id fits header in
    let torn = ends'.1 in
    absurd cc
whole_of other id entries' end' (Some ss) file fits header is' are' ends' items at until way =
    let at' = length (front_bytes id (Some ss)) in
    let until' = last_until header_size ss in
    let on = one_way other id header_size header_size
    (items_of ss) at' until' end' items at until file
    (header_long other id header) (front_way other id ss is') ends' way in
    let up = goes_forward other id at until on.more at' until' on.way in
    let place_is = stop_place other id at' until' end' ends' in
    record {
      more = held_from at on.more;
      are = are' ∙ sym (held_from-items_of (length other) header_size ss is'.sections)
          ∙ ap (held_from header_size) on.whole
          ∙ held_from-append other id header_size header_size items on.more at until way;
      behind = omega (arith, up, place_is);
    }

holds : (bytes other : List ℕ) (id : ℕ) (entries entries' : List Entry) (end end' : End)
    (front front' : Option (List Section)) → IsFile other → id < 2 ^ 64
    → length bytes ≤ length other → take (place_of end) other ≡ take (place_of end) bytes
    → IsFront bytes id front → IsFront other id front' → entries ≡ front_entries front
    → entries' ≡ front_entries front' → EndsBy bytes id front end → EndsBy other id front' end'
    → HoldsThem entries (place_of end) entries' (place_of end')
holds bytes other id entries entries' end end' None front' file fits size same is is' are are' ends
    ends' =
    let nowhere : place_of end ≡ 0 = ap place_of ends.2 in
    record {
      more = entries';
      are = ap (λ es. es ++ entries') (sym are);
      behind = omega (arith, nowhere);
    }
holds bytes other id entries entries' end end' (Some ss) front' file fits size same is is' are are'
    ends ends' =
    let at = length (front_bytes id (Some ss)) in
    let place_is = stop_place bytes id at (last_until header_size ss) end ends in
    let same_at : take at other ≡ take at bytes =
    subst (λ k. take k other ≡ take k bytes) place_is same in
    let way = way_kept bytes other id header_size header_size (items_of ss) at
    (last_until header_size ss) same_at size
    (front_way bytes id ss is) in
    let header : IsHeaderAt other id =
    text_kept bytes other (header_bytes id) 0 header_size at same_at refl (omega arith)
    (front_header bytes id ss is) in
    let here : front_entries (Some ss) ≡ held_from header_size (items_of ss) =
    sym (held_from-items_of (length bytes) header_size ss is.sections) in
    let all = whole_of other id entries' end' front' file fits header is' are' ends'
    (items_of ss) at (last_until header_size ss) way in
    record {
      more = all.more;
      are = all.are ∙ ap (λ es. es ++ all.more) (sym (are ∙ here));
      behind = omega (arith, place_is, all.behind);
    }

-- Bytes that are as many or more, and the same in front of the end, hold the same entries there.
pub same_in_front : (bytes other : List ℕ) (id : ℕ) (entries entries' : List Entry)
    (end end' : End) → IsFile other → id < 2 ^ 64 → length bytes ≤ length other
    → take (place_of end) other ≡ take (place_of end) bytes → IsSegment bytes id entries end
    → IsSegment other id entries' end' → HoldsThem entries (place_of end) entries' (place_of end')
same_in_front bytes other id entries entries' end end' file fits size same is is' =
    holds bytes other id entries entries' end end' is.front is'.front file fits size same
    is.is_front is'.is_front is.entries_are is'.entries_are is.ends is'.ends
