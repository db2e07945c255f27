-- Entries lie in order, each within a section.
use Rattle.std.proofs.Common.{
  ◌≡◌,
  ℕ,
  ◌+◌,
  ◌≤◌,
  ◌⊎◌,
  inl,
  inr,
  List,
  [],
  ◌∷◌,
  ◌++◌,
  length,
  map,
  take,
  drop,
  ◌-◌,
  Result,
  Ok,
  Err,
  Option,
  Some,
  None,
  refl,
  sym,
  ◌∙◌,
  subst,
  arith,
  ap,
}
use Rattle.std.specs.Prelude.{IfOk}
use Rattle.std.specs.List.{All, AllByRecursion, slice_range}
use Rattle.std.proofs.lemmas.List.Elements.{All-from_recursion}
use Rattle.clog_base.specs.declared.fault.OutOfMemory.{OutOfMemory}
use Rattle.clog_entry.specs.Fields.{entry_front_size}
use Rattle.clog_entry.specs.Spelled.{IsHeaderAt, IsMarkerAt, IsEntryAt}
use Rattle.clog_entry.proofs.EntryLaws.{entry_payload}
use Rattle.clog_scan.specs.declared.answer.End.{End}
use Rattle.clog_scan.specs.declared.answer.End.TheVariants.{Clean, Torn}
use Rattle.clog_scan.specs.declared.answer.Scan.{Scan}
use Rattle.clog_scan.specs.Cut.{Section, front_bytes, last_until, IsFront}
use Rattle.clog_scan.specs.Laws.{AreLaidOut, Reaches, place_of, IsRange, HasRanges}
use Rattle.clog_scan.specs.Segment.{
  Entry,
  front_entries,
  StopsAt,
  EndsBy,
  IsSegment,
  found_of,
  Scans,
}
use Rattle.clog_scan.proofs.Trace.{
  Item,
  Marked,
  Held,
  Trace,
  held_from,
  marked_last,
  held_last,
  goes_forward,
}
use Rattle.clog_scan.proofs.Sections.{items_of, held_from-items_of}
use Rattle.clog_scan.proofs.Theorems.{front_header, front_way, front_by_way}
use Rattle.clog_spec.specs.Sizes.{header_size, marker_size, frame_size}

-- the marker of the section that the cursor is in, at or before an offset
record Within (bytes : List ℕ) (id at until : ℕ) : Type 0 where
  marker : ℕ
  reached : Reaches bytes id marker marker
  is_marker : IsMarkerAt bytes id marker until
  first : header_size ≤ marker
  behind : marker + marker_size ≤ at

laid_from : (bytes : List ℕ) (id from at : ℕ) (es : List Entry) (place : ℕ) → from ≤ at
    → AreLaidOut bytes id at es place → AreLaidOut bytes id from es place
laid_from bytes id from at [] place less laid = omega (arith, less, laid)
laid_from bytes id from at (e ∷ es) place less laid =
    (omega (arith, less, laid.0), laid.1, laid.2)

payload_between : (bytes : List ℕ) (at until : ℕ) (p : List ℕ) → IsEntryAt bytes at until p
    → slice_range bytes (at + entry_front_size) (at + frame_size + length p - 4) ≡ p
payload_between bytes at until p is =
    let size : at + frame_size + length p - 4 - (at + entry_front_size) ≡ length p = omega arith in
    ap (λ n. take n (drop (at + entry_front_size) bytes)) size ∙ entry_payload bytes at until p is

-- The items behind those that are done, by which the cursor came from the header to where it is.
laid_out : (bytes : List ℕ) (id at until : ℕ) (items : List Item) (place end : ℕ)
    (done : List Item) → IsHeaderAt bytes id → Trace bytes id header_size header_size done at until
    → (at ≡ until) ⊎ Within bytes id at until → Trace bytes id at until items place end
    → AreLaidOut bytes id at (held_from at items) place
laid_out bytes id at until [] place end done header past known way = omega (arith, way.0)
laid_out bytes id at until (Marked next ∷ items) place end done header past known way =
    let Goes : ℕ → Type 0 = λ u. Trace bytes id header_size header_size done at u in
    let to_marker = subst Goes (sym way.0) past in
    laid_from bytes id at (at + marker_size) (held_from (at + marker_size) items) place
    (omega arith)
    (laid_out bytes id (at + marker_size) next items place end (done ++ Marked next ∷ []) header
    (marked_last bytes id header_size header_size done at until next past way.0 way.1)
    (inr (record {
      marker = at;
      reached = front_by_way bytes id done at at header to_marker;
      is_marker = way.1;
      first = goes_forward bytes id header_size header_size done at until past;
      behind = omega arith;
    })) way.2)
laid_out bytes id at until (Held p ∷ items) place end done header past (inl full) way =
    absurd (omega (arith, full, way.0))
laid_out bytes id at until (Held p ∷ items) place end done header past (inr known) way = (
  omega arith,
  record {
    spelled = way.1.spelled;
    range = refl;
    least = way.1.least;
    payload_is = payload_between bytes at until p way.1;
    section = record {
      marker = known.marker;
      until = until;
      reached = known.reached;
      is_marker = known.is_marker;
      first = omega (arith, known.first, known.behind);
      behind = known.behind;
      within = way.1.fits;
    };
  },
  laid_out bytes id (at + frame_size + length p) until items place end (done ++ Held p ∷ []) header
      (held_last bytes id header_size header_size done at until p past way.0 way.1) (inr (record {
        marker = known.marker;
        reached = known.reached;
        is_marker = known.is_marker;
        first = known.first;
        behind = omega (arith, known.behind);
      })) way.2,
)

pub stop_place : (bytes : List ℕ) (id at until : ℕ) (end : End) → StopsAt bytes id at until end
    → place_of end ≡ at
stop_place bytes id at until (Clean place) stops = stops.0
stop_place bytes id at until (Torn place cause) stops = stops.0

laid_in_front : (bytes : List ℕ) (id : ℕ) (entries : List Entry) (end : End)
    (front : Option (List Section)) → IsFront bytes id front → entries ≡ front_entries front
    → EndsBy bytes id front end → AreLaidOut bytes id 0 entries (place_of end)
laid_in_front bytes id entries end None front are ends =
    subst (λ es. AreLaidOut bytes id 0 es (place_of end)) (sym are) (omega arith)
laid_in_front bytes id entries end (Some ss) front are ends =
    let at = length (front_bytes id (Some ss)) in
    let laid = laid_from bytes id 0 header_size (held_from header_size (items_of ss)) at
    (omega arith)
    (laid_out bytes id header_size header_size (items_of ss) at (last_until header_size ss) []
    (front_header bytes id ss front) (refl, refl) (inl refl) (front_way bytes id ss front)) in
    let entries_are : held_from header_size (items_of ss) ≡ entries =
    held_from-items_of (length bytes) header_size ss front.sections ∙ sym are in
    let Laid : List Entry → ℕ → Type 0 = λ es k. AreLaidOut bytes id 0 es k in
    subst (Laid entries) (sym (stop_place bytes id at (last_until header_size ss) end ends))
    (subst (λ es. Laid es at) entries_are laid)

-- the entries of a segment lie in order, in front of its end
pub laid : (bytes : List ℕ) (id : ℕ) (entries : List Entry) (end : End)
    → IsSegment bytes id entries end → AreLaidOut bytes id 0 entries (place_of end)
laid bytes id entries end is =
    laid_in_front bytes id entries end is.front is.is_front is.entries_are is.ends

ranges_from : (bytes : List ℕ) (id from : ℕ) (es : List Entry) (place : ℕ)
    → AreLaidOut bytes id from es place
    → AllByRecursion (IsRange (length bytes)) (map found_of es)
ranges_from bytes id from [] place laid = tt
ranges_from bytes id from (e ∷ es) place laid =
    let held = laid.1 in (
      record {
        room = omega (arith, held.range, held.least);
        within = omega (arith, held.section.within, held.section.is_marker.within);
      },
      ranges_from bytes id e.end es place laid.2,
    )

-- what a scan tells are ranges of the file
pub ranges : (bytes : List ℕ) (id : ℕ) (scan : Scan) → Scans bytes id scan
    → HasRanges (length bytes) scan
ranges bytes id scan is =
    let all = All-from_recursion (IsRange (length bytes)) (map found_of is.0)
    (ranges_from bytes id 0 is.0 (place_of scan.end) (laid bytes id is.0 scan.end is.1)) in
    subst (All (IsRange (length bytes))) (sym is.2) all

pub ranges_where_ok : (bytes : List ℕ) (id : ℕ) (result : Result Scan OutOfMemory)
    → IfOk result (Scans bytes id) → IfOk result (HasRanges (length bytes))
ranges_where_ok bytes id (Ok scan) is = ranges bytes id scan is
ranges_where_ok bytes id (Err e) is = tt
