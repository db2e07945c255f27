-- From each place there is a way that stops, so each string of bytes holds something.
use Rattle.std.proofs.Common.{
  ◌≡◌,
  ℕ,
  zero,
  suc,
  ◌+◌,
  ◌^◌,
  ◌<◌,
  ◌≤◌,
  inl,
  inr,
  List,
  [],
  ◌∷◌,
  length,
  Result,
  Ok,
  Err,
  refl,
  arith,
}
use Rattle.std.proofs.lemmas.Bool.{cases_lt}
use Rattle.clog_entry.specs.declared.cause.Cause.{Cause}
use Rattle.clog_entry.specs.declared.marker.Marker.{Marker}
use Rattle.clog_entry.specs.declared.marker.Marker.TheVariants as markers
use Rattle.clog_entry.specs.Reading.{header_read, marker_read, entry_read}
use Rattle.clog_entry.specs.Spelled.{IsMarkerAt, IsEntryAt, payload_at}
use Rattle.clog_entry.proofs.HeaderLaws.{header_found}
use Rattle.clog_entry.proofs.MarkerLaws.{marker_found}
use Rattle.clog_entry.proofs.EntryLaws.{entry_found}
use Rattle.clog_scan.specs.declared.answer.End.{End}
use Rattle.clog_scan.specs.declared.answer.End.TheVariants.{Clean, Torn}
use Rattle.clog_scan.specs.Laws.{IsFile, HasSegment}
use Rattle.clog_scan.specs.Segment.{StopsAt}
use Rattle.clog_scan.proofs.Trace.{Item, Marked, Held, Trace, held_from}
use Rattle.clog_scan.proofs.Theorems.{header_long, segment_by_way, segment_without_header}
use Rattle.clog_spec.specs.Sizes.{header_size, marker_size, frame_size}

-- a way that stops
record Stopping (bytes : List ℕ) (id at until : ℕ) : Type 0 where
  items : List Item
  place : ℕ
  end : ℕ
  stop : End
  way : Trace bytes id at until items place end
  stops : StopsAt bytes id place end stop

by_marker : (bytes : List ℕ) (id at until : ℕ) → IsFile bytes → at ≡ until
    → ((next : ℕ) → IsMarkerAt bytes id at next → Stopping bytes id (at + marker_size) next)
    → (read : Result Marker Cause) → marker_read bytes id at ≡ read → Stopping bytes id at until
by_marker bytes id at until file full more (Ok (markers.Section next)) is =
    let marked = marker_found bytes id at next file.are_bytes is in
    let rest = more next marked in
    record {
      items = Marked next ∷ rest.items;
      place = rest.place;
      end = rest.end;
      stop = rest.stop;
      way = (full, marked, rest.way);
      stops = rest.stops;
    }
by_marker bytes id at until file full more (Ok markers.End) is = record {
  items = [];
  place = at;
  end = until;
  stop = Clean at;
  way = (refl, refl);
  stops = (refl, full, is);
}
by_marker bytes id at until file full more (Err cause) is = record {
  items = [];
  place = at;
  end = until;
  stop = Torn at cause;
  way = (refl, refl);
  stops = (refl, inl (full, is));
}

by_entry : (bytes : List ℕ) (id at until : ℕ) → IsFile bytes → at < until → until ≤ length bytes
    → ((payload : List ℕ) → IsEntryAt bytes at until payload
    → Stopping bytes id (at + frame_size + length payload) until)
    → (read : Result ℕ Cause) → entry_read bytes at until ≡ read → Stopping bytes id at until
by_entry bytes id at until file room within more (Ok size) is =
    let payload = payload_at bytes at size in
    let held = entry_found bytes at until size file.are_bytes within is in
    let rest = more payload held in
    record {
      items = Held payload ∷ rest.items;
      place = rest.place;
      end = rest.end;
      stop = rest.stop;
      way = (room, held, rest.way);
      stops = rest.stops;
    }
by_entry bytes id at until file room within more (Err cause) is = record {
  items = [];
  place = at;
  end = until;
  stop = Torn at cause;
  way = (refl, refl);
  stops = (refl, inr (room, is));
}

stopping : (fuel : ℕ) (bytes : List ℕ) (id at until : ℕ) → IsFile bytes → at ≤ until
    → until ≤ length bytes → length bytes < at + fuel → Stopping bytes id at until
stopping zero bytes id at until file order within enough = absurd (omega arith)
stopping (suc fuel) bytes id at until file order within enough = elim (cases_lt at until) [
  | inl room ↦ by_entry bytes id at until file room within
      (λ payload held. stopping fuel bytes id
      (at + frame_size + length payload) until file held.fits
      within (omega (arith, enough))) (entry_read bytes at until) refl
  | inr rest ↦ by_marker bytes id at until file (omega (arith, order, rest))
      (λ next marked. stopping fuel bytes id
      (at + marker_size) next file marked.behind marked.within
      (omega (arith, enough))) (marker_read bytes id at) refl
]

by_header : (bytes : List ℕ) (id : ℕ) → IsFile bytes → id < 2 ^ 64
    → (read : Result Unit Cause) → header_read bytes id ≡ read → HasSegment bytes id
by_header bytes id file fits (Ok there) is =
    let header = header_found bytes id file.are_bytes is in
    let rest = stopping (length bytes + 1) bytes id header_size header_size file (omega arith)
    (header_long bytes id header) (omega arith) in (
      held_from header_size rest.items,
      rest.stop,
      segment_by_way bytes id rest.items rest.place rest.end rest.stop file header rest.way
          rest.stops,
    )
by_header bytes id file fits (Err cause) is =
    ([], Torn 0 cause, segment_without_header bytes id cause fits is)

-- any bytes hold something
pub has_segment : (bytes : List ℕ) (id : ℕ) → IsFile bytes → id < 2 ^ 64 → HasSegment bytes id
has_segment bytes id file fits = by_header bytes id file fits (header_read bytes id) refl
