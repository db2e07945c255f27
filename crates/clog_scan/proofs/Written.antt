-- A header and whole sections hold their entries, and end clean.
use Rattle.std.proofs.Common.{
  ◌≡◌,
  ℕ,
  ◌+◌,
  ◌<◌,
  true,
  List,
  [],
  ◌∷◌,
  ◌++◌,
  length,
  drop,
  nat_lt,
  Some,
  Ok,
  refl,
  sym,
  ◌∙◌,
  ap,
  subst,
  arith,
}
use Rattle.std.proofs.lemmas.Bool.Decides.{nat_tests}
use Rattle.std.proofs.lemmas.List.{append-nil, drop_all, length-append}
use Rattle.clog_spec.specs.Segment.{header_bytes}
use Rattle.clog_entry.specs.declared.marker.Marker.TheVariants.{End as no_marker}
use Rattle.clog_entry.specs.Reading.{marker_read}
use Rattle.clog_scan.specs.declared.answer.End.TheVariants.{Clean}
use Rattle.clog_scan.specs.Cut.{
  Section,
  entries_bytes,
  sections_bytes,
  front_bytes,
  AreSections,
  IsFront,
  last_until,
}
use Rattle.clog_scan.specs.Laws.{IsFile, AreWhole}
use Rattle.clog_scan.specs.Segment.{Entry, entries_of, IsSegment}
use Rattle.clog_scan.proofs.Sections.{items_of, held_from-items_of}
use Rattle.clog_scan.proofs.Theorems.{front_header, front_way, segment_by_way}
use Rattle.clog_spec.specs.Sizes.{header_size, marker_size}

pub whole_sections : (len at : ℕ) (ss : List Section) → AreWhole len at ss → AreSections len at ss
whole_sections len at [] whole = tt
whole_sections len at (s ∷ []) whole = whole.0
whole_sections len at (s ∷ t ∷ ss) whole =
    (whole.0, whole.1, whole_sections len s.until (t ∷ ss) whole.2)

pub whole_until : (id len at : ℕ) (ss : List Section) → AreWhole len at ss
    → at + length (sections_bytes id at ss) ≡ last_until at ss
whole_until id len at [] whole = omega arith
whole_until id len at (s ∷ ss) whole =
    let e = entries_bytes s.payloads in
    let more = sections_bytes id s.until ss in
    let size : at + length (sections_bytes id at (s ∷ ss)) ≡ s.until + length more =
    omega (arith, length-append e more, whole.1) in
    size ∙ whole_until id len s.until ss whole.2

-- the file's end is no marker
pub ends_there : (bytes : List ℕ) (id at : ℕ) → length bytes < at + marker_size
    → marker_read bytes id at ≡ Ok no_marker
unfolding marker_read
ends_there bytes id at short =
    let test : nat_lt (length bytes) (at + marker_size) ≡ true = grind (arith, nat_tests) in
    rw test refl

pub written : (bytes : List ℕ) (id : ℕ) (ss : List Section) → IsFile bytes
    → bytes ≡ header_bytes id ++ sections_bytes id header_size ss
    → AreWhole (length bytes) header_size ss
    → IsSegment bytes id (entries_of header_size ss) (Clean (length bytes))
written bytes id ss file is whole =
    let lawful = whole_sections (length bytes) header_size ss whole in
    let text = header_bytes id ++ sections_bytes id header_size ss in
    let same : length bytes ≡ length text = ap length is in
    let none : drop (length text) bytes ≡ [] =
    drop_all (length text) bytes (omega (arith, same)) in
    let front : IsFront bytes id (Some ss) = record {
      cut = is ∙ sym (append-nil text) ∙ ap (λ l. text ++ l) (sym none);
      sections = lawful;
    } in
    let at = length (front_bytes id (Some ss)) in
    let until = last_until header_size ss in
    let full : at ≡ until =
    let e : at ≡ header_size + length (sections_bytes id header_size ss) = omega arith in
    e ∙ whole_until id (length bytes) header_size ss whole in
    let segment = segment_by_way bytes id (items_of ss) at until (Clean at) file
    (front_header bytes id ss front) (front_way bytes id ss front)
    (refl, full, ends_there bytes id at (omega (arith, same))) in
    let IsSo : List Entry → ℕ → Type 0 = λ es k. IsSegment bytes id es (Clean k) in
    subst (IsSo (entries_of header_size ss)) (sym same)
    (subst (λ es. IsSo es at) (held_from-items_of (length bytes) header_size ss lawful) segment)
