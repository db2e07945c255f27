-- A segment that a crash has only cut off has nothing by chance.
use Rattle.std.proofs.Common.{
  ◌≡◌,
  ℕ,
  zero,
  suc,
  ◌+◌,
  ◌≤◌,
  List,
  [],
  ◌∷◌,
  ◌++◌,
  length,
  take,
  drop,
  Some,
  refl,
  sym,
  ◌∙◌,
  ap,
  ap₂,
  subst,
  arith,
  append_assoc,
}
use Rattle.std.proofs.lemmas.List.{
  length-append,
  length-drop,
  take-append-drop,
  take-append-le,
}
use Rattle.std.proofs.Math.Seq.{drop-append_seam, take-append_seam}
use Rattle.byteorder.specs.Endian.{big_number}
use Rattle.clog_spec.specs.Sizes.{frame_size, header_size, marker_size}
use Rattle.clog_spec.specs.Crc.{IsBytes}
use Rattle.clog_spec.specs.Segment.{header_bytes, marker_bytes, entry_bytes}
use Rattle.clog_spec.proofs.Bytes.{front-IsBytes}
use Rattle.clog_entry.specs.Soft.{PassesAsHeader}
use Rattle.clog_entry.specs.Spelled.{IsHeaderAt, IsMarkerAt, IsEntryAt}
use Rattle.clog_scan.specs.Cut.{Section, front_bytes, sections_bytes, last_until, AreSections}
use Rattle.clog_scan.specs.Laws.{Reaches}
use Rattle.clog_scan.proofs.Appended.{section_longer}
use Rattle.clog_scan.proofs.Sections.{items_of}
use Rattle.clog_scan.proofs.Theorems.{front_way, front_header, header_long}
use Rattle.clog_scan.proofs.Trace.{stays_within}
use Rattle.clog_crash.specs.Chance.{NoChance}
use Rattle.clog_crash.specs.Sections.{segment_bytes, IsStored}
use Rattle.clog_crash.proofs.rest.Untorn.{untorn}

-- ---- with more behind it

-- what stands from an offset on
drop_longer : (at : ℕ) (xs rest : List ℕ) → at ≤ length xs
    → drop at (xs ++ rest) ≡ drop at xs ++ rest
drop_longer zero xs rest le = refl
drop_longer (suc at) [] rest le = absurd (omega (arith, le))
drop_longer (suc at) (x ∷ xs) rest le = drop_longer at xs rest (omega (arith, le))

spelled_longer : (xs rest text : List ℕ) (at next : ℕ) → at ≤ length xs → next ≤ length xs
    → drop at xs ≡ text ++ drop next xs → drop at (xs ++ rest) ≡ text ++ drop next (xs ++ rest)
spelled_longer xs rest text at next le le' is =
    drop_longer at xs rest le ∙ ap (λ (l : List ℕ). l ++ rest) is
    ∙ append_assoc text (drop next xs) rest
    ∙ ap (λ (l : List ℕ). text ++ l) (sym (drop_longer next xs rest le'))

sections_longer : (len more at : ℕ) (ss : List Section) → len ≤ more → AreSections len at ss
    → AreSections more at ss
sections_longer len more at [] le are = tt
sections_longer len more at (s ∷ []) le are = section_longer len more at s le are
sections_longer len more at (s ∷ t ∷ ss) le are = (
  section_longer len more at s le are.0,
  are.1,
  sections_longer len more s.until (t ∷ ss) le are.2,
)

module _ (xs rest : List ℕ) (id : ℕ) where
  abbrev all : List ℕ
  all = xs ++ rest

  grows : length xs ≤ length all
  grows = omega (arith, length-append xs rest)

  reaches_longer : (at until : ℕ) → Reaches xs id at until → Reaches all id at until
  reaches_longer at until r =
      let front = front_bytes id (Some r.sections) in
      let whole : all ≡ front ++ (drop (length front) xs ++ rest) =
      ap (λ (l : List ℕ). l ++ rest) r.front.cut
      ∙ append_assoc front (drop (length front) xs) rest in
      record {
        sections = r.sections;
        front = record {
          cut = whole ∙ ap (λ (l : List ℕ). front ++ l)
              (sym (drop-append_seam front (drop (length front) xs ++ rest))
              ∙ ap (drop (length front)) (sym whole));
          sections = sections_longer (length xs) (length all) header_size r.sections grows
              r.front.sections;
        };
        place = r.place;
        end = r.end;
      }

  marker_longer : (at until : ℕ) → IsMarkerAt xs id at until → IsMarkerAt all id at until
  marker_longer at until m = record {
    spelled = spelled_longer xs rest (marker_bytes id at until) at (at + marker_size)
        (omega (arith, m.behind, m.within)) (omega (arith, m.behind, m.within)) m.spelled;
    behind = m.behind;
    within = omega (arith, m.within, grows);
  }

  entry_longer : (at until : ℕ) (p : List ℕ) → until ≤ length xs → IsEntryAt xs at until p
      → IsEntryAt all at until p
  entry_longer at until p within e = record {
    spelled = spelled_longer xs rest (entry_bytes p) at (at + frame_size + length p)
        (omega (arith, e.fits, within)) (omega (arith, e.fits, within)) e.spelled;
    least = e.least;
    fits = e.fits;
  }

  until_within : (at until : ℕ) → Reaches xs id at until → until ≤ length xs
  until_within at until r =
      let way = front_way xs id r.sections r.front in
      let in_it = (stays_within xs id header_size header_size (items_of r.sections)
      (length (front_bytes id (Some r.sections))) (last_until header_size r.sections) way
      (omega arith)
      (header_long xs id (front_header xs id r.sections r.front))).1 in
      omega (arith, in_it, r.end)

-- ---- a header

two_first : (ys rest more : List ℕ) → ys ++ rest ≡ 0 ∷ 2 ∷ more → 2 ≤ length ys
    → big_number 2 ys ≡ 2
two_first [] rest more is long = absurd (omega (arith, long))
two_first (a ∷ []) rest more is long = absurd (omega (arith, long))
two_first (a ∷ b ∷ ys) rest more is long =
    let first : a ≡ 0 = cc is in
    let second : b ≡ 2 = cc is in
    ap₂ (λ (x y : ℕ). big_number 2 (x ∷ y ∷ ys)) first second

-- what is left of a header passes as one only where all of it is left
header_cut : (id : ℕ) (xs rest more : List ℕ) → xs ++ rest ≡ header_bytes id ++ more
    → PassesAsHeader xs → IsHeaderAt xs id
header_cut id xs rest more is passes =
    let long : 12 ≤ length xs = omega (arith, passes.fits) in
    let size = length-drop 12 xs in
    let two : big_number 2 (drop 12 xs) ≡ 2 =
    two_first (drop 12 xs) rest (drop 14 (header_bytes id ++ more))
    (sym (drop_longer 12 xs rest long) ∙ ap (drop 12) is)
    (omega (arith, passes.fits, size)) in
    let enough : header_size ≤ length xs = omega (arith, passes.fits, two) in
    let front : take header_size xs ≡ header_bytes id =
    sym (take-append-le header_size xs rest enough) ∙ ap (take header_size) is
    ∙ take-append_seam (header_bytes id) more in
    sym (take-append-drop header_size xs) ∙ ap (λ (l : List ℕ). l ++ drop header_size xs) front

-- ---- all of it

empty_is : (xs rest : List ℕ) → [] ≡ xs ++ rest → xs ≡ []
empty_is [] rest is = refl
empty_is (x ∷ xs) rest is = absurd cc

pub cut_off : (id : ℕ) (ss : List Section) (xs rest : List ℕ) → IsStored id ss
    → segment_bytes id ss ≡ xs ++ rest → NoChance id ss xs
cut_off id [] xs rest stored is =
    subst (NoChance id []) (sym (empty_is xs rest is)) (untorn id [] stored)
cut_off id (s ∷ ss) xs rest stored is =
    let whole = subst (NoChance id (s ∷ ss)) is (untorn id (s ∷ ss) stored) in
    record {
      are_bytes = front-IsBytes xs rest (subst IsBytes is stored.bytes);
      header = λ passes. header_cut id xs rest (sections_bytes id header_size (s ∷ ss))
          (sym is) passes;
      marker = λ at until reached marked.
          whole.marker at until (reaches_longer xs rest id at at reached)
          (marker_longer xs rest id at until marked);
      entry = λ at until payload room reached held.
          whole.entry at until payload room (reaches_longer xs rest id at until reached)
          (entry_longer xs rest id at until payload (until_within xs rest id at until reached)
          held);
    }
