-- A way over items is a way over sections, and the other way round.
use Rattle.std.proofs.Common.{
  ◌≡◌,
  ℕ,
  ◌+◌,
  ◌≤◌,
  List,
  [],
  ◌∷◌,
  ◌++◌,
  length,
  drop,
  refl,
  sym,
  ◌∙◌,
  ap,
  ap₂,
  subst,
  arith,
  append_assoc,
}
use Rattle.std.specs.Prelude.{⊤}
use Rattle.std.proofs.lemmas.List.{length-append}
use Rattle.clog_spec.specs.Segment.{marker_bytes, entry_bytes}
use Rattle.clog_spec.proofs.Lengths.{length-entry_bytes}
use Rattle.clog_entry.specs.Spelled.{IsMarkerAt}
use Rattle.clog_entry.proofs.Pieces.{behind}
use Rattle.clog_scan.specs.Cut.{
  Section,
  entries_bytes,
  sections_bytes,
  filled_to,
  AreLong,
  IsSection,
  AreSections,
  last_until,
}
use Rattle.clog_scan.specs.Segment.{entry_from, entries_from, entries_of}
use Rattle.clog_scan.proofs.Trace.{Item, Marked, Held, Trace, held_from}
use Rattle.clog_spec.specs.Sizes.{marker_size, frame_size}

-- the payloads before the first marker
pub payloads_of : List Item → List (List ℕ)
payloads_of [] = []
payloads_of (Marked next ∷ items) = []
payloads_of (Held p ∷ items) = p ∷ payloads_of items

-- the sections from the first marker on
pub sections_of : List Item → List Section
sections_of [] = []
sections_of (Marked next ∷ items) =
    record { until = next; payloads = payloads_of items } ∷ sections_of items
sections_of (Held p ∷ items) = sections_of items

-- where sections follow, the entries before them fill their own
pub IsFull : List Section → ℕ → ℕ → Type 0
IsFull [] filled until = ⊤
IsFull (s ∷ ss) filled until = filled ≡ until

pub more_sections : (len at : ℕ) (s : Section) (ss : List Section) → IsSection len at s
    → IsFull ss (filled_to at s) s.until → AreSections len s.until ss → AreSections len at (s ∷ ss)
unfolding IsFull
more_sections len at s [] first full rest = first
more_sections len at s (t ∷ ss) first full rest = (first, full, rest)

pub record Splits (bytes : List ℕ) (id at until : ℕ) (items : List Item) (place end : ℕ)
    : Type 0 where
  pub spelled :
      drop at bytes ≡ entries_bytes (payloads_of items)
      ++ (sections_bytes id until (sections_of items) ++ drop place bytes)
  pub fits : at + length (entries_bytes (payloads_of items)) ≤ until
  pub full :
      IsFull (sections_of items) (at + length (entries_bytes (payloads_of items))) until
  pub long : AreLong (payloads_of items)
  pub lawful : AreSections (length bytes) until (sections_of items)
  pub place_is :
      place ≡ at + length (entries_bytes (payloads_of items))
      + length (sections_bytes id until (sections_of items))
  pub end_is : end ≡ last_until until (sections_of items)
  pub entries :
      held_from at items
      ≡ entries_from at (payloads_of items) ++ entries_of until (sections_of items)

pub regroup : (m e s r : List ℕ) → m ++ (e ++ (s ++ r)) ≡ (m ++ (e ++ s)) ++ r
regroup m e s r =
    ap (λ l. m ++ l) (sym (append_assoc e s r)) ∙ sym (append_assoc m (e ++ s) r)

pub splits : (bytes : List ℕ) (id at until : ℕ) (items : List Item) (place end : ℕ) → at ≤ until
    → Trace bytes id at until items place end → Splits bytes id at until items place end
unfolding payloads_of sections_of IsFull
splits bytes id at until [] place end order way = record {
  spelled = ap (λ k. drop k bytes) way.0;
  fits = omega (arith, order);
  full = tt;
  long = tt;
  lawful = tt;
  place_is = omega (arith, way.0);
  end_is = sym way.1;
  entries = refl;
}
splits bytes id at until (Marked next ∷ items) place end order way =
    let rest = splits bytes id (at + marker_size) next items place end way.1.behind way.2 in
    let e = entries_bytes (payloads_of items) in
    let s = sections_bytes id next (sections_of items) in
    let here : at ≡ until = way.0 in
    let section : IsSection (length bytes) until
    (record { until = next; payloads = payloads_of items }) = record {
      behind = omega (arith, here, way.1.behind);
      within = way.1.within;
      fits = omega (arith, here, rest.fits);
      least = rest.long;
    } in
    record {
      spelled = way.1.spelled
          ∙ ap₂ (λ (k : ℕ) (l : List ℕ). marker_bytes id k next ++ l) here rest.spelled
          ∙ regroup (marker_bytes id until next) e s (drop place bytes);
      fits = omega (arith, here);
      full = omega (arith, here);
      long = tt;
      lawful = more_sections (length bytes) until
          (record { until = next; payloads = payloads_of items }) (sections_of items) section
          (subst (λ k. IsFull (sections_of items) (k + marker_size + length e) next) here rest.full)
          rest.lawful;
      place_is = omega (arith, rest.place_is, length-append e s);
      end_is = rest.end_is;
      entries = rest.entries
          ∙ ap (λ k. entries_from (k + marker_size) (payloads_of items)
          ++ entries_of next (sections_of items)) here;
    }
splits bytes id at until (Held p ∷ items) place end order way =
    let rest = splits bytes id
    (at + frame_size + length p) until items place end way.1.fits way.2 in
    let e = entries_bytes (payloads_of items) in
    let s = sections_bytes id until (sections_of items) in
    let size : at + frame_size + length p + length e ≡ at + length (entry_bytes p ++ e) =
    omega (arith, length-append (entry_bytes p) e, length-entry_bytes p) in
    record {
      spelled = way.1.spelled ∙ ap (λ l. entry_bytes p ++ l) rest.spelled
          ∙ sym (append_assoc (entry_bytes p) e (s ++ drop place bytes));
      fits = omega (arith, size, rest.fits);
      full = subst (λ k. IsFull (sections_of items) k until) size rest.full;
      long = (way.1.least, rest.long);
      lawful = rest.lawful;
      place_is = omega (arith, size, rest.place_is);
      end_is = rest.end_is;
      entries = ap (λ es. entry_from at p ∷ es) rest.entries;
    }

-- no payload stands before the first marker
pub none_before : (bytes : List ℕ) (id at until : ℕ) (items : List Item) (place end : ℕ)
    → Trace bytes id at until items place end → at ≡ until → payloads_of items ≡ []
unfolding payloads_of
none_before bytes id at until [] place end way full = refl
none_before bytes id at until (Marked next ∷ items) place end way full = refl
none_before bytes id at until (Held p ∷ items) place end way full =
    absurd (omega (arith, full, way.0))

-- entries, and what comes behind them
unfoldable pub helds : List (List ℕ) → List Item → List Item
helds [] tail = tail
helds (p ∷ ps) tail = Held p ∷ helds ps tail

-- the items of sections
unfoldable pub items_of : List Section → List Item
items_of [] = []
items_of (s ∷ ss) = Marked s.until ∷ helds s.payloads (items_of ss)

helds_way : (bytes : List ℕ) (id at until : ℕ) (ps : List (List ℕ)) (tail : List Item)
    (place end : ℕ) (rest : List ℕ) → drop at bytes ≡ entries_bytes ps ++ rest
    → at + length (entries_bytes ps) ≤ until → AreLong ps
    → Trace bytes id (at + length (entries_bytes ps)) until tail place end
    → Trace bytes id at until (helds ps tail) place end
unfolding helds
helds_way bytes id at until [] tail place end rest spelled fits long way =
    let same : at + 0 ≡ at = omega arith in
    subst (λ k. Trace bytes id k until tail place end) same way
helds_way bytes id at until (p ∷ ps) tail place end rest spelled fits long way =
    let e = entries_bytes ps in
    let next = at + frame_size + length p in
    let size = length-append (entry_bytes p) e in
    let one = length-entry_bytes p in
    let here : drop at bytes ≡ entry_bytes p ++ (e ++ rest) =
    spelled ∙ append_assoc (entry_bytes p) e rest in
    let there : drop next bytes ≡ e ++ rest =
    behind bytes (entry_bytes p) (e ++ rest) at next here (omega (arith, one)) in
    let all : at + length (entry_bytes p ++ e) ≡ next + length e = omega (arith, size, one) in (
      omega (arith, fits, size, one),
      record {
        spelled = here ∙ ap (λ l. entry_bytes p ++ l) (sym there);
        least = long.0;
        fits = omega (arith, fits, size, one);
      },
      helds_way bytes id next until ps tail place end rest there (omega (arith, fits, all)) long.1
          (subst (λ k. Trace bytes id k until tail place end) all way),
    )

held_from-helds : (at : ℕ) (ps : List (List ℕ)) (tail : List Item) → held_from at (helds ps tail)
    ≡ entries_from at ps ++ held_from (at + length (entries_bytes ps)) tail
unfolding helds
held_from-helds at [] tail =
    let same : at ≡ at + 0 = omega arith in ap (λ k. held_from k tail) same
held_from-helds at (p ∷ ps) tail =
    let next = at + frame_size + length p in
    let all : next + length (entries_bytes ps) ≡ at + length (entry_bytes p ++ entries_bytes ps) =
    omega (arith, length-append (entry_bytes p) (entries_bytes ps), length-entry_bytes p) in
    ap (λ es. entry_from at p ∷ es) (held_from-helds next ps tail
    ∙ ap (λ k. entries_from next ps ++ held_from k tail) all)

-- what stands behind the marker of the first section
first_spelled : (bytes : List ℕ) (id at : ℕ) (s : Section) (ss : List Section) (rest : List ℕ)
    → drop at bytes ≡ sections_bytes id at (s ∷ ss) ++ rest
    → drop (at + marker_size) bytes
    ≡ entries_bytes s.payloads ++ (sections_bytes id s.until ss ++ rest)
first_spelled bytes id at s ss rest spelled =
    let e = entries_bytes s.payloads in
    let more = sections_bytes id s.until ss in
    behind bytes (marker_bytes id at s.until) (e ++ (more ++ rest)) at (at + marker_size)
    (spelled ∙ sym (regroup (marker_bytes id at s.until) e more rest)) refl

first_marker : (bytes : List ℕ) (id at : ℕ) (s : Section) (ss : List Section) (rest : List ℕ)
    → drop at bytes ≡ sections_bytes id at (s ∷ ss) ++ rest → IsSection (length bytes) at s
    → IsMarkerAt bytes id at s.until
first_marker bytes id at s ss rest spelled section = record {
  spelled = spelled
      ∙ sym (regroup (marker_bytes id at s.until) (entries_bytes s.payloads)
      (sections_bytes id s.until ss) rest)
      ∙ ap (λ l. marker_bytes id at s.until ++ l)
      (sym (first_spelled bytes id at s ss rest spelled));
  behind = section.behind;
  within = section.within;
}

pub sections_way : (bytes : List ℕ) (id at : ℕ) (ss : List Section) (rest : List ℕ)
    → drop at bytes ≡ sections_bytes id at ss ++ rest → AreSections (length bytes) at ss
    → Trace bytes id at at (items_of ss) (at + length (sections_bytes id at ss)) (last_until at ss)
unfolding items_of
sections_way bytes id at [] rest spelled lawful =
    let same : at ≡ at + 0 = omega arith in (same, refl)
sections_way bytes id at (s ∷ []) rest spelled lawful =
    let e = entries_bytes s.payloads in
    let place = at + length (sections_bytes id at (s ∷ [])) in
    let ends : at + marker_size + length e ≡ place = omega (arith, length-append e []) in (
      refl,
      first_marker bytes id at s [] rest spelled lawful,
      helds_way bytes id (at + marker_size) s.until s.payloads [] place s.until rest
          (first_spelled bytes id at s [] rest spelled) lawful.fits lawful.least (ends, refl),
    )
sections_way bytes id at (s ∷ t ∷ ss) rest spelled lawful =
    let e = entries_bytes s.payloads in
    let more = sections_bytes id s.until (t ∷ ss) in
    let place = at + length (sections_bytes id at (s ∷ t ∷ ss)) in
    let end = last_until s.until (t ∷ ss) in
    let there = first_spelled bytes id at s (t ∷ ss) rest spelled in
    let full : at + marker_size + length e ≡ s.until = lawful.1 in
    let after : drop s.until bytes ≡ more ++ rest =
    behind bytes e (more ++ rest) (at + marker_size) s.until there (sym full) in
    let way = sections_way bytes id s.until (t ∷ ss) rest after lawful.2 in
    let ends : s.until + length more ≡ place = omega (arith, full, length-append e more) in
    let Goes : ℕ → ℕ → Type 0 =
    λ a p. Trace bytes id a s.until (items_of (t ∷ ss)) p end in (
      refl,
      first_marker bytes id at s (t ∷ ss) rest spelled lawful.0,
      helds_way bytes id (at + marker_size) s.until s.payloads (items_of (t ∷ ss)) place end
          (more ++ rest)
          there lawful.0.fits lawful.0.least
          (subst (λ a. Goes a place) (sym full) (subst (Goes s.until) ends way)),
    )

pub held_from-items_of : (len at : ℕ) (ss : List Section) → AreSections len at ss
    → held_from at (items_of ss) ≡ entries_of at ss
unfolding items_of
held_from-items_of len at [] lawful = refl
held_from-items_of len at (s ∷ []) lawful = held_from-helds (at + marker_size) s.payloads []
held_from-items_of len at (s ∷ t ∷ ss) lawful =
    held_from-helds (at + marker_size) s.payloads (items_of (t ∷ ss))
    ∙ ap (λ k. entries_from (at + marker_size) s.payloads
    ++ held_from k (items_of (t ∷ ss))) lawful.1
    ∙ ap (λ es. entries_from (at + marker_size) s.payloads ++ es)
    (held_from-items_of len s.until (t ∷ ss) lawful.2)
