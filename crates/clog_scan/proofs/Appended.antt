-- Whole sections behind a file that ends clean at its own end.
use Rattle.std.proofs.Common.{
  ◌≡◌,
  ℕ,
  ◌+◌,
  ◌≤◌,
  List,
  [],
  ◌∷◌,
  ◌++◌,
  length,
  drop,
  Option,
  Some,
  None,
  refl,
  sym,
  ◌∙◌,
  ap,
  ap₂,
  subst,
  arith,
  append_assoc,
}
use Rattle.std.proofs.lemmas.List.{append-nil, drop_all, length-append}
use Rattle.clog_spec.specs.Segment.{header_bytes, marker_bytes, section_bytes}
use Rattle.clog_scan.specs.declared.answer.End.TheVariants.{Clean}
use Rattle.clog_scan.specs.Cut.{
  Section,
  entries_bytes,
  sections_bytes,
  front_bytes,
  AreLong,
  IsSection,
  AreSections,
  IsFront,
  last_until,
}
use Rattle.clog_scan.specs.Laws.{IsFile, AreWhole}
use Rattle.clog_scan.specs.Segment.{
  Entry,
  entries_from,
  entries_of,
  front_entries,
  EndsBy,
  IsSegment,
}
use Rattle.clog_scan.proofs.Sections.{regroup}
use Rattle.clog_scan.proofs.Written.{written}
use Rattle.clog_spec.specs.Sizes.{header_size, marker_size}

-- ---- lists of sections joined

pub sections_bytes-append : (id at : ℕ) (ss more : List Section)
    → sections_bytes id at (ss ++ more)
    ≡ sections_bytes id at ss ++ sections_bytes id (last_until at ss) more
sections_bytes-append id at [] more = refl
sections_bytes-append id at (s ∷ ss) more =
    let marker = marker_bytes id at s.until in
    let e = entries_bytes s.payloads in
    ap (λ l. marker ++ (e ++ l)) (sections_bytes-append id s.until ss more)
    ∙ regroup marker e (sections_bytes id s.until ss)
    (sections_bytes id (last_until s.until ss) more)

pub entries_of-append : (at : ℕ) (ss more : List Section)
    → entries_of at (ss ++ more) ≡ entries_of at ss ++ entries_of (last_until at ss) more
entries_of-append at [] more = refl
entries_of-append at (s ∷ ss) more =
    let first = entries_from (at + marker_size) s.payloads in
    ap (λ l. first ++ l) (entries_of-append s.until ss more)
    ∙ sym (append_assoc first (entries_of s.until ss) (entries_of (last_until s.until ss) more))

pub whole-append : (len at : ℕ) (ss more : List Section) → AreWhole len at ss
    → AreWhole len (last_until at ss) more → AreWhole len at (ss ++ more)
whole-append len at [] more whole behind = behind
whole-append len at (s ∷ ss) more whole behind =
    (whole.0, whole.1, whole-append len s.until ss more whole.2 behind)

pub section_longer : (len len' at : ℕ) (s : Section) → len ≤ len' → IsSection len at s
    → IsSection len' at s
section_longer len len' at s longer is = record {
  behind = is.behind;
  within = omega (arith, longer, is.within);
  fits = is.fits;
  least = is.least;
}

pub whole_longer : (len len' at : ℕ) (ss : List Section) → len ≤ len' → AreWhole len at ss
    → AreWhole len' at ss
whole_longer len len' at [] longer whole = tt
whole_longer len len' at (s ∷ ss) longer whole = (
  section_longer len len' at s longer whole.0,
  whole.1,
  whole_longer len len' s.until ss longer whole.2,
)

-- sections that reach to the end of the last one are whole
pub whole_by_size : (id len at : ℕ) (ss : List Section) → AreSections len at ss
    → at + length (sections_bytes id at ss) ≡ last_until at ss → AreWhole len at ss
whole_by_size id len at [] lawful full = tt
whole_by_size id len at (s ∷ []) lawful full =
    let e = entries_bytes s.payloads in
    (lawful, omega (arith, full, length-append e []), tt)
whole_by_size id len at (s ∷ t ∷ ss) lawful full =
    let e = entries_bytes s.payloads in
    let more = sections_bytes id s.until (t ∷ ss) in
    let here : at + marker_size + length e ≡ s.until = lawful.1 in
    let rest : s.until + length more ≡ last_until s.until (t ∷ ss) =
    omega (arith, full, here, length-append e more) in
    (lawful.0, here, whole_by_size id len s.until (t ∷ ss) lawful.2 rest)

-- ---- sections behind a file

behind_front : (bytes new : List ℕ) (id : ℕ) (entries : List Entry) (more : List Section)
    (front : Option (List Section)) → IsFile new
    → new ≡ bytes ++ sections_bytes id (length bytes) more
    → AreWhole (length new) (length bytes) more → IsFront bytes id front
    → entries ≡ front_entries front → EndsBy bytes id front (Clean (length bytes))
    → IsSegment new id (entries ++ entries_of (length bytes) more) (Clean (length new))
behind_front bytes new id entries more None file is whole is_front are ends =
    let torn = ends.2 in absurd cc
behind_front bytes new id entries more (Some ss) file is whole is_front are ends =
    let len = length bytes in
    let front = front_bytes id (Some ss) in
    let at = length front in
    let reached : len ≡ at = ends.0 in
    let full : at ≡ last_until header_size ss = ends.1 in
    let last : len ≡ last_until header_size ss = reached ∙ full in
    let nothing : drop at bytes ≡ [] = drop_all at bytes (omega (arith, reached)) in
    let all : bytes ≡ front = is_front.cut ∙ ap (λ l. front ++ l) nothing ∙ append-nil front in
    let s = sections_bytes id header_size ss in
    let header = header_bytes id in
    let sized : header_size + length s ≡ at = omega arith in
    let longer : len ≤ length new =
    omega (arith, ap length is, length-append bytes (sections_bytes id len more)) in
    let old : AreWhole (length new) header_size ss = whole_longer len
    (length new) header_size ss longer
    (whole_by_size id len header_size ss is_front.sections (sized ∙ full)) in
    let both : AreWhole (length new) header_size (ss ++ more) = whole-append
    (length new) header_size ss more old
    (subst (λ k. AreWhole (length new) k more) last whole) in
    let spelled : new ≡ header ++ sections_bytes id header_size (ss ++ more) =
    is ∙ ap₂ (λ (l : List ℕ) (k : ℕ). l ++ sections_bytes id k more) all last
    ∙ append_assoc header s (sections_bytes id (last_until header_size ss) more)
    ∙ ap (λ l. header ++ l) (sym (sections_bytes-append id header_size ss more)) in
    let held : entries_of header_size (ss ++ more) ≡ entries ++ entries_of len more =
    entries_of-append header_size ss more
    ∙ ap₂ (λ (l : List Entry) (k : ℕ). l ++ entries_of k more) (sym are) (sym last) in
    subst (λ es. IsSegment new id es (Clean (length new))) held
    (written new id (ss ++ more) file spelled both)

pub sections_behind : (bytes new : List ℕ) (id : ℕ) (entries : List Entry) (more : List Section)
    → IsFile new → new ≡ bytes ++ sections_bytes id (length bytes) more
    → AreWhole (length new) (length bytes) more → IsSegment bytes id entries (Clean (length bytes))
    → IsSegment new id (entries ++ entries_of (length bytes) more) (Clean (length new))
sections_behind bytes new id entries more file is whole held =
    behind_front bytes new id entries more held.front file is whole held.is_front held.entries_are
    held.ends

-- a section that its entries fill
abbrev filled : ℕ → List (List ℕ) → Section
filled at payloads = record {
  until = at + marker_size + length (entries_bytes payloads);
  payloads = payloads;
}

pub section_behind : (bytes new : List ℕ) (id : ℕ) (entries : List Entry)
    (payloads : List (List ℕ)) → IsFile new
    → new ≡ bytes ++ section_bytes id (length bytes) (entries_bytes payloads) → AreLong payloads
    → IsSegment bytes id entries (Clean (length bytes))
    → IsSegment new id (entries ++ entries_from (length bytes + marker_size) payloads) (Clean
    (length new))
section_behind bytes new id entries payloads file is long held =
    let len = length bytes in
    let e = entries_bytes payloads in
    let s = filled len payloads in
    let marker = marker_bytes id len s.until in
    let spelled : new ≡ bytes ++ sections_bytes id len (s ∷ []) =
    is ∙ ap (λ l. bytes ++ (marker ++ l)) (sym (append-nil e)) in
    let sized : length new ≡ len + (marker_size + length e) =
    omega (arith, ap length is, length-append bytes (marker ++ e)) in
    let whole : AreWhole (length new) len (s ∷ []) = (
      record {
        behind = omega arith;
        within = omega (arith, sized);
        fits = omega arith;
        least = long;
      },
      refl,
      tt,
    ) in
    let own = entries_from (len + marker_size) payloads in
    subst (λ es. IsSegment new id (entries ++ es) (Clean (length new))) (append-nil own)
    (sections_behind bytes new id entries (s ∷ []) file spelled whole held)
