-- Where markers and entries stand: among the items of a way, and among sections.
use Rattle.std.proofs.Common.{
  ◌≡◌,
  ℕ,
  ◌+◌,
  ◌<◌,
  ◌≤◌,
  inl,
  inr,
  List,
  [],
  ◌∷◌,
  ◌++◌,
  length,
  refl,
  ◌∙◌,
  ap,
  arith,
}
use Rattle.std.specs.Prelude.{Contains}
use Rattle.std.proofs.lemmas.List.{length-append}
use Rattle.std.proofs.lemmas.List.Elements.{Contains-append_cases}
use Rattle.clog_spec.specs.Sizes.{frame_size, marker_size}
use Rattle.clog_spec.specs.Segment.{entry_bytes}
use Rattle.clog_spec.proofs.Lengths.{length-entry_bytes}
use Rattle.clog_base.proofs.Members.{nothing_there, first_or_further}
use Rattle.clog_scan.specs.Cut.{Section, entries_bytes, last_until}
use Rattle.clog_scan.specs.Laws.{AreWhole}
use Rattle.clog_scan.specs.Segment.{Entry, entry_from, entries_from, entries_of}
use Rattle.clog_scan.proofs.Sections.{items_of, helds}
use Rattle.clog_scan.proofs.Trace.{Item, Marked, Held, Trace, held_from}
use Rattle.clog_crash.specs.Chance.{marks_of}
use Rattle.clog_crash.proofs.torn.Whole.{until_grows}

-- ---- among items

-- where the markers among these items stand
abbrev pub marks_from : ℕ → List Item → List ℕ
marks_from at [] = []
marks_from at (Marked next ∷ items) = at ∷ marks_from (at + marker_size) items
marks_from at (Held p ∷ items) = marks_from (at + frame_size + length p) items

pub marks_above : (at : ℕ) (items : List Item) (q : ℕ) → Contains (marks_from at items) q → at ≤ q
marks_above at [] q h = absurd (nothing_there q h)
marks_above at (Marked next ∷ items) q h =
    elim (first_or_further at (marks_from (at + marker_size) items) q h) [
      | inl here ↦ omega (arith, here)
      | inr more ↦ omega (arith, marks_above (at + marker_size) items q more)
    ]
marks_above at (Held p ∷ items) q h =
    omega (arith, marks_above (at + frame_size + length p) items q h)

pub held_above : (at : ℕ) (items : List Item) (e : Entry) → Contains (held_from at items) e
    → at ≤ e.start
held_above at [] e h = absurd (nothing_there e h)
held_above at (Marked next ∷ items) e h = omega (arith, held_above (at + marker_size) items e h)
held_above at (Held p ∷ items) e h =
    elim (first_or_further (entry_from at p) (held_from (at + frame_size + length p) items) e h) [
      | inl here ↦ omega (arith, ap (λ (x : Entry). x.start) here)
      | inr more ↦ omega (arith, held_above (at + frame_size + length p) items e more)
    ]

pub marks_from-append : (bytes : List ℕ) (id at until : ℕ) (items more : List Item)
    (place end : ℕ) → Trace bytes id at until items place end
    → marks_from at (items ++ more) ≡ marks_from at items ++ marks_from place more
marks_from-append bytes id at until [] more place end way = ap (λ k. marks_from k more) way.0
marks_from-append bytes id at until (Marked next ∷ items) more place end way =
    ap (λ ms. at ∷ ms) (marks_from-append bytes id
    (at + marker_size) next items more place end way.2)
marks_from-append bytes id at until (Held p ∷ items) more place end way =
    marks_from-append bytes id (at + frame_size + length p) until items more place end way.2

-- ---- among sections

-- how many bytes there are once one entry more is laid before others
pub entries_longer : (at : ℕ) (p : List ℕ) (ps : List (List ℕ))
    → at + frame_size + length p + length (entries_bytes ps) ≡ at + length (entries_bytes (p ∷ ps))
entries_longer at p ps =
    omega (arith, length-append (entry_bytes p) (entries_bytes ps), length-entry_bytes p)

marks_from-helds : (at : ℕ) (ps : List (List ℕ)) (tail : List Item)
    → marks_from at (helds ps tail) ≡ marks_from (at + length (entries_bytes ps)) tail
unfolding helds
marks_from-helds at [] tail =
    let same : at ≡ at + 0 = omega arith in ap (λ k. marks_from k tail) same
marks_from-helds at (p ∷ ps) tail =
    marks_from-helds (at + frame_size + length p) ps tail
    ∙ ap (λ k. marks_from k tail) (entries_longer at p ps)

pub marks_from-items_of : (len at : ℕ) (ss : List Section) → AreWhole len at ss
    → marks_from at (items_of ss) ≡ marks_of at ss
unfolding items_of
marks_from-items_of len at [] whole = refl
marks_from-items_of len at (s ∷ ss) whole =
    ap (λ ms. at ∷ ms)
    (marks_from-helds (at + marker_size) s.payloads (items_of ss)
    ∙ ap (λ k. marks_from k (items_of ss)) whole.1
    ∙ marks_from-items_of len s.until ss whole.2)

pub marks_of-append : (at : ℕ) (ss more : List Section)
    → marks_of at (ss ++ more) ≡ marks_of at ss ++ marks_of (last_until at ss) more
marks_of-append at [] more = refl
marks_of-append at (s ∷ ss) more = ap (λ ms. at ∷ ms) (marks_of-append s.until ss more)

-- markers stand before the end of their sections
pub marks_below : (len at : ℕ) (ss : List Section) (q : ℕ) → AreWhole len at ss
    → Contains (marks_of at ss) q → q < last_until at ss
marks_below len at [] q whole h = absurd (nothing_there q h)
marks_below len at (s ∷ ss) q whole h = elim (first_or_further at (marks_of s.until ss) q h) [
  | inl here ↦
      omega (arith, here, whole.0.behind, until_grows len s.until ss whole.2)
  | inr more ↦ marks_below len s.until ss q whole.2 more
]

entries_below : (at : ℕ) (ps : List (List ℕ)) (e : Entry) → Contains (entries_from at ps) e
    → e.start < at + length (entries_bytes ps)
entries_below at [] e h = absurd (nothing_there e h)
entries_below at (p ∷ ps) e h =
    let next = at + frame_size + length p in
    elim (first_or_further (entry_from at p) (entries_from next ps) e h) [
      | inl here ↦
          omega (arith, ap (λ (x : Entry). x.start) here, entries_longer at p ps)
      | inr more ↦ omega (arith, entries_below next ps e more, entries_longer at p ps)
    ]

-- and entries too
pub held_below : (len at : ℕ) (ss : List Section) (e : Entry) → AreWhole len at ss
    → Contains (entries_of at ss) e → e.start < last_until at ss
held_below len at [] e whole h = absurd (nothing_there e h)
held_below len at (s ∷ ss) e whole h =
    elim (Contains-append_cases (entries_from (at + marker_size) s.payloads)
    (entries_of s.until ss) e h) [
      | inl here ↦ omega (
        arith,
        entries_below (at + marker_size) s.payloads e here,
        whole.1,
        until_grows len s.until ss whole.2,
      )
      | inr more ↦ held_below len s.until ss e whole.2 more
    ]
