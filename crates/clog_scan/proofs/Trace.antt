-- The cursor's way over a segment's bytes: markers and entries, one behind another.
use Rattle.std.proofs.Common.{
  ◌≡◌,
  ℕ,
  ◌+◌,
  ◌<◌,
  ◌≤◌,
  inl,
  inr,
  List,
  [],
  ◌∷◌,
  ◌++◌,
  length,
  Ok,
  refl,
  sym,
  ◌∙◌,
  ap,
  subst,
  arith,
}
use Rattle.clog_entry.specs.declared.marker.Marker.TheVariants as markers
use Rattle.clog_entry.specs.Reading.{marker_read, entry_read}
use Rattle.clog_entry.specs.Spelled.{IsMarkerAt, IsEntryAt, payload_at}
use Rattle.clog_entry.proofs.MarkerLaws.{marker_again}
use Rattle.clog_entry.proofs.EntryLaws.{entry_again, entry_payload}
use Rattle.clog_scan.specs.declared.answer.End.{End}
use Rattle.clog_scan.specs.declared.answer.End.TheVariants.{Clean, Torn}
use Rattle.clog_scan.specs.Laws.{IsFile}
use Rattle.clog_scan.specs.Segment.{Entry, entry_from, StopsAt}
use Rattle.clog_spec.specs.Sizes.{marker_size, frame_size}

pub data Item : Type 0 where
  Marked : (until : ℕ) → Item
  Held : (payload : List ℕ) → Item

-- from an offset, in a section that ends at another, over these items to a third and a fourth
abbrev pub Trace : List ℕ → ℕ → ℕ → ℕ → List Item → ℕ → ℕ → Type 0
Trace bytes id at until [] place end = (at ≡ place) × (until ≡ end)
Trace bytes id at until (Marked next ∷ items) place end =
    (at ≡ until) × IsMarkerAt bytes id at next × Trace bytes id
    (at + marker_size) next items place end
Trace bytes id at until (Held p ∷ items) place end =
    (at < until) × IsEntryAt bytes at until p
    × Trace bytes id (at + frame_size + length p) until items place end

-- the entries among these items
abbrev pub held_from : ℕ → List Item → List Entry
held_from at [] = []
held_from at (Marked next ∷ items) = held_from (at + marker_size) items
held_from at (Held p ∷ items) = entry_from at p ∷ held_from (at + frame_size + length p) items

pub marked_last : (bytes : List ℕ) (id at until : ℕ) (items : List Item) (place end next : ℕ)
    → Trace bytes id at until items place end → place ≡ end → IsMarkerAt bytes id place next
    → Trace bytes id at until (items ++ Marked next ∷ []) (place + marker_size) next
marked_last bytes id at until [] place end next way full marked = (
  omega (arith, way.0, way.1, full),
  subst (λ k. IsMarkerAt bytes id k next) (sym way.0) marked,
  (ap (λ k. k + marker_size) way.0, refl),
)
marked_last bytes id at until (Marked n ∷ items) place end next way full marked =
    (way.0, way.1, marked_last bytes id (at + marker_size) n items place end next way.2 full marked)
marked_last bytes id at until (Held p ∷ items) place end next way full marked = (
  way.0,
  way.1,
  marked_last bytes id (at + frame_size + length p) until items place end next way.2 full marked,
)

pub held_last : (bytes : List ℕ) (id at until : ℕ) (items : List Item) (place end : ℕ)
    (payload : List ℕ) → Trace bytes id at until items place end → place < end
    → IsEntryAt bytes place end payload
    → Trace bytes id at until (items ++ Held payload ∷ []) (place + frame_size + length payload) end
held_last bytes id at until [] place end payload way room held =
    let IsHere : ℕ → ℕ → Type 0 = λ k u. IsEntryAt bytes k u payload in (
      omega (arith, way.0, way.1, room),
      subst (λ k. IsHere k until) (sym way.0) (subst (IsHere place) (sym way.1) held),
      (ap (λ k. k + frame_size + length payload) way.0, way.1),
    )
held_last bytes id at until (Marked n ∷ items) place end payload way room held =
    (way.0, way.1, held_last bytes id (at + marker_size) n items place end payload way.2 room held)
held_last bytes id at until (Held p ∷ items) place end payload way room held = (
  way.0,
  way.1,
  held_last bytes id (at + frame_size + length p) until items place end payload way.2 room held,
)

pub held_from-marked : (bytes : List ℕ) (id at until : ℕ) (items : List Item) (place end next : ℕ)
    → Trace bytes id at until items place end
    → held_from at (items ++ Marked next ∷ []) ≡ held_from at items
held_from-marked bytes id at until [] place end next way = refl
held_from-marked bytes id at until (Marked n ∷ items) place end next way =
    held_from-marked bytes id (at + marker_size) n items place end next way.2
held_from-marked bytes id at until (Held p ∷ items) place end next way =
    ap (λ es. entry_from at p ∷ es)
    (held_from-marked bytes id (at + frame_size + length p) until items place end next way.2)

pub held_from-held : (bytes : List ℕ) (id at until : ℕ) (items : List Item) (place end : ℕ)
    (payload : List ℕ) → Trace bytes id at until items place end
    → held_from at (items ++ Held payload ∷ [])
    ≡ held_from at items ++ entry_from place payload ∷ []
held_from-held bytes id at until [] place end payload way =
    ap (λ k. entry_from k payload ∷ []) way.0
held_from-held bytes id at until (Marked n ∷ items) place end payload way =
    held_from-held bytes id (at + marker_size) n items place end payload way.2
held_from-held bytes id at until (Held p ∷ items) place end payload way =
    ap (λ es. entry_from at p ∷ es)
    (held_from-held bytes id (at + frame_size + length p) until items place end payload way.2)

-- the way goes forward
pub goes_forward : (bytes : List ℕ) (id at until : ℕ) (items : List Item) (place end : ℕ)
    → Trace bytes id at until items place end → at ≤ place
goes_forward bytes id at until [] place end way = omega (arith, way.0)
goes_forward bytes id at until (Marked n ∷ items) place end way =
    omega (arith, goes_forward bytes id (at + marker_size) n items place end way.2)
goes_forward bytes id at until (Held p ∷ items) place end way =
    omega (arith, goes_forward bytes id (at + frame_size + length p) until items place end way.2)

-- a way that comes back has gone nowhere
pub goes_nowhere : (bytes : List ℕ) (id at until : ℕ) (items : List Item) (place end : ℕ)
    → Trace bytes id at until items place end → place ≤ at → items ≡ []
goes_nowhere bytes id at until [] place end way back = refl
goes_nowhere bytes id at until (Marked n ∷ items) place end way back =
    absurd (omega (arith, back, goes_forward bytes id (at + marker_size) n items place end way.2))
goes_nowhere bytes id at until (Held p ∷ items) place end way back = absurd (omega (
  arith,
  back,
  goes_forward bytes id (at + frame_size + length p) until items place end way.2,
))

pub stays_within : (bytes : List ℕ) (id at until : ℕ) (items : List Item) (place end : ℕ)
    → Trace bytes id at until items place end → at ≤ until → until ≤ length bytes
    → (place ≤ end) × (end ≤ length bytes)
stays_within bytes id at until [] place end way order within =
    (omega (arith, way.0, way.1, order), omega (arith, way.1, within))
stays_within bytes id at until (Marked n ∷ items) place end way order within =
    stays_within bytes id (at + marker_size) n items place end way.2 way.1.behind way.1.within
stays_within bytes id at until (Held p ∷ items) place end way order within =
    stays_within bytes id (at + frame_size + length p) until items place end way.2 way.1.fits within

no_marker_where_it_stops : (bytes : List ℕ) (id at until next : ℕ) (end : End)
    → StopsAt bytes id at until end → at ≡ until
    → marker_read bytes id at ≡ Ok (markers.Section next) → ⊥
no_marker_where_it_stops bytes id at until next (Clean place) stops full read =
    let none = stops.2 in absurd cc
no_marker_where_it_stops bytes id at until next (Torn place cause) stops full read =
    elim stops.1 [
      | inl torn ↦ let none = torn.1 in absurd cc
      | inr torn ↦ absurd (omega (arith, full, torn.0))
    ]

no_entry_where_it_stops : (bytes : List ℕ) (id at until size : ℕ) (end : End)
    → StopsAt bytes id at until end → at < until → entry_read bytes at until ≡ Ok size → ⊥
no_entry_where_it_stops bytes id at until size (Clean place) stops room read =
    absurd (omega (arith, room, stops.1))
no_entry_where_it_stops bytes id at until size (Torn place cause) stops room read =
    elim stops.1 [
      | inl torn ↦ absurd (omega (arith, room, torn.0))
      | inr torn ↦ let none = torn.1 in absurd cc
    ]

pub same_marker : (bytes : List ℕ) (id at m n : ℕ) → IsFile bytes → IsMarkerAt bytes id at m
    → IsMarkerAt bytes id at n → m ≡ n
same_marker bytes id at m n file one other =
    let a = marker_again bytes id at m (omega (arith, one.within, file.short)) one in
    let b = marker_again bytes id at n (omega (arith, other.within, file.short)) other in
    cc

pub same_entry : (bytes : List ℕ) (at until : ℕ) (p q : List ℕ) → IsFile bytes
    → until ≤ length bytes → IsEntryAt bytes at until p → IsEntryAt bytes at until q → p ≡ q
same_entry bytes at until p q file within one other =
    let a = entry_again bytes at until p file.are_bytes
    (omega (arith, one.fits, within, file.short)) one in
    let b = entry_again bytes at until q file.are_bytes
    (omega (arith, other.fits, within, file.short)) other in
    let same : length p ≡ length q = cc in
    sym (entry_payload bytes at until p one) ∙ ap (payload_at bytes at) same
    ∙ entry_payload bytes at until q other

-- what one way leaves over of a way that stops
pub record GoesOn (bytes : List ℕ) (id : ℕ) (all some : List Item) (at until place end : ℕ)
    : Type 0 where
  pub more : List Item
  pub whole : all ≡ some ++ more
  pub way : Trace bytes id at until more place end

-- there is one way: each other one is a part of one that stops
pub one_way : (bytes : List ℕ) (id at until : ℕ) (all : List Item) (place end : ℕ) (stop : End)
    (some : List Item) (at' until' : ℕ) → IsFile bytes → until ≤ length bytes
    → Trace bytes id at until all place end → StopsAt bytes id place end stop
    → Trace bytes id at until some at' until' → GoesOn bytes id all some at' until' place end
one_way bytes id at until all place end stop [] at' until' file within way stops part = record {
  more = all;
  whole = refl;
  way = let Goes : ℕ → ℕ → Type 0 = λ a u. Trace bytes id a u all place end in
      subst (λ a. Goes a until') part.0 (subst (Goes at) part.1 way);
}
one_way bytes id at until [] place end stop (Marked n ∷ some) at' until' file within way stops
    part =
    absurd (no_marker_where_it_stops bytes id place end n stop stops
    (omega (arith, way.0, way.1, part.0))
    (marker_again bytes id place n (omega (arith, part.1.within, file.short))
    (subst (λ k. IsMarkerAt bytes id k n) way.0 part.1)))
one_way bytes id at until (Marked m ∷ all) place end stop (Marked n ∷ some) at' until' file within
    way stops part =
    let same : m ≡ n = same_marker bytes id at m n file way.1 part.1 in
    let rest = one_way bytes id
    (at + marker_size) n all place end stop some at' until' file part.1.within
    (subst (λ k. Trace bytes id (at + marker_size) k all place end) same way.2) stops part.2 in
    record {
      more = rest.more;
      whole = ap (λ k. Marked k ∷ all) same ∙ ap (λ l. Marked n ∷ l) rest.whole;
      way = rest.way;
    }
one_way bytes id at until (Held p ∷ all) place end stop (Marked n ∷ some) at' until' file within
    way stops part = absurd (omega (arith, way.0, part.0))
one_way bytes id at until [] place end stop (Held q ∷ some) at' until' file within way stops part =
    let IsHere : ℕ → ℕ → Type 0 = λ k u. IsEntryAt bytes k u q in
    absurd (no_entry_where_it_stops bytes id place end (length q) stop stops
    (omega (arith, way.0, way.1, part.0))
    (entry_again bytes place end q file.are_bytes
    (omega (arith, part.1.fits, within, file.short))
    (subst (λ k. IsHere k end) way.0 (subst (IsHere at) way.1 part.1))))
one_way bytes id at until (Marked m ∷ all) place end stop (Held q ∷ some) at' until' file within
    way stops part = absurd (omega (arith, way.0, part.0))
one_way bytes id at until (Held p ∷ all) place end stop (Held q ∷ some) at' until' file within
    way stops part =
    let same : p ≡ q = same_entry bytes at until p q file within way.1 part.1 in
    let rest = one_way bytes id
    (at + frame_size + length q) until all place end stop some at' until' file
    within (subst (λ l. Trace bytes id
    (at + frame_size + length l) until all place end) same way.2) stops
    part.2 in
    record {
      more = rest.more;
      whole = ap (λ l. Held l ∷ all) same ∙ ap (λ l. Held q ∷ l) rest.whole;
      way = rest.way;
    }
