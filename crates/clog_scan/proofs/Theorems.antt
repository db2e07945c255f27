-- Each string of bytes is a segment in one way.
use Rattle.std.proofs.Common.{
  ◌≡◌,
  ℕ,
  ◌+◌,
  ◌^◌,
  ◌<◌,
  ◌≤◌,
  ◌⊎◌,
  inl,
  inr,
  List,
  [],
  ◌++◌,
  length,
  drop,
  Option,
  Some,
  None,
  Err,
  refl,
  sym,
  ◌∙◌,
  ap,
  ap₂,
  subst,
  arith,
  append_assoc,
}
use Rattle.std.proofs.lemmas.List.{append-nil}
use Rattle.clog_spec.specs.Segment.{header_bytes}
use Rattle.clog_entry.specs.declared.cause.Cause.{Cause}
use Rattle.clog_entry.specs.Reading.{header_read, marker_read, entry_read}
use Rattle.clog_entry.specs.Spelled.{IsHeaderAt}
use Rattle.clog_entry.proofs.HeaderLaws.{header_again}
use Rattle.clog_scan.specs.declared.answer.End.{End}
use Rattle.clog_scan.specs.declared.answer.End.TheVariants.{Clean, Torn}
use Rattle.clog_scan.specs.Cut.{
  Section,
  entries_bytes,
  sections_bytes,
  front_bytes,
  IsFront,
  last_until,
}
use Rattle.clog_scan.specs.Segment.{
  Entry,
  entries_from,
  entries_of,
  front_entries,
  StopsAt,
  EndsBy,
  IsSegment,
}
use Rattle.clog_scan.specs.Laws.{IsFile, AreOne, Reaches}
use Rattle.clog_scan.proofs.Trace.{Item, Trace, held_from, goes_forward, goes_nowhere, one_way}
use Rattle.clog_scan.proofs.Sections.{
  none_before,
  payloads_of,
  sections_of,
  splits,
  items_of,
  sections_way,
  held_from-items_of,
}
use Rattle.clog_spec.specs.Sizes.{header_size}
use Rattle.clog_scan.specs.Walks.{HasCome}

-- behind the header of a front stand its sections
behind_header : (bytes : List ℕ) (id : ℕ) (ss : List Section) → IsFront bytes id (Some ss)
    → drop header_size bytes
    ≡ sections_bytes id header_size ss ++ drop (length (front_bytes id (Some ss))) bytes
behind_header bytes id ss front = ap (drop header_size) front.cut

pub front_header : (bytes : List ℕ) (id : ℕ) (ss : List Section) → IsFront bytes id (Some ss)
    → IsHeaderAt bytes id
front_header bytes id ss front =
    front.cut
    ∙ append_assoc (header_bytes id) (sections_bytes id header_size ss)
    (drop (length (front_bytes id (Some ss))) bytes)
    ∙ ap (λ l. header_bytes id ++ l) (sym (behind_header bytes id ss front))

-- a front is a way over its items
pub front_way : (bytes : List ℕ) (id : ℕ) (ss : List Section) → IsFront bytes id (Some ss)
    → Trace bytes id header_size header_size (items_of ss) (length (front_bytes id (Some ss)))
    (last_until header_size ss)
front_way bytes id ss front =
    let same : header_size + length (sections_bytes id header_size ss)
    ≡ length (front_bytes id (Some ss)) =
    omega arith in
    subst (λ k. Trace bytes id header_size header_size (items_of ss) k
    (last_until header_size ss)) same
    (sections_way bytes id header_size ss (drop (length (front_bytes id (Some ss))) bytes)
    (behind_header bytes id ss front) front.sections)

pub header_long : (bytes : List ℕ) (id : ℕ) → IsHeaderAt bytes id → header_size ≤ length bytes
header_long bytes id is = omega (arith, ap length is)

no_longer : (bytes : List ℕ) (id : ℕ) (items : List Item) (at until : ℕ) (end : End) → IsFile bytes
    → IsHeaderAt bytes id → Trace bytes id header_size header_size items at until
    → StopsAt bytes id at until end
    → (other : Option (List Section)) → IsFront bytes id other
    → length (front_bytes id other) ≤ at
no_longer bytes id items at until end file header way stops None front = omega arith
no_longer bytes id items at until end file header way stops (Some ss) front =
    let on = one_way bytes id header_size header_size items at until end (items_of ss)
    (length (front_bytes id (Some ss))) (last_until header_size ss) file
    (header_long bytes id header) way
    stops (front_way bytes id ss front) in
    goes_forward bytes id (length (front_bytes id (Some ss)))
    (last_until header_size ss) on.more at until
    on.way

-- a way behind the header is a front
pub front_by_way : (bytes : List ℕ) (id : ℕ) (items : List Item) (at until : ℕ)
    → IsHeaderAt bytes id → Trace bytes id header_size header_size items at until
    → Reaches bytes id at until
front_by_way bytes id items at until header way =
    let ss = sections_of items in
    let s = sections_bytes id header_size ss in
    let parts = splits bytes id header_size header_size items at until (omega arith) way in
    let none : payloads_of items ≡ [] =
    none_before bytes id header_size header_size items at until way refl in
    let ends : at ≡ length (header_bytes id ++ s) =
    parts.place_is
    ∙ ap (λ ps. header_size + length (entries_bytes ps) + length s) none ∙ omega arith in
    let behind : drop header_size bytes ≡ s ++ drop at bytes =
    parts.spelled ∙ ap (λ ps. entries_bytes ps ++ (s ++ drop at bytes)) none in
    record {
      sections = ss;
      front = record {
        cut = header ∙ ap (λ l. header_bytes id ++ l) behind
            ∙ sym (append_assoc (header_bytes id) s (drop at bytes))
            ∙ ap (λ k. (header_bytes id ++ s) ++ drop k bytes) ends;
        sections = parts.lawful;
      };
      place = ends;
      end = parts.end_is;
    }

-- a way behind the header comes to its place
pub come_by_way : (bytes : List ℕ) (id : ℕ) (items : List Item) (at until : ℕ)
    → IsHeaderAt bytes id → Trace bytes id header_size header_size items at until → at ≤ until
    → until ≤ length bytes → HasCome bytes id at until (held_from header_size items)
unfolding front_by_way
come_by_way bytes id items at until header way order within =
    let reached = front_by_way bytes id items at until header way in
    let ss = sections_of items in
    let parts = splits bytes id header_size header_size items at until (omega arith) way in
    let none : payloads_of items ≡ [] =
    none_before bytes id header_size header_size items at until way refl in
    record {
      header = header;
      sections = ss;
      front = reached.front;
      place = reached.place;
      end = reached.end;
      given_are = parts.entries
          ∙ ap (λ ps. entries_from header_size ps ++ entries_of header_size ss) none;
      order = order;
      within = within;
    }

-- a way that stops tells what the bytes hold
pub segment_by_way : (bytes : List ℕ) (id : ℕ) (items : List Item) (at until : ℕ) (end : End)
    → IsFile bytes → IsHeaderAt bytes id → Trace bytes id header_size header_size items at until
    → StopsAt bytes id at until end → IsSegment bytes id (held_from header_size items) end
unfolding front_by_way
segment_by_way bytes id items at until end file header way stops =
    let reached = front_by_way bytes id items at until header way in
    let ss = sections_of items in
    let parts = splits bytes id header_size header_size items at until (omega arith) way in
    let none : payloads_of items ≡ [] =
    none_before bytes id header_size header_size items at until way refl in
    let Stops : ℕ → ℕ → Type 0 = λ a u. StopsAt bytes id a u end in
    record {
      front = Some ss;
      is_front = reached.front;
      longest = λ other front.
          let most = no_longer bytes id items at until end file header way stops other front in
          omega (arith, most, reached.place);
      entries_are = parts.entries
          ∙ ap (λ ps. entries_from header_size ps ++ entries_of header_size ss) none;
      ends = subst (λ a. Stops a (last_until header_size ss)) reached.place
          (subst (Stops at) reached.end stops);
    }

pub no_front_without_header : (bytes : List ℕ) (id : ℕ) (cause : Cause) → id < 2 ^ 64
    → header_read bytes id ≡ Err cause → (ss : List Section) → IsFront bytes id (Some ss) → ⊥
no_front_without_header bytes id cause fits none ss front =
    let there = header_again bytes id fits (front_header bytes id ss front) in absurd cc

nothing_longer : (bytes : List ℕ) (id : ℕ) (cause : Cause) → id < 2 ^ 64
    → header_read bytes id ≡ Err cause → (other : Option (List Section)) → IsFront bytes id other
    → length (front_bytes id other) ≤ 0
nothing_longer bytes id cause fits none None front = omega arith
nothing_longer bytes id cause fits none (Some ss) front =
    absurd (no_front_without_header bytes id cause fits none ss front)

-- with no header in front nothing is held
pub segment_without_header : (bytes : List ℕ) (id : ℕ) (cause : Cause) → id < 2 ^ 64
    → header_read bytes id ≡ Err cause → IsSegment bytes id [] (Torn 0 cause)
segment_without_header bytes id cause fits none = record {
  front = None;
  is_front = record { cut = refl; sections = tt };
  longest = nothing_longer bytes id cause fits none;
  entries_are = refl;
  ends = (cause, none, refl);
}

one_cause : (bytes : List ℕ) (id at until : ℕ) (c d : Cause)
    → ((at ≡ until) × (marker_read bytes id at ≡ Err c))
    ⊎ ((at < until) × (entry_read bytes at until ≡ Err c))
    → ((at ≡ until) × (marker_read bytes id at ≡ Err d))
    ⊎ ((at < until) × (entry_read bytes at until ≡ Err d)) → c ≡ d
one_cause bytes id at until c d (inl one) (inl other) = let a = one.1 in let b = other.1 in cc
one_cause bytes id at until c d (inl one) (inr other) = absurd (omega (arith, one.0, other.0))
one_cause bytes id at until c d (inr one) (inl other) = absurd (omega (arith, one.0, other.0))
one_cause bytes id at until c d (inr one) (inr other) = let a = one.1 in let b = other.1 in cc

one_stop : (bytes : List ℕ) (id at until : ℕ) (end end' : End) → StopsAt bytes id at until end
    → StopsAt bytes id at until end' → end ≡ end'
one_stop bytes id at until (Clean p) (Clean q) one other = ap Clean (one.0 ∙ sym other.0)
one_stop bytes id at until (Clean p) (Torn q c) one other = elim other.1 [
  | inl torn ↦ let a = one.2 in let b = torn.1 in absurd cc
  | inr torn ↦ absurd (omega (arith, one.1, torn.0))
]
one_stop bytes id at until (Torn p c) (Clean q) one other = elim one.1 [
  | inl torn ↦ let a = other.2 in let b = torn.1 in absurd cc
  | inr torn ↦ absurd (omega (arith, other.1, torn.0))
]
one_stop bytes id at until (Torn p c) (Torn q d) one other =
    ap₂ Torn (one.0 ∙ sym other.0) (one_cause bytes id at until c d one.1 other.1)

one_answer : (bytes : List ℕ) (id : ℕ) (entries : List Entry) (end : End) (entries' : List Entry)
    (end' : End) (front front' : Option (List Section)) → IsFile bytes → id < 2 ^ 64
    → IsFront bytes id front → IsFront bytes id front' → entries ≡ front_entries front
    → entries' ≡ front_entries front' → EndsBy bytes id front end → EndsBy bytes id front' end'
    → AreOne entries end entries' end'
one_answer bytes id entries end entries' end' None None file fits front front' are are' ends ends' =
    let a = ends.1 in
    let b = ends'.1 in
    let same : ends.0 ≡ ends'.0 = cc in
    record {
      entries_are = are ∙ sym are';
      ends_are = ends.2 ∙ ap (Torn 0) same ∙ sym ends'.2;
    }
one_answer bytes id entries end entries' end' None (Some ss) file fits front front' are are' ends
    ends' = absurd (no_front_without_header bytes id ends.0 fits ends.1 ss front')
one_answer bytes id entries end entries' end' (Some ss) None file fits front front' are are' ends
    ends' = absurd (no_front_without_header bytes id ends'.0 fits ends'.1 ss front)
one_answer bytes id entries end entries' end' (Some ss) (Some ss') file fits front front' are are'
    ends ends' =
    let at = length (front_bytes id (Some ss)) in
    let at' = length (front_bytes id (Some ss')) in
    let until = last_until header_size ss in
    let until' = last_until header_size ss' in
    let long = header_long bytes id (front_header bytes id ss front) in
    let way = front_way bytes id ss front in
    let way' = front_way bytes id ss' front' in
    let on = one_way bytes id header_size header_size (items_of ss) at until end
    (items_of ss') at' until' file long
    way ends way' in
    let on' = one_way bytes id header_size header_size (items_of ss') at' until' end'
    (items_of ss) at until file long
    way' ends' way in
    let up = goes_forward bytes id at' until' on.more at until on.way in
    let down = goes_forward bytes id at until on'.more at' until' on'.way in
    let none : on.more ≡ [] =
    goes_nowhere bytes id at' until' on.more at until on.way down in
    let items : items_of ss ≡ items_of ss' =
    on.whole ∙ ap (λ l. items_of ss' ++ l) none ∙ append-nil (items_of ss') in
    let still : Trace bytes id at' until' [] at until =
    subst (λ l. Trace bytes id at' until' l at until) none on.way in
    let Stops : ℕ → ℕ → Type 0 = λ a u. StopsAt bytes id a u end' in
    record {
      entries_are = are ∙ sym (held_from-items_of (length bytes) header_size ss front.sections)
          ∙ ap (held_from header_size) items ∙ held_from-items_of
          (length bytes) header_size ss' front'.sections
          ∙ sym are';
      ends_are = one_stop bytes id at until end end' ends
          (subst (λ a. Stops a until) still.0 (subst (Stops at') still.1 ends'));
    }

-- the bytes hold one list of entries, and have one end
pub one_segment : (bytes : List ℕ) (id : ℕ) (entries : List Entry) (end : End)
    (entries' : List Entry) (end' : End) → IsFile bytes → id < 2 ^ 64
    → IsSegment bytes id entries end → IsSegment bytes id entries' end'
    → AreOne entries end entries' end'
one_segment bytes id entries end entries' end' file fits one other =
    one_answer bytes id entries end entries' end' one.front other.front file fits one.is_front
    other.is_front one.entries_are other.entries_are one.ends other.ends
