-- A segment that is not torn has nothing by chance.
use Rattle.std.proofs.Common.{
  ◌≡◌,
  ℕ,
  ◌+◌,
  ◌<◌,
  ◌≤◌,
  List,
  [],
  ◌∷◌,
  ◌++◌,
  length,
  drop,
  Some,
  refl,
  sym,
  ◌∙◌,
  ap,
  subst,
  arith,
}
use Rattle.std.specs.Prelude.{Contains}
use Rattle.std.proofs.lemmas.List.{append-nil, drop_all, length-append}
use Rattle.std.proofs.lemmas.List.Elements.{Contains-append_right}
use Rattle.clog_spec.specs.Sizes.{frame_size, header_size, marker_size}
use Rattle.clog_spec.specs.Segment.{entry_bytes}
use Rattle.clog_spec.proofs.Lengths.{length-entry_bytes}
use Rattle.clog_base.proofs.Members.{here}
use Rattle.clog_entry.specs.Spelled.{IsHeaderAt, IsMarkerAt, IsEntryAt}
use Rattle.clog_scan.specs.declared.answer.End.TheVariants.{Clean}
use Rattle.clog_scan.specs.Cut.{Section, front_bytes, last_until, IsFront}
use Rattle.clog_scan.specs.Laws.{IsFile, Reaches}
use Rattle.clog_scan.specs.Segment.{Entry, entry_from, entries_of, StopsAt}
use Rattle.clog_scan.proofs.Behind.{held_from-append}
use Rattle.clog_scan.proofs.Sections.{items_of, held_from-items_of}
use Rattle.clog_scan.proofs.Theorems.{front_way, front_header, header_long}
use Rattle.clog_scan.proofs.Trace.{
  Item,
  Marked,
  Held,
  Trace,
  GoesOn,
  held_from,
  one_way,
  same_entry,
  stays_within,
}
use Rattle.clog_scan.proofs.Written.{whole_sections, ends_there}
use Rattle.clog_crash.specs.Chance.{marks_of, NoChance}
use Rattle.clog_crash.specs.Sections.{segment_bytes, IsStored}
use Rattle.clog_crash.proofs.rest.Sectioned.{is_file, ends_at}
use Rattle.clog_crash.proofs.torn.Marks.{
  marks_from,
  marks_from-append,
  marks_from-items_of,
}

empty_entry : (at until : ℕ) (p : List ℕ) → IsEntryAt [] at until p → ⊥
empty_entry at until p is =
    let none : drop {A = ℕ} at [] ≡ [] = drop_all at [] (omega arith) in
    let long = ap length (sym none ∙ is.spelled) in
    absurd (omega (
      arith,
      long,
      length-entry_bytes p,
      length-append (entry_bytes p) (drop (at + frame_size + length p) []),
    ))

module _ (id : ℕ) (s : Section) (ss : List Section) (stored : IsStored id (s ∷ ss)) where
  abbrev all : List Section
  all = s ∷ ss

  abbrev bytes : List ℕ
  bytes = segment_bytes id all

  file : IsFile bytes
  file = is_file id all stored

  none_behind : drop (length bytes) bytes ≡ []
  none_behind = drop_all (length bytes) bytes (omega arith)

  front : IsFront bytes id (Some all)
  front = record {
    cut = sym (append-nil bytes) ∙ ap (λ (l : List ℕ). bytes ++ l) (sym none_behind);
    sections = whole_sections (length bytes) header_size all stored.whole;
  }

  header : IsHeaderAt bytes id
  header = front_header bytes id all front

  way : Trace bytes id header_size header_size (items_of all) (length bytes)
      (last_until header_size all)
  way = front_way bytes id all front

  stops : StopsAt bytes id (length bytes) (last_until header_size all) (Clean (length bytes))
  stops = (
    refl,
    ends_at id (length bytes) s ss stored.whole,
    ends_there bytes id (length bytes) (omega arith),
  )

  -- ---- what a place that is reached leaves of the way

  abbrev Leaves : List Section → List Item → ℕ → ℕ → Type 0
  Leaves sections more at until = (items_of all ≡ items_of sections ++ more)
      × Trace bytes id header_size header_size (items_of sections) at until
      × Trace bytes id at until more (length bytes) (last_until header_size all)

  marker_among : (sections : List Section) (more : List Item) (at until next : ℕ)
      → Leaves sections more at until → at ≡ until → IsMarkerAt bytes id at next
      → Contains (marks_of header_size all) at
  marker_among sections [] at until next l full marked =
      absurd (omega (arith, l.2.0, marked.behind, marked.within))
  marker_among sections (Held p ∷ more) at until next l full marked =
      absurd (omega (arith, l.2.0, full))
  marker_among sections (Marked m ∷ more) at until next l full marked =
      let marks_are : marks_from header_size (items_of sections) ++ marks_from at (Marked m ∷ more)
      ≡ marks_of header_size all =
      sym (marks_from-append bytes id header_size header_size (items_of sections)
      (Marked m ∷ more) at until l.1)
      ∙ ap (marks_from header_size) (sym l.0) ∙ marks_from-items_of
      (length bytes) header_size all stored.whole in
      subst (λ (ms : List ℕ). Contains ms at) marks_are
      (Contains-append_right (marks_from header_size (items_of sections))
      (at ∷ marks_from (at + marker_size) more) at (here at (marks_from (at + marker_size) more)))

  entry_among : (sections : List Section) (more : List Item) (at until : ℕ) (payload : List ℕ)
      → Leaves sections more at until → until ≤ length bytes → at < until
      → IsEntryAt bytes at until payload → Contains (entries_of header_size all)
      (entry_from at payload)
  entry_among sections [] at until payload l within room held =
      absurd (omega (arith, l.2.0, within, room))
  entry_among sections (Marked m ∷ more) at until payload l within room held =
      absurd (omega (arith, l.2.0, room))
  entry_among sections (Held p ∷ more) at until payload l within room held =
      let same : p ≡ payload = same_entry bytes at until p payload file within l.2.1 held in
      let tail = held_from (at + frame_size + length p) more in
      let entries_are : held_from header_size (items_of sections) ++ held_from at (Held p ∷ more)
      ≡ entries_of header_size all =
      sym (held_from-append bytes id header_size header_size (items_of sections)
      (Held p ∷ more) at until l.1)
      ∙ ap (held_from header_size) (sym l.0)
      ∙ held_from-items_of (length bytes) header_size all
      (whole_sections (length bytes) header_size all stored.whole) in
      subst (λ (q : List ℕ). Contains (entries_of header_size all) (entry_from at q)) same
      (subst (λ (es : List Entry). Contains es (entry_from at p)) entries_are
      (Contains-append_right (held_from header_size (items_of sections)) (entry_from at p ∷ tail)
      (entry_from at p) (here (entry_from at p) tail)))

  module _ (at until : ℕ) (reached : Reaches bytes id at until) where
    abbrev items : List Item
    items = items_of reached.sections

    part : Trace bytes id header_size header_size items at until
    part =
        let Goes : ℕ → ℕ → Type 0 = λ a u. Trace bytes id header_size header_size items a u in
        subst (λ a. Goes a until) (sym reached.place)
        (subst (Goes (length (front_bytes id (Some reached.sections)))) (sym reached.end)
        (front_way bytes id reached.sections reached.front))

    on : GoesOn bytes id (items_of all) items at until (length bytes) (last_until header_size all)
    on = one_way bytes id header_size header_size (items_of all) (length bytes)
        (last_until header_size all)
        (Clean (length bytes)) items at until file (header_long bytes id header) way stops part

    within : until ≤ length bytes
    within = (stays_within bytes id header_size header_size items at until part (omega arith)
        (header_long bytes id header)).1

    leaves : Leaves reached.sections on.more at until
    leaves = (on.whole, part, on.way)

  nothing_by_chance : NoChance id all bytes
  nothing_by_chance = record {
    are_bytes = stored.bytes;
    header = λ passes. header;
    marker = λ at until reached marked.
        marker_among reached.sections (on at at reached).more at at until
        (leaves at at reached) refl marked;
    entry = λ at until payload room reached held.
        entry_among reached.sections (on at until reached).more at until payload
        (leaves at until reached) (within at until reached) room held;
  }

pub untorn : (id : ℕ) (ss : List Section) → IsStored id ss → NoChance id ss (segment_bytes id ss)
untorn id [] stored = record {
  are_bytes = stored.bytes;
  header = λ passes. absurd (omega (arith, passes.fits));
  marker = λ at until reached marked. absurd (omega (arith, marked.behind, marked.within));
  entry = λ at until payload room reached held. absurd (empty_entry at until payload held);
}
untorn id (s ∷ ss) stored = nothing_by_chance id s ss stored
