-- What a log of notes has appended is the history of its notes.
use Rattle.std.proofs.Common.{
  ◌≡◌,
  ℕ,
  ◌-◌,
  ◌<◌,
  List,
  [],
  ◌∷◌,
  ◌++◌,
  length,
  map,
  take,
  Bool,
  true,
  false,
  if◌then◌else◌,
  refl,
  sym,
  ◌∙◌,
  ap,
  subst,
  arith,
}
use Rattle.std.specs.Prelude.{Contains}
use Rattle.std.specs.List.{AllPairs, filter, flat_map}
use Rattle.std.specs.Str.{bytes_eq}
use Rattle.std.proofs.lemmas.Slice.Eq.{bytes_eq-Decides}
use Rattle.std.specs.List.Sorted.{IsStrictlySortedBy}
use Rattle.std.specs.Ordering.{nat_cmp}
use Rattle.std.proofs.lemmas.Bool.{ltb-true, lt-ltb}
use Rattle.std.proofs.lemmas.Grind.{flat_map-append}
use Rattle.std.specs.Int.{to_be_bytes, w32}
use Rattle.std.proofs.lemmas.List.{append-nil, length-append, take-append-le, take_all}
use Rattle.std.proofs.lemmas.List.Kept.{AllPairs-filter}
use Rattle.clog_spec.specs.Names.{segment_name_of}
use Rattle.clog_spec.specs.Crc.{crc32_of}
use Rattle.clog_spec.specs.Segment.{entry_bytes, header_bytes, size_bytes}
use Rattle.clog_spec.proofs.Lengths.{length-entry_bytes}
use Rattle.clog_mutation.specs.Payload.{payload_of}
use Rattle.clog_spec.specs.Sizes.{header_size}
use Rattle.clog_base.proofs.Members.{from_flat, from_map, further, here, in_map, nothing_there}
use Rattle.clog_disk.specs.declared.change.Change.{Change}
use Rattle.clog_scan.specs.Cut.{Section, sections_bytes}
use Rattle.clog_scan.specs.Laws.{IsFile}
use Rattle.clog_scan.specs.Segment.{Entry, entry_from, entries_of}
use Rattle.clog_crash.specs.Grown.{Append, GrownSegment, HasGrown, HoldsGrown, appends_of, grown}
use Rattle.clog_crash.specs.Log.{Write}
use Rattle.clog_crash.specs.Runs.{Placed, placed_log, placed_of}
use Rattle.clog_crash.specs.Sections.{segment_bytes}
use Rattle.clog_crash.proofs.changes.Names.{one_id}
use Rattle.clog_crash.proofs.counts.Growing.{grown_holds}
use Rattle.clog_crash.proofs.rest.Sectioned.{is_file}
use Rattle.path_core.specs.declared.note.EntryNote.{EntryNote}
use Rattle.path_core.specs.Keys.{offset_of}
use Rattle.path_core.proofs.lists.Heads.{ahead, behind}
use Rattle.clog_segments.specs.Grows.{IsGrown, segments_with}
use Rattle.clog_segments.specs.Notes.{payload_in, place_of, places_of}
use Rattle.clog_applied.specs.Appended.{IsAppended, appended, entries_in, segments_of}
use Rattle.clog_applied.specs.History.{LoggedLine, entry_of}
use Rattle.clog_applied.proofs.Lists.{from_filter, in_filter}
use Rattle.clog_layout.specs.Logged.{AreNotesOf, IsNoteOf}
use Rattle.clog_layout.proofs.Lines.{is_entry}
use Rattle.clog_layout.proofs.Pairs.{pairs_cons, pairs_none}
use Rattle.clog_closing.specs.Logs.{AreStoredInOrder, has_sections, id_of, written_ids}
use Rattle.clog_closing.proofs.Segments.{
  at_history,
  at_log,
  entries_at,
  placed_line,
  sorted_ids,
}

-- ---- notes and lines at their places

-- what is read of an entry is its payload
pub payload_is : (payload : List ℕ) → payload_in (entry_bytes payload) ≡ payload
payload_is payload =
    let check = to_be_bytes w32 (crc32_of (size_bytes payload ++ payload)) in
    let long : length (entry_bytes payload) - 12 ≡ length payload =
    omega (arith, length-entry_bytes payload) in
    ap (λ (k : ℕ). take k (payload ++ check)) long
    ∙ take-append-le (length payload) payload check (omega arith)
    ∙ take_all (length payload) payload (omega arith)

place_is : (base : ℕ) (n : EntryNote) (w : LoggedLine) → IsNoteOf base n w
    → place_of base n ≡ placed_line w
place_is base n w is =
    let payload = ap payload_in is.bytes ∙ payload_is (payload_of w.mutation) in
    let entry : entry_from (offset_of n.start.0) (payload_in n.bytes) ≡ entry_of w =
    ap (entry_from (offset_of n.start.0)) payload ∙ sym (is_entry base n w is) in
    let id = is.id in
    λ i. (sym id i, entry i)

pub places_are : (base : ℕ) (notes : List EntryNote) (history : List LoggedLine)
    → AreNotesOf base notes history → places_of base notes ≡ map placed_line history
places_are base [] [] are = refl
places_are base [] (w ∷ ws) are = absurd are
places_are base (n ∷ ns) [] are = absurd are
places_are base (n ∷ ns) (w ∷ ws) are =
    ap (λ (p : Placed). p ∷ places_of base ns) (place_is base n w are.0)
    ∙ ap (λ (ps : List Placed). placed_line w ∷ ps) (places_are base ns ws are.1)

-- ---- ids

pub rising : (ws : List Write) → AllPairs (λ (a b : Write). a.id < b.id) ws
    → AllPairs (λ (a b : ℕ). a < b) (map id_of ws)
rising [] rise = pairs_none (λ (a b : ℕ). a < b)
rising (w ∷ ws) rise =
    let R = λ (a b : Write). a.id < b.id in
    pairs_cons (λ (a b : ℕ). a < b) w.id (map id_of ws)
    (λ k h.
    let found = from_map id_of ws k h in
    subst (λ (j : ℕ). w.id < j) found.2 (ahead R w ws rise found.0 found.1))
    (rising ws (behind R w ws rise))

firsts_are : (history : List LoggedLine) (ids : List ℕ)
    → map (λ (s : GrownSegment). s.0) (segments_of ids history) ≡ ids
firsts_are history [] = refl
firsts_are history (i ∷ ids) = ap (λ (l : List ℕ). i ∷ l) (firsts_are history ids)

-- ---- appends

-- a name that has got bytes is one of those that were appended to
named_in : (appends : List Append) (name : List ℕ) → 0 < length (grown appends name)
    → (bytes : List ℕ) × Contains appends (name, bytes)
named_in [] name some = absurd (omega (arith, some))
named_in (a ∷ more) name some = by_case (bytes_eq a.0 name) refl
    (λ (l : 0 < length (grown more name)). named_in more name l)
  where
    by_case : (b : Bool) → bytes_eq a.0 name ≡ b
        → (0 < length (grown more name) → (bytes : List ℕ) × Contains more (name, bytes))
        → (bytes : List ℕ) × Contains (a ∷ more) (name, bytes)
    by_case true test rest =
        let same : a.0 ≡ name = (bytes_eq-Decides a.0 name).0 test in
        (a.1, subst (λ (n : List ℕ). Contains (a ∷ more) (n, a.1)) same (here a more))
    by_case false test rest =
        let less : grown (a ∷ more) name ≡ grown more name =
        ap (λ (b : Bool). (if b then a.1 else []) ++ grown more name) test in
        let found = rest (subst (λ (l : List ℕ). 0 < length l) less some) in
        (found.0, further a more (name, found.0) found.1)

some_bytes : (id : ℕ) (ss : List Section) → 0 < length ss → 0 < length (segment_bytes id ss)
some_bytes id [] some = absurd (omega (arith, some))
some_bytes id (s ∷ ss) some =
    let l = length-append (header_bytes id) (sections_bytes id header_size (s ∷ ss)) in
    omega (arith, l)

-- sections that have an entry
some_sections : (ss : List Section) (e : Entry) → Contains (entries_of header_size ss) e
    → 0 < length ss
some_sections [] e h = absurd (nothing_there e h)
some_sections (s ∷ ss) e h = omega arith

-- ---- those to which sections were written

module _ (ws : List Write) where
  pub record IsOfLog (i : ℕ) : Type 0 where
    pub write : Write
    pub listed : Contains ws write
    pub some : 0 < length write.sections
    pub is : write.id ≡ i

  pub of_log : (i : ℕ) → Contains (written_ids ws) i → IsOfLog i
  of_log i h =
      let found = from_map id_of (filter has_sections ws) i h in
      let kept = from_filter has_sections ws found.0 found.1 in
      record {
        write = found.0;
        listed = kept.0;
        some = ltb-true 0 (length found.0.sections) kept.1;
        is = found.2;
      }

  pub written : (w : Write) → Contains ws w → 0 < length w.sections
      → Contains (written_ids ws) w.id
  written w h some =
      in_map id_of (filter has_sections ws) w
      (in_filter has_sections ws w h (lt-ltb 0 (length w.sections) some))

-- ---- a log

module _ (changes : List Change) (base : ℕ) (past : List Write) (id : ℕ)
    (sections : List Section) (notes : List EntryNote) (history : List LoggedLine)
    (grows : IsGrown (appends_of changes) past id sections)
    (stands : AreStoredInOrder (segments_with past id sections))
    (holds : placed_log past id sections ≡ places_of base notes)
    (are : AreNotesOf base notes history) where
  abbrev ws : List Write
  ws = segments_with past id sections

  all_placed : flat_map placed_of ws ≡ map placed_line history
  all_placed =
      flat_map-append placed_of past (record { id = id; sections = sections } ∷ [])
      ∙ ap (λ (l : List Placed). flat_map placed_of past ++ l)
      (append-nil (placed_of (record { id = id; sections = sections })))
      ∙ holds ∙ places_are base notes history are

  pub entries_are : (w : Write) → Contains ws w
      → entries_of header_size w.sections ≡ entries_in w.id history
  entries_are w h =
      sym (at_log ws stands.rise w h) ∙ ap (entries_at w.id) all_placed ∙ at_history w.id history

  -- an append to a segment that has sections
  an_append : (w : Write) → Contains ws w → 0 < length w.sections
      → HasGrown (appends_of changes) w.id
  an_append w h some =
      let found = named_in (appends_of changes) (segment_name_of 6 w.id)
      (subst (λ (b : List ℕ). 0 < length b) (sym (grows.each w h))
      (some_bytes w.id w.sections some)) in
      record { fits = (stands.stored w h).fits; bytes = found.0; listed = found.1 }

  each_holds : (i : ℕ) → IsOfLog ws i
      → HasGrown (appends_of changes) i × HoldsGrown (appends_of changes) i (entries_in i history)
  each_holds i o =
      let w = o.write in
      let h = o.listed in
      subst (λ (j : ℕ). HasGrown (appends_of changes) j
      × HoldsGrown (appends_of changes) j (entries_in j history)) o.is (
        an_append w h o.some,
        subst (HoldsGrown (appends_of changes) w.id) (entries_are w h)
            (grown_holds (appends_of changes) w.id w.sections (stands.stored w h) o.some
            (grows.each w h)),
      )

  line_in : (w : LoggedLine) → Contains history w → Contains (written_ids ws) w.id
  line_in w h =
      let found = from_flat placed_of ws (placed_line w)
      (subst (λ (ps : List Placed). Contains ps (placed_line w)) (sym all_placed)
      (in_map placed_line history w h)) in
      let v = found.0 in
      let entry = from_map (λ (e : Entry). (v.id, e)) (entries_of header_size v.sections)
      (placed_line w) found.2 in
      let same : v.id ≡ w.id = ap (λ (p : Placed). p.0) entry.2 in
      subst (λ (i : ℕ). Contains (written_ids ws) i) same
      (written ws v found.1 (some_sections v.sections entry.0 entry.1))

  pub are_files : (i : ℕ) → Contains (written_ids ws) i → IsFile (appended changes i)
  are_files i h =
      let o = of_log ws i h in
      let w = o.write in
      subst (λ (j : ℕ). IsFile (appended changes j)) o.is
      (subst IsFile (sym (grows.each w o.listed))
      (is_file w.id w.sections (stands.stored w o.listed)))

  pub is_appended : IsAppended changes (written_ids ws) history
  is_appended = record {
    kept = record {
      ordered = subst (IsStrictlySortedBy nat_cmp) (sym (firsts_are history (written_ids ws)))
          (sorted_ids (written_ids ws) (rising (filter has_sections ws)
          (AllPairs-filter (λ (a b : Write). a.id < b.id) has_sections ws stands.rise)));
      each = λ s h.
          let found = from_map (λ (i : ℕ). (i, entries_in i history)) (written_ids ws) s h in
          subst (λ (x : GrownSegment). HasGrown (appends_of changes) x.0
          × HoldsGrown (appends_of changes) x.0 x.1) found.2
          (each_holds found.0 (of_log ws found.0 found.1));
      every = λ i g.
          let a = grows.only (segment_name_of 6 i, g.bytes) g.listed in
          let same : i ≡ a.0.id =
          one_id a.0.id i (stands.stored a.0 a.1).fits g.fits a.3 in (
            entries_in i history,
            in_map (λ (j : ℕ). (j, entries_in j history)) (written_ids ws) i
                (subst (λ (j : ℕ). Contains (written_ids ws) j) (sym same)
                (written ws a.0 a.1 a.2)),
          );
    };
    only = λ a h.
        let o = grows.only a h in
        record { id = o.0.id; listed = written ws o.0 o.1 o.2; named = o.3 };
    no_other = line_in;
  }
