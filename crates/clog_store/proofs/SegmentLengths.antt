-- How long the segments of a log of notes are: no longer than a segment may be, but for a marker
-- behind which nothing came.
use Rattle.std.proofs.Common.{
  ◌≡◌,
  ℕ,
  ◌+◌,
  ◌<◌,
  ◌≤◌,
  inl,
  inr,
  List,
  [],
  ◌∷◌,
  ◌++◌,
  length,
  take,
  drop,
  Option,
  sym,
  ◌∙◌,
  ap,
  subst,
  arith,
  take-append-drop,
}
use Rattle.std.specs.Prelude.{Contains}
use Rattle.std.specs.List.{flat_map}
use Rattle.std.proofs.lemmas.Bool.{cases_lt}
use Rattle.std.proofs.lemmas.List.{nil_from_length}
use Rattle.std.proofs.lemmas.List.Elements.{
  Contains-append_cases,
  Contains-append_left,
  Contains-append_right,
  Contains-push,
  Contains-push_cases,
}
use Rattle.clog_spec.specs.Sizes.{front_size, header_size}
use Rattle.clog_base.proofs.Members.{from_map, in_flat, in_map}
use Rattle.clog_disk.specs.declared.change.Change.{Change}
use Rattle.clog_scan.specs.Cut.{Section, entries_bytes, last_until}
use Rattle.clog_scan.specs.Laws.{AreWhole}
use Rattle.clog_scan.specs.Segment.{Entry, entries_of}
use Rattle.clog_scan.proofs.Appended.{entries_of-append}
use Rattle.clog_crash.specs.Log.{Write}
use Rattle.clog_crash.specs.Runs.{Placed, placed, placed_log, placed_of}
use Rattle.clog_crash.specs.Sections.{IsStored, segment_bytes}
use Rattle.clog_crash.proofs.rest.Sectioned.{ends_at, stored_front}
use Rattle.path_core.specs.declared.note.EntryNote.{EntryNote}
use Rattle.clog_segments.specs.Grows.{AreFilled, segments_with}
use Rattle.clog_segments.specs.NoteLog.{IsNoteLog, NoteState}
use Rattle.clog_segments.specs.Notes.{place_of}
use Rattle.clog_segments.specs.StoreFolder.{IsSound}
use Rattle.clog_segments.specs.StoreState.{HasGrown}
use Rattle.clog_store.proofs.NoteHeld.{last_until-push}
use Rattle.clog_segments.proofs.NoteRuns.{placed_good}
use Rattle.clog_store.proofs.SectionEnds.{last_filled, last_of}

-- ---- one segment

-- each of its sections has an entry, and each entry ends up to an offset
filled_short : (id len most : ℕ) (ss : List Section) → AreWhole len header_size ss
    → ((t : Section) → Contains ss t → 0 < length t.payloads)
    → ((e : Entry) → Contains (entries_of header_size ss) e → e.end ≤ most)
    → length (segment_bytes id ss) ≤ most
filled_short id len most [] whole filled within = omega arith
filled_short id len most (s ∷ ss) whole filled within =
    let last = last_of id len (s ∷ ss) (omega arith) whole filled in
    let low = within last.0 last.1 in
    let end = last.2 in
    omega (arith, low, end)

-- where sections end, before the first too
front_end : (id len most : ℕ) (ss : List Section) → AreWhole len header_size ss
    → length (segment_bytes id ss) ≤ most → last_until header_size ss ≤ most + header_size
front_end id len most [] whole low = omega arith
front_end id len most (s ∷ ss) whole low =
    let end = ends_at id len s ss whole in
    omega (arith, end, low)

last_end : (id len : ℕ) (ss : List Section) (x : Section)
    → AreWhole len header_size (ss ++ x ∷ [])
    → length (segment_bytes id (ss ++ x ∷ [])) ≡ x.until
last_end id len [] x whole = ends_at id len x [] whole
last_end id len (s ∷ ss) x whole =
    ends_at id len s (ss ++ x ∷ []) whole ∙ last_until-push header_size (s ∷ ss) x

-- a last section may have no entry
one_more : (id most : ℕ) (part : List Section) (x : Section) → IsStored id (part ++ x ∷ [])
    → ((t : Section) → Contains part t → 0 < length t.payloads)
    → ((e : Entry) → Contains (entries_of header_size (part ++ x ∷ [])) e → e.end ≤ most)
    → length (segment_bytes id part) ≤ most
    → length (segment_bytes id (part ++ x ∷ [])) ≤ most + front_size
one_more id most part x stored filled within short =
    let all = part ++ x ∷ [] in
    let len = length (segment_bytes id all) in
    elim (cases_lt 0 (length x.payloads)) [
      | inl some ↦
          let low = filled_short id len most all stored.whole (λ t h.
          elim (Contains-push_cases part x t h) [
            | inl old ↦ filled t old
            | inr same ↦ subst (λ (y : Section). 0 < length y.payloads) same some
          ]) within in
          omega (arith, low)
      | inr none ↦
          let empty : x.payloads ≡ [] =
          nil_from_length x.payloads (omega (arith, none)) in
          let bytes = ap (λ (l : List (List ℕ)). length (entries_bytes l)) empty in
          let end = last_end id len part x stored.whole in
          let until = last_filled len header_size part x stored.whole in
          let front = stored_front id part (x ∷ []) stored in
          let low = front_end id (length (segment_bytes id part)) most part front.whole short in
          omega (arith, end, until, bytes, low)
    ]

-- the entries of the first sections are among those of all
front_entry : (ss more : List Section) (e : Entry) → Contains (entries_of header_size ss) e
    → Contains (entries_of header_size (ss ++ more)) e
front_entry ss more e h =
    subst (λ (l : List Entry). Contains l e) (sym (entries_of-append header_size ss more))
    (Contains-append_left (entries_of header_size ss)
    (entries_of (last_until header_size ss) more) e h)

module _ {D : Type 0} (s : NoteState D) (noted : IsNoteLog s) where
  abbrev segments : List Write
  segments = segments_with s.log.past s.log.id s.log.sections

  abbrev hand : Write
  hand = record { id = s.log.id; sections = s.log.sections }

  -- ---- entries

  note_ends : (n : EntryNote) → Contains (s.logged ++ s.kept) n
      → (place_of s.base n).1.end ≤ s.sizes.capacity
  note_ends n among =
      let good = noted.good n among in
      let p = placed_good s.base s.sizes n good in
      let long = good.in_segment.long in
      let room = good.in_segment.inside in
      let inside = p.inside in
      let end = p.end in
      omega (arith, long, room, inside, end)

  stands : (w : Write) → Contains segments w → (e : Entry)
      → Contains (entries_of header_size w.sections) e
      → Contains (placed_log s.log.past s.log.id s.log.sections) (w.id, e)
  stands w among e h = elim (Contains-push_cases s.log.past hand w among) [
    | inl before ↦
        Contains-append_left (flat_map placed_of s.log.past)
        (placed s.log.id (entries_of header_size s.log.sections)) (w.id, e)
        (in_flat placed_of s.log.past w (w.id, e) before
        (in_map (λ (x : Entry). (w.id, x)) (entries_of header_size w.sections) e h))
    | inr same ↦
        Contains-append_right (flat_map placed_of s.log.past)
        (placed s.log.id (entries_of header_size s.log.sections)) (w.id, e)
        (subst (λ (x : Write). Contains (placed x.id (entries_of header_size x.sections)) (w.id, e))
        (sym same)
        (in_map (λ (x : Entry). (w.id, x)) (entries_of header_size w.sections) e h))
  ]

  within : (w : Write) → Contains segments w → (e : Entry)
      → Contains (entries_of header_size w.sections) e → e.end ≤ s.sizes.capacity
  within w among e h =
      let shown = noted.stands.shown in
      let notes = s.logged ++ take shown s.kept in
      let found = from_map (place_of s.base) notes (w.id, e)
      (subst (λ (l : List Placed). Contains l (w.id, e)) noted.stands.all (stands w among e h)) in
      let n = found.0 in
      let all : Contains (s.logged ++ s.kept) n =
      elim (Contains-append_cases s.logged (take shown s.kept) n found.1) [
        | inl old ↦ Contains-append_left s.logged s.kept n old
        | inr kept ↦
            Contains-append_right s.logged s.kept n
            (subst (λ (l : List EntryNote). Contains l n) (take-append-drop shown s.kept)
            (Contains-append_left (take shown s.kept) (drop shown s.kept) n kept))
      ] in
      let low = note_ends n all in
      let end = ap (λ (p : Placed). p.1.end) found.2 in
      omega (arith, low, end)

  -- ---- segments

  module _ (sound : IsSound s.log) (changes : D → Option (List Change)) (first : D)
      (growth : HasGrown changes first s.log) where
    abbrev part : List Section
    part = growth.part

    filled : AreFilled (segments_with s.log.past s.log.id part)
    filled = growth.grown.filled

    part_filled : (t : Section) → Contains part t → 0 < length t.payloads
    part_filled =
        filled (record { id = s.log.id; sections = part })
        (Contains-push s.log.past (record { id = s.log.id; sections = part }))

    hand_within : (e : Entry) → Contains (entries_of header_size s.log.sections) e
        → e.end ≤ s.sizes.capacity
    hand_within = within hand (Contains-push s.log.past hand)

    hand_short : length (segment_bytes s.log.id s.log.sections) ≤ s.sizes.capacity + front_size
    hand_short = elim growth.brought [
      | inl same ↦
          let low = filled_short s.log.id (length (segment_bytes s.log.id s.log.sections))
          s.sizes.capacity s.log.sections sound.stored.whole
          (subst (λ (l : List Section). (t : Section) → Contains l t → 0 < length t.payloads)
          (sym same) part_filled) hand_within in
          omega (arith, low)
      | inr torn ↦
          let x = torn.0 in
          let is : s.log.sections ≡ part ++ x ∷ [] = torn.1 in
          let stored = subst (IsStored s.log.id) is sound.stored in
          let ends = subst (λ (l : List Section). (e : Entry)
          → Contains (entries_of header_size l) e → e.end ≤ s.sizes.capacity) is hand_within in
          let front = stored_front s.log.id part (x ∷ []) stored in
          let low = filled_short s.log.id (length (segment_bytes s.log.id part)) s.sizes.capacity
          part front.whole part_filled (λ e h. ends e (front_entry part (x ∷ []) e h)) in
          subst (λ (l : List Section). length (segment_bytes s.log.id l)
          ≤ s.sizes.capacity + front_size) (sym is)
          (one_more s.log.id s.sizes.capacity part x stored part_filled ends low)
    ]

    pub all_short : (w : Write) → Contains segments w
        → length (segment_bytes w.id w.sections) ≤ s.sizes.capacity + front_size
    all_short w among = elim (Contains-push_cases s.log.past hand w among) [
      | inl before ↦
          let its = filled w (Contains-append_left s.log.past
          (record { id = s.log.id; sections = part } ∷ []) w before) in
          let low = filled_short w.id (length (segment_bytes w.id w.sections)) s.sizes.capacity
          w.sections (sound.past_stored w before).whole its (within w among) in
          omega (arith, low)
      | inr same ↦ subst (λ (x : Write).
          length (segment_bytes x.id x.sections) ≤ s.sizes.capacity + front_size) same hand_short
    ]
