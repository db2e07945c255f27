-- How far a store's log has gone: whether a file may be put, and whether the segment at hand may
-- go.
use Rattle.std.proofs.Common.{
  ◌≡◌,
  ℕ,
  zero,
  suc,
  ◌+◌,
  ◌*◌,
  ◌<◌,
  ◌≤◌,
  ◌^◌,
  Bool,
  true,
  false,
  List,
  [],
  ◌∷◌,
  ◌++◌,
  get_or,
  length,
  take,
  drop,
  map,
  Contains,
  refl,
  sym,
  ap,
  subst,
  ◌∙◌,
  inl,
  inr,
  arith,
}
use Rattle.std.specs.Prelude.{◌==◌, if◌then◌else◌}
use Rattle.std.specs.List.{flat_map}
use Rattle.std.proofs.lemmas.Bool.{cases_lt}
use Rattle.std.proofs.lemmas.List.{map-append, take-append-drop}
use Rattle.std.proofs.lemmas.List.Elements.{Contains-append_left, Contains-append_right}
use Rattle.clog_spec.specs.Sizes.{header_size, marker_size}
use Rattle.clog_base.specs.Positions.{ordinal_of, position_of}
use Rattle.clog_base.proofs.Members.{
  first_or_further,
  from_flat,
  from_map,
  further,
  here,
  in_map,
  nothing_there,
}
use Rattle.clog_scan.specs.Cut.{Section, last_until}
use Rattle.clog_scan.specs.Segment.{Entry, entries_of}
use Rattle.clog_crash.specs.Runs.{Placed, placed, placed_of}
use Rattle.clog_crash.specs.Sections.{IsStored}
use Rattle.clog_crash.proofs.rest.Sectioned.{stored_front}
use Rattle.clog_crash.proofs.torn.Whole.{until_grows}
use Rattle.path_core.specs.declared.note.EntryNote.{EntryNote}
use Rattle.path_core.specs.Keeper.{Holding, IsDue}
use Rattle.path_core.specs.Keys.{after, behind_marker, fits, first_offset, next_segment}
use Rattle.clog_segments.specs.NoteLog.{HasLog, IsHeld, IsNoteLog, NoteState, Reaches}
use Rattle.clog_segments.specs.Notes.{place_of}
use Rattle.clog_segments.specs.StoreFolder.{EndsWithin, IsSound}

-- ---- how far it has gone

-- the log goes on behind a key at the front of the next segment at most
pub after_at_most : (capacity key : ℕ)
    → after capacity key ≤ (ordinal_of key + 1) * 2 ^ 31 + first_offset
after_at_most capacity key = by (key == 0) (fits capacity key marker_size) refl refl
  where
    by : (b c : Bool) → (key == 0) ≡ b → fits capacity key marker_size ≡ c
        → after capacity key ≤ (ordinal_of key + 1) * 2 ^ 31 + first_offset
    by true c zero_is fits_is =
        omega (
          arith,
          ap (λ (x : Bool).
              if x then first_offset else behind_marker capacity key) zero_is,
        )
    by false true zero_is fits_is =
        omega (
          arith,
          ap (λ (x : Bool). if x then first_offset else behind_marker capacity key) zero_is,
          ap (λ (x : Bool). if x then key + marker_size else next_segment key) fits_is,
        )
    by false false zero_is fits_is =
        omega (
          arith,
          ap (λ (x : Bool). if x then first_offset else behind_marker capacity key) zero_is,
          ap (λ (x : Bool). if x then key + marker_size else next_segment key) fits_is,
        )

pub after_first : (capacity key : ℕ) → key ≡ 0 → after capacity key ≡ first_offset
after_first capacity key none = ap (after capacity) none

module _ {D : Type 0} (s : NoteState D) (sound : IsSound s.log) where
  abbrev old : List Section
  old = take s.log.synced s.log.sections

  least : header_size ≤ last_until header_size old
  least =
      let st = stored_front s.log.id old (drop s.log.synced s.log.sections)
      (subst (IsStored s.log.id) (sym (take-append-drop s.log.synced s.log.sections))
      sound.stored) in
      until_grows _ header_size old st.whole

  pub ends_within : (upper : ℕ) → Reaches s.base s.log s.synced
      → upper ≤ after s.sizes.capacity s.synced
      → (s.log.id ≡ s.base + ordinal_of s.synced → 0 < s.synced
      → (ordinal_of upper ≤ ordinal_of s.synced) × (upper ≤ s.synced + marker_size))
      → EndsWithin s.log.id old (position_of s.base upper)
  ends_within upper reaches most near =
      let top = after_at_most s.sizes.capacity s.synced in
      elim reaches [
        | inl low ↦ elim (cases_lt (s.base + ordinal_of upper) s.log.id) [
          | inl lower ↦ inl lower
          | inr high ↦ inr (
            omega (arith, low, high, most, top),
            omega (arith, low, high, most, top, least),
          )
        ]
        | inr same ↦ elim (cases_lt 0 s.synced) [
          | inl some ↦
              let close = near same.0 some in
              elim (cases_lt (s.base + ordinal_of upper) s.log.id) [
                | inl lower ↦ inl lower
                | inr high ↦ inr (
                  omega (arith, same.0, high, close.0),
                  omega (arith, same.0, same.1, high, close.0, close.1),
                )
              ]
          | inr none ↦
              let first : after s.sizes.capacity s.synced ≡ first_offset =
              after_first s.sizes.capacity s.synced (omega (arith, none)) in
              inr (
                omega (arith, same.0, none, most, first),
                omega (arith, none, most, first, least),
              )
        ]
      ]

-- ---- the segment at hand

-- where one of the first of a list is among the last of the same list told otherwise, all that are
-- behind it are
all_behind : {B : Type 0} (P : B → Type 0) (xs ys zs ws : List B) → xs ++ ys ≡ zs ++ ws
    → ((x : B) → Contains xs x → P x → ⊥) → ((y : B) → Contains ys y → P y) → (z : B)
    → Contains zs z → P z → (w : B) → Contains ws w → P w
all_behind P [] ys zs ws same none every z among p w behind =
    every w (subst (λ (l : List _). Contains l w) (sym same)
    (Contains-append_right zs ws w behind))
all_behind P (x ∷ xs) ys [] ws same none every z among p w behind =
    absurd (nothing_there z among)
all_behind P (x ∷ xs) ys (v ∷ zs) ws same none every z among p w behind =
    elim (first_or_further v zs z among) [
      | inl is ↦
          let heads : x ≡ v = ap (λ (l : List _). get_or l 0 x) same in
          absurd (none x (here x xs) (subst P (sym (heads ∙ is)) p))
      | inr more ↦ all_behind P xs ys zs ws (ap (drop 1) same)
          (λ y h. none y (further x xs y h)) every z more p w behind
    ]

none_inside : {A : Type 0} (xs : List A) → ((x : A) → Contains xs x → ⊥) → xs ≡ []
none_inside [] none = refl
none_inside (x ∷ xs) none = absurd (none x (here x xs))

pub none_taken : {A : Type 0} (n : ℕ) (xs : List A) → n ≤ length xs → take n xs ≡ [] → n ≡ 0
none_taken zero xs few none = refl
none_taken (suc n) [] few none = absurd (omega (arith, few))
none_taken (suc n) (x ∷ xs) few none = absurd (omega (arith, ap length none))

module _ {D : Type 0} (s : NoteState D) (h : Holding) (closed : ℕ) (sound : IsSound s.log)
    (is : IsNoteLog s) (held : IsHeld s) (has : HasLog s h) (o : ℕ) (due : IsDue h closed o)
    (at_hand : s.base + o ≡ s.log.id) where
  abbrev wrote : List EntryNote
  wrote = take s.written s.kept

  abbrev IsHere : Placed → Type 0
  IsHere p = p.0 ≡ s.log.id

  not_earlier : (p : Placed) → Contains (flat_map placed_of s.log.past) p → IsHere p → ⊥
  not_earlier p among same =
      let in_one = from_flat placed_of s.log.past p among in
      let w = in_one.0 in
      let found = from_map (λ (e : Entry). (w.id, e)) (entries_of header_size w.sections) p
      in_one.2 in
      let low = sound.below w in_one.1 in
      omega (arith, low, ap (λ (x : Placed). x.0) found.2, same)

  all_here : (p : Placed)
      → Contains (placed s.log.id (entries_of header_size s.log.sections)) p → IsHere p
  all_here p among =
      let found = from_map (λ (e : Entry). (s.log.id, e)) (entries_of header_size s.log.sections) p
      among in
      ap (λ (x : Placed). x.0) (sym found.2)

  written_here : (n : EntryNote) → Contains wrote n → s.base + ordinal_of n.start.0 ≡ s.log.id
  written_here n among =
      let may = due.1 in
      let logged = subst (λ (l : List EntryNote). Contains l may.note) has.logged_are may.among in
      all_behind IsHere (flat_map placed_of s.log.past)
      (placed s.log.id (entries_of header_size s.log.sections)) (map (place_of s.base) s.logged)
      (map (place_of s.base) wrote) (held.all ∙ map-append (place_of s.base) s.logged wrote)
      not_earlier all_here (place_of s.base may.note)
      (in_map (place_of s.base) s.logged may.note logged)
      (ap (λ (k : ℕ). s.base + k) may.here ∙ at_hand) (place_of s.base n)
      (in_map (place_of s.base) wrote n among)

  none_written : wrote ≡ []
  none_written =
      none_inside wrote (λ n among.
      let kept = subst (λ (l : List EntryNote). Contains l n) (take-append-drop s.written s.kept)
      (Contains-append_left wrote (drop s.written s.kept) n among) in
      let same = written_here n among in
      due.1.none_kept n (subst (λ (l : List EntryNote). Contains l n) (sym has.kept_are) kept)
      (omega (arith, same, at_hand)))

  pub due_at_hand : (s.written ≡ 0) × (s.log.synced ≡ length s.log.sections)
  due_at_hand =
      let none = none_taken s.written s.kept is.few none_written in
      (none, held.settled (omega (arith, held.no_more, none)))
