-- A log of notes goes on in a later segment for no note: what is said of it stays true, and a file
-- may be put up to a key behind the marker.
use Rattle.std.proofs.Common.{
  ◌≡◌,
  ℕ,
  ◌+◌,
  ◌<◌,
  ◌≤◌,
  ◌^◌,
  ◌==◌,
  inl,
  inr,
  Bool,
  true,
  false,
  List,
  [],
  ◌∷◌,
  length,
  take,
  drop,
  if◌then◌else◌,
  refl,
  sym,
  ◌∙◌,
  ap,
  subst,
  arith,
}
use Rattle.std.specs.Prelude.{Ok, Err, OnOk, Result}
use Rattle.std.specs.List.{Contains}
use Rattle.std.proofs.lemmas.Bool.{cases_lt}
use Rattle.std.proofs.lemmas.Bool.Decides.{nat_tests}
use Rattle.std.proofs.lemmas.List.Elements.{Contains-append_right}
use Rattle.clog_spec.specs.Sizes.{marker_size}
use Rattle.clog_base.specs.Positions.{ordinal_of, offset_of, position_of}
use Rattle.clog_base.proofs.Members.{further, here}
use Rattle.path_core.specs.declared.note.EntryNote.{EntryNote}
use Rattle.path_core.specs.Keys.{after, behind_marker, fits, next_segment}
use Rattle.clog_segments.specs.declared.written.StoreFault.{StoreFault}
use Rattle.clog_segments.specs.Life.{State}
use Rattle.clog_segments.specs.NoteLog.{
  BeginsFrom,
  IsFrom,
  IsHeld,
  IsNoteLog,
  IsShortOf,
  NoteState,
  end_behind,
}
use Rattle.clog_store.specs.NoteSteps.{Enters}
use Rattle.clog_segments.specs.StoreFolder.{EndsWithin, IsSound}
use Rattle.clog_store.proofs.FolderEnds.{ends_within, none_taken}
use Rattle.clog_store.proofs.NoteHeld.{held_rolled, held_unentered}
use Rattle.clog_store.proofs.NoteNext.{in_take}
use Rattle.clog_store.proofs.NoteStands.{stands_by}

-- ---- it goes on

module _ {D : Type 0} (s : NoteState D) (now : State D) (id : ℕ) (runs : s.log.is_stopped ≡ false)
    (none : s.written ≡ 0) (begins : BeginsFrom s.base id s.kept) (n : IsNoteLog s) where
  begins_behind : BeginsFrom s.base id (drop s.written s.kept)
  begins_behind = subst (λ (w : ℕ). BeginsFrom s.base id (drop w s.kept)) (sym none) begins

  held_on : (r : Result (Unit {0}) StoreFault) → Enters s.log now id r
      → IsHeld (record s { log = now })
  held_on (Err fault) enters =
      held_unentered s.base s.kept s.sizes s.synced s.logged s.log now s.written id fault enters
      (n.held runs)
  held_on (Ok done) enters = elim enters [
    | inl same ↦ subst (λ (x : State D). IsHeld (record s { log = x })) (sym same.1) (n.held runs)
    | inr rolls ↦ held_rolled s.base s.kept s.sizes s.synced s.logged s.log now s.written id
        now.disk rolls.1 rolls.0 begins_behind (λ some all. omega (arith, some, none)) (n.held runs)
  ]

  pub noted_on : (r : Result (Unit {0}) StoreFault) → Enters s.log now id r
      → IsFrom s.base now → IsNoteLog (record s { log = now })
  noted_on r enters from = record {
    fits = n.fits;
    from = from;
    few = n.few;
    good = n.good;
    below = n.below;
    ended = n.ended;
    above = n.above;
    stands = stands_by s.base s.kept s.sizes s.synced s.logged now s.written s.written n.few
        (held_on r enters);
    held = λ still. held_on r enters;
  }

-- ---- how far

-- the last of these notes ends in this segment or later, where each does
end_least : (least key : ℕ) (ns : List EntryNote)
    → ((n : EntryNote) → Contains ns n → least ≤ ordinal_of n.end.0) → 0 < length ns
    → least ≤ ordinal_of (end_behind key ns)
end_least least key [] each some = absurd (omega (arith, some))
end_least least key (n ∷ []) each some = each n (here n [])
end_least least key (n ∷ m ∷ ms) each some =
    end_least least n.end.0 (m ∷ ms) (λ k among. each k (further n (m ∷ ms) k among))
    (omega arith)

module _ {D : Type 0} (s : NoteState D) (upper : ℕ) (runs : s.log.is_stopped ≡ false)
    (n : IsNoteLog s) (most : upper ≤ after s.sizes.capacity s.synced) (short : IsShortOf s upper)
  where
    -- no marker fits there, so the log goes on in the next segment
    pub in_next : after s.sizes.capacity s.synced ≡ next_segment s.synced
    in_next = by (s.synced == 0) (fits s.sizes.capacity s.synced marker_size) refl refl
      where
        by : (b c : Bool) → (s.synced == 0) ≡ b → fits s.sizes.capacity s.synced marker_size ≡ c
            → after s.sizes.capacity s.synced ≡ next_segment s.synced
        by true c zero_is fits_is =
            let none : s.synced ≡ 0 = grind (arith, nat_tests) in
            absurd (omega (arith, none, short.some))
        by false true zero_is fits_is =
            let low = s.sizes.within.greatest_capacity in
            let room : offset_of s.synced + marker_size < s.sizes.capacity =
            grind (arith, nat_tests) in
            let is : after s.sizes.capacity s.synced ≡ s.synced + marker_size =
            ap (λ (x : Bool). if x then 28 else behind_marker s.sizes.capacity s.synced) zero_is
            ∙ ap (λ (x : Bool). if x then s.synced + marker_size else next_segment s.synced) fits_is
            in
            absurd (elim short.behind [
              | inl behind ↦ omega (arith, most, is, behind)
              | inr later ↦ omega (arith, most, is, later, room, low)
            ])
        by false false zero_is fits_is =
            ap (λ (x : Bool). if x then 28 else behind_marker s.sizes.capacity s.synced) zero_is
            ∙ ap (λ (x : Bool). if x then s.synced + marker_size else next_segment s.synced) fits_is

    -- what is kept stands behind it
    kept_later : (k : EntryNote) → Contains s.kept k
        → (ordinal_of s.synced + 1 ≤ ordinal_of k.end.0)
        × (ordinal_of s.synced + 1 ≤ ordinal_of k.start.0)
    kept_later k among =
        let up = n.above k among in
        let inside = (n.good k (Contains-append_right s.logged s.kept k among)).in_segment in
        let low = s.sizes.within.greatest_capacity in (
          omega (arith, up, in_next),
          omega (arith, up, in_next, inside.inside, inside.long, low),
        )

    pub none_written : s.written ≡ 0
    none_written = by (take s.written s.kept) refl
      where
        by : (ws : List EntryNote) → take s.written s.kept ≡ ws → s.written ≡ 0
        by [] is = none_taken s.written s.kept n.few is
        by (w ∷ ws) is =
            let key = end_behind s.synced (take s.written s.kept) in
            let far : ordinal_of s.synced + 1 ≤ ordinal_of key =
            end_least (ordinal_of s.synced + 1) s.synced (take s.written s.kept)
            (λ k among. (kept_later k (in_take s.written s.kept k among)).0)
            (omega (arith, ap length is)) in
            let h = short.here in
            absurd (elim (n.held runs).ends [
              | inl e ↦ omega (arith, e.0, h, far)
              | inr e ↦ elim e.1 [
                | inl first ↦ omega (arith, first.0, far)
                | inr later ↦ omega (arith, later, h, far)
              ]
            ])

    pub begins_next : BeginsFrom s.base (s.log.id + 1) s.kept
    begins_next = by s.kept kept_later
      where
        by : (ks : List EntryNote) → ((k : EntryNote) → Contains ks k
            → (ordinal_of s.synced + 1 ≤ ordinal_of k.end.0)
            × (ordinal_of s.synced + 1 ≤ ordinal_of k.start.0))
            → BeginsFrom s.base (s.log.id + 1) ks
        by [] each = tt
        by (k ∷ ks) each = omega (arith, (each k (here k ks)).1, short.here)

    pub next_fits : s.synced < 2 ^ 64 → s.log.id + 1 < 2 ^ 63
    next_fits low = omega (arith, short.here, n.fits, low)

    pub far_then : (now : State D) (r : Result (Unit {0}) StoreFault)
        → Enters s.log now (s.log.id + 1) r
        → OnOk r (EndsWithin now.id (take now.synced now.sections) (position_of s.base upper))
    far_then now (Err fault) enters = tt
    far_then now (Ok done) enters = elim enters [
      | inl same ↦ absurd (omega (arith, same.0))
      | inr rolls ↦
          subst (λ (x : State D). EndsWithin x.id (take x.synced x.sections)
          (position_of s.base upper)) (sym rolls.1) (
          let top : upper ≤ next_segment s.synced = omega (arith, most, in_next) in
          elim (cases_lt (s.base + ordinal_of upper) (s.log.id + 1)) [
            | inl lower ↦ inl lower
            | inr high ↦ inr (
              omega (arith, high, top, short.here),
              omega (arith, high, top, short.here),
            )
          ])
    ]

-- where no file up to the key is short of, one may be put as the log is
module _ {D : Type 0} (s : NoteState D) (upper : ℕ) (runs : s.log.is_stopped ≡ false)
    (n : IsNoteLog s) (sound : IsSound s.log) (most : upper ≤ after s.sizes.capacity s.synced)
    (far : IsShortOf s upper → ⊥) where
  not_below : (a b : ℕ) → (a < b → ⊥) → b ≤ a
  not_below a b never = elim (cases_lt a b) [
    | inl below ↦ absurd (never below)
    | inr above ↦ omega (arith, above)
  ]

  pub far_now : EndsWithin s.log.id (take s.log.synced s.log.sections) (position_of s.base upper)
  far_now =
      ends_within s sound upper (n.held runs).reaches most (λ here some. (
        not_below (ordinal_of s.synced) (ordinal_of upper)
            (λ later. far (record { here = here; some = some; behind = inr later })),
        not_below (s.synced + marker_size) upper
            (λ behind. far (record { here = here; some = some; behind = inl behind })),
      ))
