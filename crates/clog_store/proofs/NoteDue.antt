-- Which segments of a log of notes are due: none is later than the one at hand, and where that is
-- due itself, what is kept begins behind it.
use Rattle.std.proofs.Common.{
  ◌≡◌,
  ℕ,
  ◌+◌,
  ◌<◌,
  ◌≤◌,
  ◌^◌,
  false,
  List,
  [],
  ◌∷◌,
  ◌++◌,
  take,
  Contains,
  sym,
  ◌∙◌,
  ap,
  subst,
  inl,
  inr,
  refl,
  arith,
}
use Rattle.std.specs.Prelude.{Err, Ok, OnOk, Result}
use Rattle.std.specs.List.{flat_map}
use Rattle.std.proofs.lemmas.Bool.{cases_lt}
use Rattle.std.proofs.lemmas.List.Elements.{
  Contains-append_cases,
  Contains-append_left,
  Contains-append_right,
}
use Rattle.clog_spec.specs.Sizes.{header_size}
use Rattle.clog_base.specs.Positions.{ordinal_of}
use Rattle.clog_base.proofs.Members.{from_flat, from_map, here, in_map}
use Rattle.clog_scan.specs.Segment.{Entry, entries_of}
use Rattle.clog_crash.specs.Log.{Write}
use Rattle.clog_crash.specs.Runs.{Placed, placed, placed_of}
use Rattle.path_core.specs.declared.note.EntryNote.{EntryNote}
use Rattle.path_core.specs.Keeper.{Holding, IsDue}
use Rattle.path_core.specs.Keys.{after}
use Rattle.clog_segments.specs.declared.written.StoreFault.{StoreFault}
use Rattle.clog_segments.specs.Life.{State}
use Rattle.clog_segments.specs.NoteLog.{BeginsFrom, HasLog, IsNoteLog, NoteState}
use Rattle.clog_store.specs.NoteSteps.{Enters}
use Rattle.clog_segments.specs.Notes.{place_of}
use Rattle.clog_due.specs.StoreDrops.{AreEarlier}
use Rattle.clog_store.proofs.NoteLent.{starts_above, tile_starts}
use Rattle.clog_due.proofs.NotePlaced.{placed_good}

module _ {D : Type 0} (s : NoteState D) (h : Holding) (closed : ℕ) (is : IsNoteLog s)
    (has : HasLog s h) (o : ℕ) (due : IsDue h closed o) where
  logged : Contains s.logged due.1.note
  logged = subst (λ (l : List EntryNote). Contains l due.1.note) has.logged_are due.1.among

  -- its segment is one of the log's
  pub due_at_most : ((w : Write) → Contains s.log.past w → w.id < s.log.id)
      → s.base + o ≤ s.log.id
  due_at_most below =
      let n = due.1.note in
      let at = place_of s.base n in
      let shown = take is.stands.shown s.kept in
      let there = subst (λ (ps : List Placed). Contains ps at) (sym is.stands.all)
      (in_map (place_of s.base) (s.logged ++ shown) n
      (Contains-append_left s.logged shown n logged)) in
      elim (Contains-append_cases (flat_map placed_of s.log.past)
      (placed s.log.id (entries_of header_size s.log.sections)) at there) [
        | inr here ↦
            let found = from_map (λ (e : Entry). (s.log.id, e))
            (entries_of header_size s.log.sections) at here in
            omega (arith, ap (λ (p : Placed). p.0) found.2, due.1.here)
        | inl before ↦
            let in_one = from_flat placed_of s.log.past at before in
            let w = in_one.0 in
            let found = from_map (λ (e : Entry). (w.id, e)) (entries_of header_size w.sections) at
            in_one.2 in
            omega (
              arith,
              ap (λ (p : Placed). p.0) found.2,
              due.1.here,
              below w in_one.1,
            )
      ]

  -- what is kept stands in later segments
  kept_later : (n : EntryNote) → Contains s.kept n → o < ordinal_of n.start.0
  kept_later n among =
      let first = after s.sizes.capacity s.synced in
      let above = is.above n among in
      let up = starts_above s.synced first
      (tile_starts s.sizes.capacity s.synced first s.sizes.within.greatest_capacity (inl refl)) in
      let low = is.below due.1.note logged in
      let own = placed_good s.sizes due.1.note
      (is.good due.1.note (Contains-append_left s.logged s.kept due.1.note logged)) in
      let its = placed_good s.sizes n (is.good n (Contains-append_right s.logged s.kept n among)) in
      let apart = due.1.none_kept n
      (subst (λ (l : List EntryNote). Contains l n) (sym has.kept_are) among) in
      elim (cases_lt o (ordinal_of n.start.0)) [
        | inl later ↦ later
        | inr not ↦ absurd (apart (omega (
          arith,
          above,
          up,
          low,
          own.one_segment,
          its.one_segment,
          due.1.here,
          not,
        )))
      ]

  pub begins_behind : s.base + o ≡ s.log.id → BeginsFrom s.base (s.log.id + 1) s.kept
  begins_behind at_hand = by s.kept kept_later
    where
      by : (ks : List EntryNote) → ((n : EntryNote) → Contains ks n → o < ordinal_of n.start.0)
          → BeginsFrom s.base (s.log.id + 1) ks
      by [] later = tt
      by (n ∷ ns) later = omega (arith, later n (here n ns), at_hand)

  -- and there is an id behind it
  pub due_limit : s.base + o + 1 < 2 ^ 63
  due_limit =
      let n = due.1.note in
      let good = is.good n (Contains-append_left s.logged s.kept n logged) in
      let few = good.segment_is in
      let most = s.sizes.within.few_segments in
      omega (arith, is.fits, few, most, due.1.here)

-- the log has not gone back
pub base_low : {D : Type 0} (s : NoteState D) → IsNoteLog s → s.log.is_stopped ≡ false
    → s.base ≤ s.log.id
base_low s is runs = elim (is.held runs).reaches [
  | inl later ↦ omega (arith, later)
  | inr same ↦ omega (arith, same.0)
]

-- once the log has gone on in a segment, those before it are earlier
pub behind_earlier : {D T : Type 0} (s n : NoteState D) (os : List ℕ) (id : ℕ)
    (r : Result T StoreFault) → Enters s.log n.log id r → n ≡ record s { log = n.log }
    → ((o : ℕ) → Contains os o → s.base + o < id) → OnOk r (AreEarlier n os)
behind_earlier {D} {T} s n os id (Err fault) enters same before = tt
behind_earlier {D} {T} s n os id (Ok done) enters same before = λ o among.
    let base_is : n.base ≡ s.base = ap (λ (x : NoteState D). x.base) same in
    let at : n.log.id ≡ id = elim enters [
      | inl still ↦ ap (λ (x : State D). x.id) still.1 ∙ sym still.0
      | inr on ↦ ap (λ (x : State D). x.id) on.1
    ] in
    omega (arith, base_is, at, before o among)
