-- What a path's sync makes lasting meets what a keeper asks, also behind what it kept.
use Rattle.std.proofs.Common.{
  ◌≡◌,
  ℕ,
  ◌+◌,
  ◌/◌,
  ◌<◌,
  ◌≤◌,
  Bool,
  true,
  false,
  cond,
  List,
  [],
  ◌∷◌,
  ◌++◌,
  IsTrue,
  refl,
  sym,
  ap,
  ◌∙◌,
  subst,
  arith,
  ◌⊎◌,
}
use Rattle.std.specs.List.{Contains, filter, count_by}
use Rattle.std.proofs.lemmas.Bool.{ltb-true, ltb-false, ne_eqb}
use Rattle.std.proofs.lemmas.List.{get_or_default}
use mathlib.Core.Logic.{dite, inl, inr}
use native.Mathlib.Decide.{dec_lt}
use Rattle.path_core.specs.declared.event.ClaimKind.TheVariants.{Marker}
use Rattle.path_core.specs.declared.event.Cursor.TheVariants.{Synced}
use Rattle.path_core.specs.declared.event.Event.TheVariants.{Put}
use Rattle.path_core.specs.declared.note.EntryNote.{EntryNote}
use Rattle.path_core.specs.declared.state.Claim.{Claim}
use Rattle.path_core.specs.declared.state.PathState.{PathState}
use Rattle.path_core.specs.Keys.{
  ordinal_of,
  offset_of,
  first_offset,
  marker_size,
  next_segment,
  fits,
  entry_start,
  behind_marker,
  after,
}
use Rattle.path_core.specs.Parts.{no_claim, is_entry, is_marker}
use Rattle.path_core.specs.Allowed.{IsStep}
use Rattle.path_core.specs.History.{IsInSegment}
use Rattle.path_core.specs.Next.{is_between}
use Rattle.path_core.specs.Lawful.{IsLawfulPath}
use Rattle.path_core.specs.LawfulLog.{claim_in, is_note_at}
use Rattle.path_core.specs.Keeper.{
  Holding,
  IsWritable,
  Tile,
  FollowTo,
  last_end,
  GoOnBehind,
  MayWrite,
}
use Rattle.path_core.specs.Lent.{AgreesWith, IsKeptOf, run_to}
use Rattle.path_core.proofs.runs.EveryRun.{keeps_lawful}
use Rattle.path_core.proofs.lent.Kept.{split_at}
use Rattle.path_core.proofs.lent.Lendable.{StandsIn, LentAt, lent_at}
use Rattle.path_core.proofs.lent.Beginnings.{notes_rise, is_marked}
use Rattle.path_core.proofs.lent.Numbers.{FirstStarts}

-- an entry that is claimed behind a marker starts behind it, or at the front of the next segment
behind_kept : (capacity u size start : ℕ) → capacity ≤ 33554432 → 4096 ≤ capacity → 0 < u
    → size ≤ capacity / 2 → start ≡ entry_start capacity (after capacity u) size
    → (start ≡ behind_marker capacity u) ⊎ (start ≡ next_segment u)
behind_kept capacity u size start few much some small e = by (fits capacity u marker_size) refl
    (e ∙ ap (λ (b : Bool). entry_start capacity (cond b first_offset (behind_marker capacity u))
    size)
    (ne_eqb u 0 (λ z. omega arith)))
  where
    on : (b : Bool) → fits capacity (u + marker_size) size ≡ b
        → offset_of u + marker_size < capacity
        → start ≡ cond b (u + marker_size) (next_segment (u + marker_size))
        → (start ≡ u + marker_size) ⊎ (start ≡ next_segment u)
    on true f l e = inl e
    on false f l e = inr (omega arith)

    off : (b : Bool) → fits capacity (next_segment u) size ≡ b
        → start ≡ cond b (next_segment u) (next_segment (next_segment u))
        → (start ≡ next_segment u) ⊎ (start ≡ next_segment u)
    off true f e = inl e
    off false f e = absurd
        (let l = ltb-false (offset_of (next_segment u) + size) capacity f in omega arith)

    by : (b : Bool) → fits capacity u marker_size ≡ b
        → start ≡ entry_start capacity (cond b (u + marker_size) (next_segment u)) size
        → (start ≡ cond b (u + marker_size) (next_segment u)) ⊎ (start ≡ next_segment u)
    by true f e = on (fits capacity (u + marker_size) size) refl
        (ltb-true (offset_of u + marker_size) capacity f) e
    by false f e = off (fits capacity (next_segment u) size) refl e

-- entries that follow one another to a key end there
ends_there : (u : ℕ) (k : EntryNote) (ks : List EntryNote) → FollowTo u k.end.0 ks
    → last_end k ks ≡ u
ends_there u k [] follow = follow
ends_there u k (m ∷ ms) follow = ends_there u m ms follow.1

go_on : (capacity synced u : ℕ) (kept more : List EntryNote) → capacity ≤ 33554432
    → 4096 ≤ capacity → 0 < u → Tile capacity synced u kept → FirstStarts capacity u more
    → GoOnBehind capacity kept more
go_on capacity synced u [] more few much some tiled starts = tt
go_on capacity synced u (k ∷ ks) [] few much some tiled starts = tt
go_on capacity synced u (k ∷ ks) (n ∷ ns) few much some tiled starts =
    subst (λ e. (n.start.0 ≡ behind_marker capacity e) ⊎ (n.start.0 ≡ next_segment e))
    (sym (ends_there u k ks tiled.1))
    (behind_kept capacity u starts.0 n.start.0 few much some starts.1 starts.2)

no_more : (l : List EntryNote) → l ≡ l ++ []
no_more [] = refl
no_more (n ∷ ns) = ap (λ m. n ∷ m) (no_more ns)

ends_all : (capacity : ℕ) (kept : List EntryNote) → GoOnBehind capacity kept []
ends_all capacity [] = tt
ends_all capacity (k ∷ ks) = tt

module _ (x : PathState) (L : IsLawfulPath x) (by value : ℕ) (may : IsStep x (Put by Synced value))
    (h : Holding) (A : AgreesWith x h) where
  gathered : (c : Claim) → Contains x.claims c → IsTrue (is_entry c) → c.end ≤ value
      → count_by (is_note_at c.end) x.notes ≡ 1
  gathered = (keeps_lawful x L (Put by Synced value) may tt).logged_is_the_synced_part.gathered

  -- a marker of the log is the claim of some number
  at_marker : (c : Claim) → (at : Contains x.claims c) → IsTrue (is_marker c)
      → ((claim_in x.claims at.0).what ≡ Marker) × ((claim_in x.claims at.0).start ≡ c.start)
  at_marker c at is =
      let read : claim_in x.claims at.0 ≡ c
      = get_or_default x.claims at.0 no_claim c at.1 ∙ at.2 in (
        is_marked (claim_in x.claims at.0).what
            (ap (λ (d : Claim). is_marker d) read ∙ is),
        ap (λ (d : Claim). d.start) read,
      )

  lent : LentAt x x.synced value (run_to x value)
  lent = let P = may.row.3 in let m = at_marker P.marker P.claimed P.is in
      lent_at x L x.synced (omega arith) L.synced_below_the_log.marker value P.claimed.0 may.row.2
      P.claimed.1 m.0 (m.1 ∙ P.start) gathered

  writable : (n : EntryNote) → StandsIn x n → IsWritable h n
  writable n S = record {
    whole = S.whole;
    in_segment = subst (λ c. IsInSegment c n) (sym A.capacity) S.in_segment;
    segment_is = subst (λ o. ordinal_of n.start.0 < o) (sym A.ordinals) S.segment_is;
    not_dropped = λ d. S.not_dropped (A.dropped (ordinal_of n.start.0) d);
  }

  tiled : Tile h.sizes.capacity h.synced value (run_to x value)
  tiled = subst (λ c. Tile c h.synced value (run_to x value)) (sym A.capacity)
      (subst (λ s. Tile x.capacity s value (run_to x value)) (sym A.synced) lent.tiled)

  with_parts : (more : List EntryNote) → run_to x value ≡ h.kept ++ more
      → GoOnBehind x.capacity h.kept more → MayWrite h value (run_to x value)
  with_parts more begins goes = record {
    each = λ n among. writable n (lent.each n among);
    tiled = tiled;
    more = more;
    begins = begins;
    go_on = subst (λ c. GoOnBehind c h.kept more) (sym A.capacity) goes;
  }

  pub may_write : IsKeptOf x value h.kept → MayWrite h value (run_to x value)
  may_write (inl none) = with_parts (run_to x value) (ap (λ l. l ++ run_to x value) (sym none))
      (subst (λ l. GoOnBehind x.capacity l (run_to x value)) (sym none) tt)
  may_write (inr K) = dite (dec_lt K.0.start value) (λ low. further low) (λ n. same (omega arith))
    where
      kept : h.kept ≡ filter (is_between x.synced K.0.start) x.notes
      kept = K.5

      m : ((claim_in x.claims K.1.0).what ≡ Marker)
          × ((claim_in x.claims K.1.0).start ≡ K.0.start)
      m = at_marker K.0 K.1 K.2

      same : K.0.start ≡ value → MayWrite h value (run_to x value)
      same is = with_parts []
          (ap (λ k. filter (is_between x.synced k) x.notes) (sym is) ∙ sym kept ∙ no_more h.kept)
          (ends_all x.capacity h.kept)

      first_part : LentAt x x.synced K.0.start (filter (is_between x.synced K.0.start) x.notes)
      first_part = lent_at x L x.synced (omega arith) L.synced_below_the_log.marker K.0.start K.1.0
          K.3 K.1.1 m.0 m.1
          (λ c among is low. gathered c among is (let u = K.4 in omega arith))

      further : K.0.start < value → MayWrite h value (run_to x value)
      further low =
          let P = may.row.3 in
          let p = at_marker P.marker P.claimed P.is in
          let above = K.3 in
          let rest = lent_at x L K.0.start (omega arith) (λ _. (K.0, K.1, K.2, refl)) value
          P.claimed.0 low P.claimed.1 p.0 (p.1 ∙ P.start) gathered in
          with_parts (filter (is_between K.0.start value) x.notes)
          (split_at x.synced K.0.start value (omega arith) (omega arith) x.notes (notes_rise x L)
          ∙ ap (λ l. l ++ filter (is_between K.0.start value) x.notes) (sym kept))
          (subst (λ l. GoOnBehind x.capacity l (filter (is_between K.0.start value) x.notes))
          (sym kept)
          (go_on x.capacity x.synced K.0.start _ _ L.sized.limits.greatest_capacity
          L.sized.limits.least_capacity (omega arith) first_part.tiled rest.starts))
