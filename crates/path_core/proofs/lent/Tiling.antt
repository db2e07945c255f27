-- The notes between the synced key and a marker tile the log.
use Rattle.std.proofs.Common.{
  ◌≡◌,
  ℕ,
  suc,
  ◌-◌,
  ◌<◌,
  ◌≤◌,
  not,
  List,
  [],
  ◌∷◌,
  length,
  IsTrue,
  sym,
  ap,
  ◌∙◌,
  subst,
  ⊎_elim,
  arith,
}
use Rattle.std.specs.Prelude.{◌⊎◌}
use Rattle.std.specs.List.{Contains, AllPairs}
use Rattle.std.proofs.lemmas.Bool.{false≢true}
use mathlib.Core.Logic.{dite, inl, inr}
use native.Mathlib.Decide.{ℕ_discrete}
use Rattle.path_core.specs.declared.event.ClaimKind.TheVariants.{Entry, Marker}
use Rattle.path_core.specs.declared.note.EntryNote.{EntryNote}
use Rattle.path_core.specs.declared.state.Claim.{Claim}
use Rattle.path_core.specs.Keys.{entry_start, behind_marker, after}
use Rattle.path_core.specs.LawfulLog.{TileTo, claim_in, key_before, key_behind}
use Rattle.path_core.specs.Parts.{is_entry, is_marker_kind}
use Rattle.path_core.specs.Keeper.{FollowTo, Tile}
use Rattle.path_core.proofs.lists.Heads.{first_in, later_in, first_or_later, ahead, behind}
use Rattle.path_core.proofs.lent.Numbers.{
  starts_at,
  follows_entry,
  follows_marker,
  FirstStarts,
  IsEntryAt,
  Rising,
  which,
  not_both,
  stands_entry,
  stands_marker,
  one_number,
  in_line,
  head_is,
}

module _ (capacity ordinals log : ℕ) (claims : List Claim)
    (T : TileTo capacity ordinals log claims) where
  module _ (few : capacity ≤ 33554432) (much : 64 ≤ capacity) (upto v : ℕ)
      (within : v < length claims) (mark : (claim_in claims v).what ≡ Marker)
      (at : (claim_in claims v).start ≡ upto) where
    pub record NextIs (i : ℕ) : Type 0 where
      pub next : ℕ
      pub entry : (claim_in claims next).what ≡ Entry
      pub below : next < v
      pub above : i < next
      pub from : (key_before capacity claims next ≡ (claim_in claims i).end) ⊎
          (key_before capacity claims next ≡ behind_marker capacity (claim_in claims i).end)
      pub first : (k : ℕ) → (claim_in claims k).what ≡ Entry → i < k → next ≤ k

    behind_entry : (i : ℕ) → (claim_in claims i).what ≡ Entry
        → key_before capacity claims (suc i) ≡ (claim_in claims i).end
    behind_entry i e = ap
        (λ k. key_behind k capacity (claim_in claims i).start (claim_in claims i).end) e

    behind_mark : (i : ℕ) → (claim_in claims i).what ≡ Marker
        → key_before capacity claims (suc i) ≡ behind_marker capacity (claim_in claims i).start
    behind_mark i e = ap (λ k. key_behind k capacity (claim_in claims i).start
        (claim_in claims i).end) e

    -- behind an entry stands the marker, or an entry comes, perhaps behind one marker
    next_entry : (i : ℕ) → i < v → (claim_in claims i).what ≡ Entry
        → (((claim_in claims i).end ≡ upto) × (suc i ≡ v)) ⊎ NextIs i
    next_entry i l e = ⊎_elim
        (λ entry. inr (record {
          next = suc i;
          entry = entry;
          below =
              not_last (suc i) (omega arith) entry;
          above = omega arith;
          from =
              inl (behind_entry i e);
          first = λ k _ up. omega arith;
        }))
        (λ m. dite (ℕ_discrete (suc i) v)
        (λ is. inl (
          sym (behind_entry i e)
              ∙ (sym (stands_marker capacity ordinals log claims T (suc i) (omega arith) m).starts
              ∙ (ap (λ j. (claim_in claims j).start) is ∙ at)),
          is,
        ))
        (λ apart. inr (behind_one m (omega arith))))
        (which capacity ordinals log claims T (suc i))
      where
        not_last : (j : ℕ) → j ≤ v → (claim_in claims j).what ≡ Entry → j < v
        not_last j le entry = dite (ℕ_discrete j v)
            (λ is. absurd (not_both capacity ordinals log claims T v
            (ap (λ k. (claim_in claims k).what) (sym is)
            ∙ entry) mark)) (λ apart. omega arith)

        behind_one : (claim_in claims (suc i)).what ≡ Marker → suc i < v → NextIs i
        behind_one m less = ⊎_elim
            (λ entry. record {
              next = suc (suc i);
              entry = entry;
              below = not_last (suc (suc i)) (omega arith) entry;
              above = omega arith;
              from = inr (behind_mark (suc i) m ∙ ap (behind_marker capacity)
                  ((stands_marker capacity ordinals log claims T (suc i) (omega arith) m).starts
                  ∙ behind_entry i e));
              first = λ k is up. dite (ℕ_discrete k (suc i))
                  (λ q. absurd (not_both capacity ordinals log claims T k is
                  (ap (λ j. (claim_in claims j).what) q ∙ m)))
                  (λ q. omega arith);
            })
            (λ again. absurd (let b = T.entry_before (suc (suc i)) (omega arith)
            (ap (λ k. is_marker_kind k) again) in let same : b.0 ≡ suc i = (let q = b.1 in
            omega arith) in
            false≢true (sym (ap (λ k. not (is_marker_kind k)) m) ∙ subst
            (λ j. IsTrue (is_entry (claim_in claims j))) same b.2)))
            (which capacity ordinals log claims T (suc (suc i)))

    pub tiles_from : (i : ℕ) → i < v → (claim_in claims i).what ≡ Entry → (ns : List EntryNote)
        → AllPairs Rising ns
        → ((n : EntryNote) → Contains ns n → (k : ℕ) × IsEntryAt claims n k × (i < k) × (k < v))
        → ((k : ℕ) → i < k → k < v → (claim_in claims k).what ≡ Entry
        → (n : EntryNote) × Contains ns n × IsEntryAt claims n k)
        → FollowTo upto (claim_in claims i).end ns
    tiles_from i l e [] order each all = ⊎_elim (λ q. q.0)
        (λ N. absurd (let m = all N.next N.above N.below N.entry in let z = m.1.0 in
        let y = m.1.1 in omega arith)) (next_entry i l e)
    tiles_from i l e (n ∷ ns) order each all = let k = each n (first_in n ns) in
        let ended : (claim_in claims k.0).end ≡ n.end.0 = k.1.end in
        let tail = tiles_from k.0 k.3 k.1.what ns (behind Rising n ns order)
        (λ m h. let q = each m (later_in n m ns h) in (
          q.0,
          q.1,
          in_line capacity ordinals log claims T n m k.0 q.0 k.1 q.1
              (ahead Rising n ns order m h),
          q.3,
        ))
        (λ j up low entry. let q = all j (let z = k.2 in omega arith) low entry in (
          q.0,
          ⊎_elim (λ same. absurd
              (let z = one_number capacity ordinals log claims T n k.0 j k.1
              (subst (λ (m : EntryNote). IsEntryAt claims m j)
              (sym same) q.2) in omega arith)) (λ h. h) (first_or_later n q.0 ns q.1),
          q.2,
        )) in (
          ⊎_elim (λ q. absurd (let a = k.2 in let b = k.3 in let c = q.1 in omega arith))
              (λ N. let m = all N.next N.above N.below N.entry in let is : k.0 ≡ N.next =
              head_is capacity ordinals log claims T N.next k.0 n ns order k.1
              (N.first k.0 k.1.what k.2) m.0 m.1 m.2 in
              let s = stands_entry capacity ordinals log claims T k.0 k.1.inside k.1.what in
              let size = (claim_in claims k.0).end - (claim_in claims k.0).start in
              let from = ap (key_before capacity claims) is in
              ⊎_elim (λ (f : key_before capacity claims N.next ≡ (claim_in claims i).end).
              follows_entry capacity (claim_in claims i).end size n.start.0 (sym k.1.start
              ∙ (s.starts ∙ ap (λ z. entry_start capacity z size) (from ∙ f))))
              (λ (f : key_before capacity claims N.next ≡ behind_marker capacity
              (claim_in claims i).end). follows_marker capacity (claim_in claims i).end size
              n.start.0 few much s.greatest (sym k.1.start
              ∙ (s.starts ∙ ap (λ z. entry_start capacity z size) (from ∙ f)))) N.from)
              (next_entry i l e),
          subst (λ z. FollowTo upto z ns) ended tail,
        )

    -- Where the first one starts behind the synced key.
    pub first_starts : (synced j : ℕ) → j < v → (claim_in claims j).what ≡ Entry
        → key_before capacity claims j ≡ after capacity synced → (ns : List EntryNote)
        → AllPairs Rising ns
        → ((n : EntryNote) → Contains ns n → (k : ℕ) × IsEntryAt claims n k × (j ≤ k) × (k < v))
        → ((k : ℕ) → j ≤ k → k < v → (claim_in claims k).what ≡ Entry
        → (n : EntryNote) × Contains ns n × IsEntryAt claims n k)
        → FirstStarts capacity synced ns
    first_starts synced j l e key [] order each all = tt
    first_starts synced j l e key (n ∷ ns) order each all =
        let k = each n (first_in n ns) in
        let m = all j (omega arith) l e in
        let is : k.0 ≡ j = head_is capacity ordinals log claims T j k.0 n ns order k.1 k.2 m.0
        m.1 m.2 in
        let s = stands_entry capacity ordinals log claims T k.0 k.1.inside k.1.what in
        let size = (claim_in claims k.0).end - (claim_in claims k.0).start in (
          size,
          s.greatest,
          sym k.1.start ∙ (s.starts ∙ ap (λ z. entry_start capacity z size)
              (ap (key_before capacity claims) is ∙ key)),
        )

    -- From the first entry behind the synced key on.
    pub tiles : (synced j : ℕ) → j < v → (claim_in claims j).what ≡ Entry
        → key_before capacity claims j ≡ after capacity synced → (ns : List EntryNote)
        → AllPairs Rising ns
        → ((n : EntryNote) → Contains ns n → (k : ℕ) × IsEntryAt claims n k × (j ≤ k) × (k < v))
        → ((k : ℕ) → j ≤ k → k < v → (claim_in claims k).what ≡ Entry
        → (n : EntryNote) × Contains ns n × IsEntryAt claims n k)
        → Tile capacity synced upto ns
    tiles synced j l e key [] order each all = absurd (let m = all j (omega arith) l e in
        let z = m.1.0 in let y = m.1.1 in omega arith)
    tiles synced j l e key (n ∷ ns) order each all = let k = each n (first_in n ns) in
        let m = all j (omega arith) l e in
        let is : k.0 ≡ j = head_is capacity ordinals log claims T j k.0 n ns order k.1 k.2 m.0
        m.1 m.2 in
        let f = first_starts synced j l e key (n ∷ ns) order each all in
        let ended : (claim_in claims k.0).end ≡ n.end.0 = k.1.end in (
          starts_at capacity (after capacity synced) f.0 n.start.0 f.2,
          subst (λ z. FollowTo upto z ns) ended
              (tiles_from k.0 k.3 k.1.what ns (behind Rising n ns order)
              (λ m h. let q = each m (later_in n m ns h) in (
                q.0,
                q.1,
                in_line capacity ordinals log claims T n m k.0 q.0 k.1 q.1
                    (ahead Rising n ns order m h),
                q.3,
              ))
              (λ i up low entry. let q = all i (let z = k.2 in omega arith) low entry in (
                q.0,
                ⊎_elim (λ same. absurd
                    (let z = one_number capacity ordinals log claims T n k.0 i k.1
                    (subst (λ (m : EntryNote). IsEntryAt claims m i) (sym same) q.2) in
                    omega arith)) (λ h. h) (first_or_later n q.0 ns q.1),
                q.2,
              ))),
        )
