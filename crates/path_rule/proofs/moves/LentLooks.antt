-- The holder of the Sync turn looks at the synced key before it lends notes: what is pending up to
-- the last marker may be written by the keeper on the desk.
use Rattle.std.proofs.Common.{
  ◌≡◌,
  ℕ,
  ◌<◌,
  ◌≤◌,
  true,
  List,
  Some,
  sym,
  ap,
  ◌∙◌,
  subst,
  ⊎_elim,
  arith,
}
use Rattle.std.specs.List.{Contains, filter}
use Rattle.std.specs.Prelude.{slice_index, nat_le, nat_lt}
use Rattle.std.proofs.lemmas.Bool.{and_parts, ltb-true}
use mathlib.Core.Logic.{dite, inl, inr}
use mathlib.Core.Option.{none}
use native.Mathlib.Decide.{dec_le}
use Rattle.atomic_table.specs.Table.{Me, step, Allows}
use Rattle.path_core.specs.declared.event.Cursor.TheVariants.{Synced}
use Rattle.path_core.specs.declared.event.Event.TheVariants.{Look, Put}
use Rattle.path_core.specs.declared.event.Place.TheVariants.{CursorWord}
use Rattle.path_core.specs.declared.note.EntryNote.{EntryNote}
use Rattle.path_core.specs.declared.seat.LastMarker.{LastMarker}
use Rattle.path_core.specs.declared.seat.SyncTurn.{SyncTurn}
use Rattle.path_core.specs.declared.state.PathState.{PathState}
use Rattle.path_core.specs.Allowed.{IsStep}
use Rattle.path_core.specs.Keeper.{Holding, IsParted, MayWrite}
use Rattle.path_core.specs.Lawful.{IsLawfulPath}
use Rattle.path_core.specs.Keys.{ordinal_of}
use Rattle.path_core.specs.Lent.{IsKeptOf, run_to}
use Rattle.path_core.specs.Next.{is_between}
use Rattle.path_core.proofs.lent.Writable.{may_write}
use Rattle.path_core.proofs.lists.Passing.{filter_from}
use Rattle.path_rule.specs.declared.lasting.Beside.{Beside}
use Rattle.path_rule.specs.declared.lasting.Filed.{Filed}
use Rattle.path_rule.specs.declared.lasting.Lasting.{Lasting}
use Rattle.path_rule.specs.declared.slot.Slot.{Slot}
use Rattle.path_rule.specs.declared.view.PathSize.{PathSize}
use Rattle.path_rule.specs.declared.view.Progress.{Progress}
use Rattle.path_rule.specs.declared.view.Role.TheVariants.{Steps}
use Rattle.path_rule.specs.declared.view.View.{View}
use Rattle.path_core.specs.Parts.{last_kept}
use Rattle.path_rule.specs.Kept.{MayBeKept}
use Rattle.path_rule.specs.Lasts.{lasting_of, shown}
use Rattle.path_rule.specs.Rule.{Ruled, view_after}
use Rattle.path_rule.specs.Told.{Made}
use Rattle.path_rule.specs.TurnTold.{MayLend, IsLent, LentFound}
use Rattle.path_rule.specs.Trails.{GoesOnBehind}
use Rattle.path_rule.specs.Turns.{IsBarred}
use Rattle.path_rule.proofs.log.Behind.{goes_on}
use Rattle.path_rule.proofs.log.FilingStays.{dropped_below}
use Rattle.path_rule.proofs.log.KeptStays.{none_kept}
use Rattle.path_rule.proofs.log.NotesBehind.{starts_above}
use Rattle.path_rule.proofs.moves.HolderFacts.{is_held, hands_now}
use Rattle.path_rule.proofs.moves.Looks.{look_owes, within, each_seat_name}
use Rattle.path_rule.proofs.moves.Moving.{capacity_is, core_lawful, known, was}
use Rattle.path_rule.proofs.moves.SyncFacts.{settled}

-- What a keeper kept of a refused sync is what one up to a marker at or below the last would write.
kept_below : (x : PathState) (key value : ℕ) (kept : List EntryNote) → MayBeKept x key
    → ((k : LastMarker) → last_kept x.claims ≡ Some k → k.start ≡ value)
    → (m : LastMarker) → last_kept x.claims ≡ Some m
    → kept ≡ filter (is_between x.synced key) x.notes → IsKeptOf x value kept
kept_below x key value kept may last m marked is = ⊎_elim (λ low. nothing low)
    (λ D. dite (dec_le key x.synced) (λ low. nothing low) (λ above.
    let not_above = D.not_above m marked in let at = last m marked in let start = D.start in
    inr (
      D.marker,
      D.claimed,
      D.is,
      omega arith,
      omega arith,
      is ∙ ap (λ (k : ℕ). filter (is_between x.synced k) x.notes) (sym D.start),
    ))) may
  where
    nothing : key ≤ x.synced → IsKeptOf x value kept
    nothing low = inl (is ∙ none_kept x.synced key x.notes low)

-- so a keeper that shows what it has made of the state may write what the machine would
may_be_lent : (x : PathState) → IsLawfulPath x → (o : Beside) (w opened key value by group : ℕ)
    (filed : Filed) (dropped : List ℕ) → ((k : ℕ) → Contains dropped k → k < ordinal_of x.synced)
    → MayBeKept x key
    → last_kept x.claims ≡ Some (record { by = by; start = value; barrier = Some group })
    → IsStep x (Put w Synced value) → (lasting : Lasting) (run : List EntryNote)
    → lasting ≡ shown o opened key filed dropped x
    → filter (is_between x.synced value) x.notes ≡ run → MayLend lasting value run
may_be_lent x L o w opened key value by group filed dropped below may marked step lasting run shows
    is h holds =
    let E : lasting_of h ≡ shown o opened key filed dropped x = holds ∙ shows in
    let whole : Holding = record h { dropped = x.dropped } in
    let M = may_write x L w value step whole (record {
      capacity = ap (λ (l : Lasting). l.capacity) E;
      ordinals = ap (λ (l : Lasting). l.ordinals) E;
      synced = ap (λ (l : Lasting). l.synced) E;
      dropped = λ o d. d;
    })
    (kept_below x key value h.kept may
    (λ k q. ap (λ (m : LastMarker). m.start) (same_marker (sym q ∙ marked)))
    (record { by = by; start = value; barrier = Some group }) marked
    (ap (λ (l : Lasting). l.kept) E)) in
    subst (λ (l : List EntryNote). MayWrite h value l) is (record {
      each = λ n among. let W = M.each n among in record {
        whole = W.whole;
        in_segment = W.in_segment;
        segment_is = W.segment_is;
        not_dropped = λ d. not_gone n among (below (ordinal_of n.start.0)
            (subst (λ (l : List ℕ). Contains l (ordinal_of n.start.0))
            (ap (λ (l : Lasting). l.dropped) E) d));
      };
      tiled = M.tiled;
      more = M.more;
      begins = M.begins;
      go_on = M.go_on;
    })
  where
    -- what is written now lies in no segment below that of the synced key
    not_gone : (n : EntryNote) → Contains (run_to x value) n
        → ordinal_of n.start.0 < ordinal_of x.synced → ⊥
    not_gone n among low = let f = filter_from (is_between x.synced value) x.notes n among in
        let above = ltb-true x.synced n.end.0
        (and_parts (nat_lt x.synced n.end.0) (nat_le n.end.0 value) f.1).0 in
        let up = starts_above x L n f.0 above in absurd (omega arith)

    same_marker : {a b : LastMarker} → Some a ≡ Some b → a ≡ b
    same_marker e = cc

module _ {K : Type 0} (shows : K → Lasting) (o : Beside) (size : PathSize) (slots id : ℕ)
    (m : Me (Slot K) View) (w : ℕ) (mine : m.0.role ≡ Steps w) where
  pub looks_lent : (t : SyncTurn) → m.0.part.sync ≡ Some t → t.stopped ≡ Some 0
      → m.0.hands.progress.gathered ≡ true
      → Allows (Ruled shows o size) slots id m 40 (λ n. n) (LentFound (step slots 40 0 0 none) m)
  looks_lent t sync runs all s r _ there _ = let n = slice_index s.words 40 in let x = r.core in
      let e = Look w (CursorWord Synced) in let v' = view_after m.0 e n in
      let found : n ≡ x.synced = r.words (CursorWord Synced) tt in
      let may : IsStep x e = record {
        seat = within shows o size slots id m w mine s r there;
        is_there = tt;
        row = tt;
      } in
      let P : ℕ → Type 0 = λ u. (value : ℕ) (run left : List EntryNote) → n < value
      → IsBarred m.0.hands value → IsParted value m.0.hands.pending run left
      → IsLent m.0 u n value run in
      let capacity : m.0.size.capacity ≡ x.capacity =
      ap (λ (z : PathSize). z.capacity) (known shows o size s r id w m.0 there mine).0
      ∙ sym (capacity_is shows o size s r) in
      let goes = subst (λ (q : ℕ × ℕ). GoesOnBehind q.0 q.1)
      (λ i. (sym capacity i, sym found i)) (goes_on x (core_lawful shows o size s r)) in
      look_owes shows o size slots id m w mine s r there (CursorWord Synced) tt tt
      (LentFound (step slots 40 0 0 none) m n) (λ made _.
      each_seat_name shows o size slots id m w mine
      (λ u. Made u (Look u (CursorWord Synced)) n m (v', m.1) × P u
      × GoesOnBehind m.0.size.capacity n) (
        made,
        (λ value run left low barred parted.
            let S = settled shows o size slots id m w mine s r there t sync runs all value run left
            (omega arith) barred parted in
            let D = (hands_now shows o size slots id m w mine s r there).desk
            (is_held m.0.part.sync t sync) in
            let marked = r.boxed.marked
            ∙ (ap (λ (k : Progress). k.marker) (sym D.2) ∙ barred.2) in (
              was shows o size s r id w m.0 there mine e may tt,
              sym found,
              S.1,
              record { seat = S.0.seat; is_there = S.0.is_there; row = S.0.row },
              may_be_lent x (core_lawful shows o size s r) o w size.at_open r.kept_to value barred.0
                  barred.1 r.filed r.dropped (dropped_below x (core_lawful shows o size s r) size
                  r.filed r.dropped r.filing) r.may_be_kept marked S.0 m.0.hands.lasting run D.0
                  S.1,
            )),
        goes,
      ))
