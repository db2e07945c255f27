-- After a sync that was refused the holder of the Sync turn learns what lies on the desk: at a
-- look,
-- or where it stops the log because the keeper has stopped.
use Rattle.std.proofs.Common.{◌≡◌, ℕ, zero, suc, ◌<◌, true, cond, List, set, Option, Some, None}
use Rattle.std.proofs.Common.{is_some, IsTrue, refl, sym, ap, ◌∙◌, subst, ⊎_elim, arith}
use Rattle.std.proofs.lemmas.List.Sorted.{Contains-permutation, IsPermutation-sym}
use Rattle.std.proofs.lemmas.List.Sorted.{sum_by-IsPermutation}
use Rattle.std.specs.List.{Contains, filter}
use Rattle.std.specs.List.Sorted.{IsPermutation}
use Rattle.std.specs.Prelude.{slice_index}
use mathlib.Core.Logic.{inl, inr}
use mathlib.Core.Option.{none, some}
use lib.ListN.{get_elem?}
use Rattle.atomic_table.specs.Table.{State, Me, step, keeps, Allows}
use Rattle.path_core.specs.declared.event.Cursor.TheVariants.{Stopped}
use Rattle.path_core.specs.declared.event.Event.TheVariants.{Look, Put}
use Rattle.path_core.specs.declared.event.Place.TheVariants.{CursorWord}
use Rattle.path_core.specs.declared.event.Reading.TheVariants.{Number}
use Rattle.path_core.specs.declared.note.EntryNote.{EntryNote}
use Rattle.path_core.specs.declared.seat.LastMarker.{LastMarker}
use Rattle.path_core.specs.declared.state.PathState.{PathState}
use Rattle.path_core.specs.Allowed.{IsStep, IsSyncPoint}
use Rattle.path_core.specs.Lawful.{IsLawfulPath}
use Rattle.path_core.specs.Keeper.{HasRisen}
use Rattle.path_core.specs.LawfulLog.{is_note_at, is_at_most}
use Rattle.path_core.specs.Next.{next_of, is_between}
use Rattle.path_core.specs.SeatAfter.{seat_after}
use Rattle.path_core.specs.Markers.{HasPassedMarker}
use Rattle.path_core.proofs.log.Deposited.{all_deposited}
use Rattle.path_core.proofs.runs.EveryRun.{log_of}
use Rattle.path_rule.specs.declared.lasting.Beside.{Beside}
use Rattle.path_rule.specs.declared.lasting.Lasting.{Lasting}
use Rattle.path_rule.specs.declared.slot.Slot.{Slot}
use Rattle.path_rule.specs.declared.view.Hands.{Hands}
use Rattle.path_rule.specs.declared.view.PathSize.{PathSize}
use Rattle.path_rule.specs.declared.view.Progress.{Progress}
use Rattle.path_rule.specs.declared.view.Role.TheVariants.{Steps}
use Rattle.path_rule.specs.declared.view.View.{View}
use Rattle.path_rule.specs.Boxed.{Boxed}
use Rattle.path_core.specs.Parts.{last_kept}
use Rattle.path_rule.specs.HandsAfter.{with_desk}
use Rattle.path_rule.specs.Kept.{IsDepositedTo, MayBeKept}
use Rattle.path_rule.specs.Lasts.{ends, fault_count, shown, refused_lasting}
use Rattle.path_rule.specs.Rule.{Ruled, told_by, view_after, with_hands}
use Rattle.path_rule.specs.TurnTold.{IsKeptNow, CarriesAs, MadeRefused, RefusedKept, StoppedPut}
use Rattle.path_rule.specs.Turns.{IsBarred, TurnRuns}
use Rattle.path_rule.proofs.boxes.DeskChanged.{boxed_desk_turns}
use Rattle.path_rule.proofs.log.KeptStays.{kept_stays}
use Rattle.path_rule.proofs.moves.HolderFacts.{has, outside, others_free, is_held, hands_now}
use Rattle.path_rule.proofs.moves.Looks.{within, each_seat_name}
use Rattle.path_rule.proofs.moves.Moving.{core_lawful, was, plays_to}
use Rattle.path_rule.proofs.moves.SyncFacts.{turn_exact, settled}
use Rattle.path_rule.proofs.places.ReadBack.{rows_stay}
use Rattle.path_rule.proofs.seats.HolderKnows.{still}
use Rattle.path_rule.proofs.seats.MayGives.{risen_above}

same_marker : {a b : LastMarker} → Some a ≡ Some b → a ≡ b
same_marker e = cc

-- the last marker of a desk has one start
one_start : (h : Hands) (u v : ℕ) → IsBarred h u → IsBarred h v → u ≡ v
one_start h u v a b = ap (λ (k : LastMarker). k.start) (same_marker (sym a.2 ∙ b.2))

pub counts_fault : (n : ℕ) → 0 < n → fault_count n ≡ Some n
counts_fault zero above = absurd (omega arith)
counts_fault (suc n) above = refl

-- Up to the last marker, once its barrier is passed, each entry is noted.
deposited_to : (x : PathState) → IsLawfulPath x → (value by group : ℕ) → IsSyncPoint x value
    → last_kept x.claims ≡ Some (record { by = by; start = value; barrier = Some group })
    → IsDepositedTo x value
deposited_to x L value by group P marked = record {
  marker = P.marker;
  claimed = P.claimed;
  is = P.is;
  start = P.start;
  not_above = λ k q. let s = ap (λ (m : LastMarker). m.start) (same_marker (sym q ∙ marked)) in
      omega arith;
  noted = λ c h entry low.
      let d = all_deposited x (log_of x L) L.later_groups_log_above value passed c.end low in
      let once = L.each_claim_noted_once.once c h entry in omega arith;
}
  where
    passed : HasPassedMarker x.claims x.append.tallies value
    passed = record {
      marker = P.above;
      among = P.above_claimed;
      passed = record {
        is = P.above_is;
        start = P.above_start;
        group = P.group;
        issued = P.issued;
        passed = P.passed;
      };
    }

module _ {K : Type 0} (shows : K → Lasting) (o : Beside) (size : PathSize) (slots id : ℕ) (m : Me
    (Slot K) View)
    (w : ℕ) (mine : m.0.role ≡ Steps w) (upto : ℕ) (turn : TurnRuns m.0.part upto)
    (all : m.0.hands.progress.gathered ≡ true) (empty : m.0.hands.box_taken ≡ None)
    (barred : IsBarred m.0.hands upto) (kept pending : List EntryNote)
    (perm : IsPermutation m.0.hands.pending pending) (now : IsKeptNow upto m.0.hands kept) where
  abbrev hands_with : Option ℕ → Hands
  hands_with stopped = with_desk (refused_lasting kept stopped m.0.hands.lasting) pending
      m.0.hands.progress m.0.hands

  abbrev held : IsTrue (is_some m.0.part.sync)
  held = is_held m.0.part.sync turn.0 turn.2

  module _ (s : State (Slot K) View) (r : Ruled shows o size s)
      (there : get_elem? s.views id ≡ some m.0) where
    low : r.core.synced < upto
    low = let X = turn_exact shows o size slots id m w mine s r there turn.0 turn.2 in
        let q = X.synced turn.1 turn.4 in let k = turn.5 in omega arith

    running : r.core.stopped ≡ 0
    running = let X = turn_exact shows o size slots id m w mine s r there turn.0 turn.2 in
        sym (X.stopped 0 turn.3)

    -- up to which key the keeper may have kept entries now
    abbrev kept_key : (key : ℕ) × MayBeKept r.core key
        × (kept ≡ filter (is_between r.core.synced key) r.core.notes)
    kept_key = let D = (hands_now shows o size slots id m w mine s r there).desk held in ⊎_elim
        (λ same. (r.kept_to, r.may_be_kept, same ∙ ap (λ (l : Lasting). l.kept) D.0))
        (λ (P : (left : List EntryNote) × _). let S = settled shows o size slots id m w mine s r
        there
        turn.0 turn.2 turn.3 all upto kept P.0 low barred P.1 in (
          upto,
          inr (deposited_to r.core (core_lawful shows o size s r) upto barred.0 barred.1 S.0.row.3
              (r.boxed.marked ∙ (ap (λ (k : Progress). k.marker) (sym D.2) ∙ barred.2))),
          sym S.1,
        )) now

    boxed_now : (stopped : Option ℕ) (after : Lasting) (v' : View) → v'.role ≡ m.0.role
        → v'.part.append ≡ None → IsTrue (is_some v'.part.sync)
        → v'.hands ≡ hands_with stopped → after.logged ≡ filter (is_at_most r.core.synced)
        r.core.notes
        → refused_lasting kept stopped m.0.hands.lasting ≡ after
        → Boxed shows size.seats r.core.notes after r.core.claims r.core.append s.homes
        (set s.views id v')
    boxed_now stopped after v' role out on hands logged shows_after = let x = r.core in
        let B = r.boxed in
        let D = (hands_now shows o size slots id m w mine s r there).desk held in
        let P : IsPermutation B.pending pending =
        subst (λ (l : List EntryNote). IsPermutation l pending) D.1 perm in
        let back : (n : EntryNote) → Contains pending n → Contains B.pending n =
        λ n a. Contains-permutation pending B.pending n (IsPermutation-sym B.pending pending P) a in
        boxed_desk_turns shows size.seats x.notes (shown o size.at_open r.kept_to r.filed r.dropped
        x) after x.claims x.append
        s.homes s.views B id w m.0 v' there mine role
        (outside shows o size slots id m w mine s r there held) out held on empty
        (ap (λ (h : Hands). h.box_taken) hands ∙ empty)
        (others_free shows o size slots id m w mine s r there held) pending (
          ap (λ (h : Hands). h.lasting) hands ∙ shows_after,
          ap (λ (h : Hands). h.pending) hands,
          ap (λ (h : Hands). h.progress) hands ∙ D.2,
        )
        (ap (λ (h : Hands). h.swept) hands)
        (λ n q. ⊎_elim (λ a. inl (subst (λ (l : List EntryNote). Contains (ends l) n.end.0) (sym
        logged) a))
        (λ z. inr (⊎_elim (λ p. inl (Contains-permutation B.pending pending n P p))
        (λ b. inr b) z)) (B.noted n q))
        (λ n q. ⊎_elim (λ a. B.sound n (inl (back n a))) (λ b. B.sound n (inr b)) q)
        (λ k. let c = sum_by-IsPermutation
        (λ (a : EntryNote). cond {A = ℕ} (is_note_at k a) 1 0) B.pending pending P in omega arith)
        (λ n q old. let old' = subst (λ (l : List EntryNote). Contains (ends l) n.end.0) logged old
        in
        ⊎_elim (λ a. B.unlogged n (inl (back n a)) old') (λ b. B.unlogged n (inr b) old') q)

  pub keeps_refused : CarriesAs shows (refused_lasting kept m.0.hands.lasting.stopped
      m.0.hands.lasting) pending m.0.hands.progress m
      → Allows (Ruled shows o size) slots id m 48 (λ n. n)
      (RefusedKept shows (step slots 48 0 0 none) m)
  keeps_refused C s r _ there _ = let n = slice_index s.words 48 in let x = r.core in
      let e = Look w (CursorWord Stopped) in
      let stopped = m.0.hands.lasting.stopped in
      let h = hands_with stopped in
      let v' = view_after (with_hands h m.0) e n in
      let found : n ≡ x.stopped = r.words (CursorWord Stopped) tt in
      let D = (hands_now shows o size slots id m w mine s r there).desk held in
      let k = kept_key s r there in
      let may : IsStep x e = record {
        seat = within shows o size slots id m w mine s r there;
        is_there = tt;
        row = tt;
      } in
      let after_is : refused_lasting kept stopped m.0.hands.lasting ≡ shown o size.at_open k.0
      r.filed r.dropped x =
      (λ j. refused_lasting (k.2 j) ((ap (λ (l : Lasting). l.stopped) D.0) j) (D.0 j)) in (
        v',
        keeps,
        tt,
        plays_to shows o size s r id w m.0 there mine e refl may tt tt tt
            tt (rows_stay x e may (λ q. q) r.rows) n n None h found
            (ap (λ q. seat_after m.0.part e (Number q) (told_by None h)) found) found k.0
            (kept_stays x (core_lawful shows o size s r) e may k.0 k.1) m.1 keeps
            (boxed_now s r there stopped (shown o size.at_open k.0 r.filed r.dropped x) v' refl
            (outside shows o size slots id m w mine s r there held)
            (still _ m.0.part.sync held) refl refl after_is) tt (refl, refl, refl, refl) tt tt,
        (λ z u role bar. subst
            (λ (q : ℕ). MadeRefused shows q stopped z (Look z (CursorWord Stopped)) n m (v', m.1))
            (one_start m.0.hands upto u barred bar)
            (each_seat_name shows o size slots id m w mine
            (λ y. MadeRefused shows upto stopped y (Look y (CursorWord Stopped)) n m (v', m.1)) (
              (
                kept,
                pending,
                perm,
                now,
                (refl, was shows o size s r id w m.0 there mine e may tt),
                C,
              ),
              refl,
            ) z role)),
      )

  -- The log is stopped by the holder of the turn that found it running.
  pub halts : (value : ℕ) → HasRisen m.0.hands.lasting.at_open value
      → CarriesAs shows (refused_lasting kept (Some value) m.0.hands.lasting) pending
      m.0.hands.progress m
      → Allows (Ruled shows o size) slots id m 48 (λ _. value)
      (λ _. StoppedPut shows (step slots 48 value 0 none) m value)
  halts value risen C s r _ there _ = let x = r.core in let e = Put w Stopped value in
      let above = risen_above m.0.hands.lasting.at_open value risen in
      let h = hands_with (Some value) in
      let v' = view_after (with_hands h m.0) e value in
      let D = (hands_now shows o size slots id m w mine s r there).desk held in
      let k = kept_key s r there in
      let may : IsStep x e = record {
        seat = within shows o size slots id m w mine s r there;
        is_there = tt;
        row = (
          has shows o size slots id m w mine s r there held,
          above,
          running s r there,
        );
      } in
      let built = subst (λ (k : ℕ). HasRisen k value) (ap (λ (l : Lasting). l.at_open) D.0) risen in
      let after_is : refused_lasting kept (Some value) m.0.hands.lasting ≡ shown o size.at_open k.0
      r.filed r.dropped (next_of x e) =
      (λ j. refused_lasting (k.2 j) (sym (counts_fault value above) j) (D.0 j)) in (
        v',
        keeps,
        tt,
        plays_to shows o size s r id w m.0 there mine e refl may tt built tt
            tt (rows_stay x e may (λ q. q) r.rows) value value None h refl refl tt k.0
            (kept_stays x (core_lawful shows o size s r) e may k.0 k.1) m.1 keeps
            (boxed_now s r there (Some value) (shown o size.at_open k.0 r.filed r.dropped
            (next_of x e)) v' refl (outside shows o size slots id m w mine s r there held)
            (still _ m.0.part.sync held) refl refl after_is) tt (refl, refl, refl, refl) tt tt,
        (λ z u role bar. subst
            (λ (q : ℕ). MadeRefused shows q (Some value) z (Put z Stopped value) value m (v', m.1))
            (one_start m.0.hands upto u barred bar)
            (each_seat_name shows o size slots id m w mine
            (λ y. MadeRefused shows upto (Some value) y (Put y Stopped value) value m (v', m.1)) (
              (
                kept,
                pending,
                perm,
                now,
                (refl, was shows o size s r id w m.0 there mine e may tt),
                C,
              ),
              refl,
            ) z role)),
      )
