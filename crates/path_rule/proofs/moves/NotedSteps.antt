-- The holder of the Sync turn learns what the keeper shows after it refused a table file, or
-- dropped segments: at a look, or where it stops the log because the keeper has stopped.
use Rattle.std.proofs.Common.{◌≡◌, ℕ, Bool, true, List, ◌++◌, set, Option, Some, None, is_some}
use Rattle.std.proofs.Common.{IsTrue, refl, sym, ap, ◌∙◌, subst, ⊎_elim, arith}
use Rattle.std.specs.Prelude.{slice_index}
use Rattle.std.specs.List.{Contains}
use Rattle.std.proofs.lemmas.Bool.{false≢true}
use Rattle.std.proofs.lemmas.List.Elements.{Contains-append_cases, Contains-append_left}
use Rattle.std.proofs.lemmas.List.Elements.{Contains-append_right}
use mathlib.Core.Logic.{inr}
use mathlib.Core.Option.{none, some}
use lib.ListN.{get_elem?}
use Rattle.atomic_table.specs.Table.{State, Me, step, keeps, Allows}
use Rattle.path_core.specs.declared.event.Cursor.TheVariants.{Stopped}
use Rattle.path_core.specs.declared.event.Event.TheVariants.{Look, Put}
use Rattle.path_core.specs.declared.event.Place.TheVariants.{CursorWord}
use Rattle.path_core.specs.declared.event.Reading.TheVariants.{Number}
use Rattle.path_core.specs.declared.note.EntryNote.{EntryNote}
use Rattle.path_core.specs.declared.seat.SyncTurn.{SyncTurn}
use Rattle.path_core.specs.Allowed.{IsStep}
use Rattle.path_core.specs.Keeper.{HasRisen}
use Rattle.path_core.specs.Next.{has_filed, next_of}
use Rattle.path_core.specs.SeatAfter.{seat_after}
use Rattle.path_rule.specs.declared.lasting.Beside.{Beside}
use Rattle.path_rule.specs.declared.lasting.Filed.{Filed}
use Rattle.path_rule.specs.declared.lasting.Lasting.{Lasting}
use Rattle.path_rule.specs.declared.slot.Slot.{Slot}
use Rattle.path_rule.specs.declared.view.Hands.{Hands}
use Rattle.path_rule.specs.declared.view.PathSize.{PathSize}
use Rattle.path_rule.specs.declared.view.Role.TheVariants.{Steps}
use Rattle.path_rule.specs.declared.view.View.{View}
use Rattle.path_rule.specs.Boxed.{Boxed, IsKept, IsSomewhere}
use Rattle.path_rule.specs.Filing.{HasFiled, IsGoing, MayGo}
use Rattle.path_rule.specs.FilingTold.{AreArchived, FilingNoted, FilingStopped, GoesNow, MadeNoted}
use Rattle.path_rule.specs.FilingTold.{MayBeGone, noted}
use Rattle.path_rule.specs.HandsAfter.{with_desk}
use Rattle.path_rule.specs.Lasts.{ends, shown}
use Rattle.path_rule.specs.Rule.{Ruled, told_by, view_after, with_hands}
use Rattle.path_rule.specs.TurnTold.{CarriesAs}
use Rattle.path_rule.proofs.boxes.DeskChanged.{boxed_desk_turns}
use Rattle.path_rule.proofs.log.FilesShown.{droppable_shown}
use Rattle.path_rule.proofs.log.FilingStays.{filing_stays}
use Rattle.path_rule.proofs.log.KeptStays.{kept_stays}
use Rattle.path_rule.proofs.moves.HolderFacts.{has, outside, others_free, is_held, hands_now}
use Rattle.path_rule.proofs.moves.Looks.{each_seat_name, own_part, within}
use Rattle.path_rule.proofs.moves.Moving.{core_lawful, plays_filed, was}
use Rattle.path_rule.proofs.moves.RefusedSyncs.{counts_fault}
use Rattle.path_rule.proofs.moves.SyncFacts.{turn_exact}
use Rattle.path_rule.proofs.places.ReadBack.{rows_stay}
use Rattle.path_rule.proofs.seats.HolderKnows.{still}
use Rattle.path_rule.proofs.seats.MayGives.{risen_above}

module _ {K : Type 0} (shows : K → Lasting) (o : Beside) (size : PathSize) (slots id : ℕ)
    (m : Me (Slot K) View) (w : ℕ) (mine : m.0.role ≡ Steps w) (turn : SyncTurn)
    (sync : m.0.part.sync ≡ Some turn) (runs : turn.stopped ≡ Some 0)
    (empty : m.0.hands.box_taken ≡ None) (files : size.files ≡ true) (refused : Bool)
    (archived dropped : List ℕ)
    (gone : MayBeGone m.0 dropped × AreArchived m.0 dropped archived) where
  abbrev hands_with : Option ℕ → Hands
  hands_with stopped = with_desk (noted refused archived dropped stopped m.0.hands.lasting)
      m.0.hands.pending m.0.hands.progress m.0.hands

  abbrev held : IsTrue (is_some m.0.part.sync)
  held = is_held m.0.part.sync turn sync

  module _ (s : State (Slot K) View) (r : Ruled shows o size s)
      (there : get_elem? s.views id ≡ some m.0) where
    -- what the keeper has filed then
    abbrev put : Filed
    put = record r.filed { refused = refused; archived = archived }

    lasting_is : m.0.hands.lasting ≡ shown o size.at_open r.kept_to r.filed r.dropped r.core
    lasting_is = ((hands_now shows o size slots id m w mine s r there).desk held).0

    going : (k : ℕ) → GoesNow m.0 k → IsGoing r.core k
    going k G = let X = turn_exact shows o size slots id m w mine s r there G.synced.0 G.synced.1 in
        let is = X.synced G.key G.synced.3 in let low = G.below in record {
          by = w;
          filed = own_part shows o size slots id m w mine s r there has_filed true G.filed;
          droppable = droppable_shown r.core (core_lawful shows o size s r) size r.filed r.dropped
              r.filing o size.at_open r.kept_to k
              (subst (λ (l : Lasting). MayGo l k) lasting_is G.may) (omega arith);
          below = omega arith;
        }

    -- which archive names there were, and whether the keeper gives them
    were : m.0.hands.lasting.filed.archived ≡ r.filed.archived
    were = ap (λ (l : Lasting). l.filed.archived) lasting_is

    gives : m.0.hands.lasting.beside.archives ≡ o.archives
    gives = ap (λ (l : Lasting). l.beside.archives) lasting_is

    abbrev A : AreArchived m.0 dropped archived
    A = gone.1

    filed_now : HasFiled o size r.core put dropped
    filed_now = record {
      ranged = r.filing.ranged;
      merged = r.filing.merged;
      gone = λ k h. ⊎_elim (λ old. r.filing.gone k (subst (λ (l : List ℕ). Contains l k)
          (ap (λ (l : Lasting). l.dropped) lasting_is) old)) (λ G. inr (going k G)) (gone.0 k h);
      few = r.filing.few;
      plain = λ none. absurd (false≢true (sym none ∙ files));
      none_archived = λ none. A.behind ∙ (λ i. (were ∙ r.filing.none_archived none) i
          ++ A.none_given (gives ∙ none) i);
      all_archived = λ all n h. subst (λ (l : List ℕ). Contains l n) (sym A.behind)
          (⊎_elim (λ old. Contains-append_left m.0.hands.lasting.filed.archived A.names n
          (subst (λ (l : List ℕ). Contains l n) (sym were) (r.filing.all_archived all n
          (subst (λ (l : List ℕ). Contains l n) (ap (λ (l : Lasting). l.dropped) lasting_is)
          old))))
          (Contains-append_right m.0.hands.lasting.filed.archived A.names n)
          (A.all_named (gives ∙ all) n h));
      archived_may = λ n h. ⊎_elim (λ old. r.filing.archived_may n
          (subst (λ (l : List ℕ). Contains l n) were old))
          (λ new. let G = going n (A.each n new).0 in (G.droppable, G.below))
          (Contains-append_cases m.0.hands.lasting.filed.archived A.names n
          (subst (λ (l : List ℕ). Contains l n) A.behind h));
    }

    boxed_noted : (after : Lasting) (v' : View) → v'.role ≡ m.0.role
        → v'.part.append ≡ None → IsTrue (is_some v'.part.sync) → (stopped : Option ℕ)
        → v'.hands ≡ hands_with stopped
        → after.logged ≡ (shown o size.at_open r.kept_to r.filed r.dropped r.core).logged
        → noted refused archived dropped stopped m.0.hands.lasting ≡ after
        → Boxed shows size.seats r.core.notes after r.core.claims r.core.append s.homes
        (set s.views id v')
    boxed_noted after v' role out on stopped hands logged shows_after = let x = r.core in
        let B = r.boxed in
        let D = (hands_now shows o size slots id m w mine s r there).desk held in
        boxed_desk_turns shows size.seats x.notes
        (shown o size.at_open r.kept_to r.filed r.dropped x) after x.claims x.append s.homes
        s.views B id w m.0 v' there mine role
        (outside shows o size slots id m w mine s r there held) out held on empty
        (ap (λ (h : Hands). h.box_taken) hands ∙ empty)
        (others_free shows o size slots id m w mine s r there held) B.pending (
          ap (λ (h : Hands). h.lasting) hands ∙ shows_after,
          ap (λ (h : Hands). h.pending) hands ∙ D.1,
          ap (λ (h : Hands). h.progress) hands ∙ D.2,
        )
        (ap (λ (h : Hands). h.swept) hands)
        (subst (λ (l : List EntryNote). (n : EntryNote) → Contains x.notes n
        → IsSomewhere (ends l) B.pending B.contents n) (sym logged) B.noted)
        B.sound (λ k. omega arith)
        (subst (λ (l : List EntryNote). (n : EntryNote) → IsKept B.pending B.contents n
        → ¬ Contains (ends l) n.end.0) (sym logged) B.unlogged)

  pub notes_filing : CarriesAs shows (noted refused archived dropped m.0.hands.lasting.stopped
      m.0.hands.lasting) m.0.hands.pending m.0.hands.progress m
      → Allows (Ruled shows o size) slots id m 48 (λ n. n)
      (FilingNoted shows (step slots 48 0 0 none) m)
  notes_filing C s r _ there _ = let n = slice_index s.words 48 in let x = r.core in
      let e = Look w (CursorWord Stopped) in
      let stopped = m.0.hands.lasting.stopped in let h = hands_with stopped in
      let v' = view_after (with_hands h m.0) e n in
      let found : n ≡ x.stopped = r.words (CursorWord Stopped) tt in
      let L = core_lawful shows o size s r in
      let may : IsStep x e = record {
        seat = within shows o size slots id m w mine s r there;
        is_there = tt;
        row = tt;
      } in
      let after_is : noted refused archived dropped stopped m.0.hands.lasting
      ≡ shown o size.at_open r.kept_to (put s r there) dropped x =
      (λ j. noted refused archived dropped ((ap (λ (l : Lasting). l.stopped)
      (lasting_is s r there)) j) (lasting_is s r there j)) in (
        v',
        keeps,
        tt,
        plays_filed shows o size s r id w m.0 there mine e refl may tt tt tt
            tt (rows_stay x e may (λ q. q) r.rows) n n None h found
            (ap (λ q. seat_after m.0.part e (Number q) (told_by None h)) found) found r.kept_to
            (kept_stays x L e may r.kept_to r.may_be_kept) (put s r there) dropped
            (filing_stays x L size (put s r there) dropped e may refl (filed_now s r there)) m.1
            keeps
            (boxed_noted s r there (shown o size.at_open r.kept_to (put s r there) dropped x) v'
            refl (outside shows o size slots id m w mine s r there held)
            (still _ m.0.part.sync held) stopped refl refl after_is) tt (refl, refl, refl, refl) tt
            tt,
        each_seat_name shows o size slots id m w mine
            (λ y. MadeNoted shows stopped y (Look y (CursorWord Stopped)) n m (v', m.1)
            × (n ≡ 0)) (
              (
                (
                  refused,
                  archived,
                  dropped,
                  gone,
                  (refl, was shows o size s r id w m.0 there mine e may tt),
                  C,
                ),
                refl,
              ),
              found ∙ sym ((turn_exact shows o size slots id m w mine s r there turn
                  sync).stopped 0 runs),
            ),
      )

  -- The log is stopped by the holder of the turn that found it running.
  pub halts_filing : (value : ℕ) → HasRisen m.0.hands.lasting.at_open value
      → CarriesAs shows (noted refused archived dropped (Some value) m.0.hands.lasting)
      m.0.hands.pending m.0.hands.progress m
      → Allows (Ruled shows o size) slots id m 48 (λ _. value)
      (λ _. FilingStopped shows (step slots 48 value 0 none) m value)
  halts_filing value risen C s r _ there _ = let x = r.core in let e = Put w Stopped value in
      let above = risen_above m.0.hands.lasting.at_open value risen in
      let h = hands_with (Some value) in let L = core_lawful shows o size s r in
      let v' = view_after (with_hands h m.0) e value in
      let X = turn_exact shows o size slots id m w mine s r there turn sync in
      let may : IsStep x e = record {
        seat = within shows o size slots id m w mine s r there;
        is_there = tt;
        row = (
          has shows o size slots id m w mine s r there held,
          above,
          sym (X.stopped 0 runs),
        );
      } in
      let built = subst (λ (k : ℕ). HasRisen k value) (ap (λ (l : Lasting). l.at_open)
      (lasting_is s r there)) risen in
      let after_is : noted refused archived dropped (Some value) m.0.hands.lasting
      ≡ shown o size.at_open r.kept_to (put s r there) dropped (next_of x e) =
      (λ j. noted refused archived dropped (sym (counts_fault value above) j)
      (lasting_is s r there j)) in (
        v',
        keeps,
        tt,
        plays_filed shows o size s r id w m.0 there mine e refl may tt built tt
            tt (rows_stay x e may (λ q. q) r.rows) value value None h refl refl tt r.kept_to
            (kept_stays x L e may r.kept_to r.may_be_kept) (put s r there) dropped
            (filing_stays x L size (put s r there) dropped e may refl (filed_now s r there)) m.1
            keeps
            (boxed_noted s r there
            (shown o size.at_open r.kept_to (put s r there) dropped (next_of x e)) v' refl
            (outside shows o size slots id m w mine s r there held)
            (still _ m.0.part.sync held) (Some value) refl refl after_is) tt
            (refl, refl, refl, refl) tt tt,
        each_seat_name shows o size slots id m w mine
            (λ y. MadeNoted shows (Some value) y (Put y Stopped value) value m (v', m.1)) (
              (
                refused,
                archived,
                dropped,
                gone,
                (refl, was shows o size s r id w m.0 there mine e may tt),
                C,
              ),
              refl,
            ),
      )
