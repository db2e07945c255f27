-- A writer joins a group of the append order, with its box, and leaves it before a claim.
use Rattle.op_core.specs.CountWords.{count_word, number_in}
use Rattle.op_core.proofs.CountWords.{less_word, more_word}
use Rattle.std.proofs.lemmas.Option.{same_Some}
use Rattle.path_rule.proofs.places.ShownSteps.{group_shown, number_shows}
use Rattle.std.proofs.Common.{◌≡◌, ◌≢◌, ℕ, ◌+◌, ◌-◌, ◌*◌, ◌%◌, ◌^◌, ◌<◌, ◌≤◌, eqb, List, ◌∷◌, set}
use Rattle.std.proofs.Common.{Option, Some, None, is_some, refl, sym, ap, ◌∙◌, subst, ⊎_elim, arith}
use Rattle.std.proofs.Common.{length}
use Rattle.std.specs.Prelude.{slice_index, IsSome}
use mathlib.Core.Logic.{inl}
use mathlib.Core.Option.{none, some}
use lib.ListN.{get_elem?}
use prog.Atomic.{either}
use Rattle.atomic_table.proofs.Lists.{exchanged}
use Rattle.atomic_table.specs.Table.{State, Me, step, takes, gives, put_back, rest, Allows}
use Rattle.op_core.specs.Tallies.{IsOpen}
use Rattle.op_core.specs.declared.count.Order.TheVariants.{Append}
use Rattle.path_core.specs.declared.event.Carried.TheVariants.{Nothing}
use Rattle.path_core.specs.declared.event.Event.TheVariants.{Look, Register, Close}
use Rattle.path_core.specs.declared.event.Place.TheVariants.{Count}
use Rattle.path_core.specs.declared.note.EntryNote.{EntryNote}
use Rattle.path_core.specs.declared.seat.Issue.TheVariants.{Rest}
use Rattle.path_core.specs.declared.seat.Seat.{Seat as SeatOf}
use Rattle.path_core.specs.Allowed.{IsStep}
use Rattle.path_core.specs.Lawful.{IsLawfulPath}
use Rattle.path_core.specs.Next.{next_of}
use Rattle.path_core.specs.Parts.{tally_of, seat_of, found_of, HoldsNoTurn}
use Rattle.path_core.proofs.frame.Seats.{some_left, group_made, at_rest, open_is_current}
use Rattle.path_rule.specs.declared.lasting.Beside.{Beside}
use Rattle.path_rule.specs.declared.lasting.Lasting.{Lasting}
use Rattle.path_rule.specs.declared.slot.Slot.{Slot}
use Rattle.path_rule.specs.declared.view.PathSize.{PathSize}
use Rattle.path_rule.specs.declared.view.Role.{Role}
use Rattle.path_rule.specs.declared.view.Role.TheVariants.{Steps, Opener, Spent}
use Rattle.path_rule.specs.declared.view.View.{View}
use Rattle.path_rule.specs.Boxed.{HandsAs, Boxed}
use Rattle.path_rule.specs.Boxes.{box_of, boxes, HasOwn, HoldsAs, IsFree, NotesAre}
use Rattle.path_rule.specs.HandsAfter.{with_notes}
use Rattle.path_rule.specs.Lasts.{shown}
use Rattle.path_rule.specs.Rule.{Knows, Ruled, view_after, with_hands}
use Rattle.path_rule.specs.Told.{Took, Joined, Withdrew, MadeAs, Made}
use Rattle.path_rule.proofs.boxes.FewNotes.{few_kept}
use Rattle.path_rule.proofs.boxes.HeldBoxes.{boxed_take, boxed_give}
use Rattle.path_rule.proofs.moves.LeavesWrites.{FirstBelow}
use Rattle.path_rule.proofs.moves.Looks.{Owes, as_part, within, below, look_owes, each_name}
use Rattle.path_rule.proofs.moves.Looks.{own_part}
use Rattle.path_rule.proofs.moves.Moving.{core_lawful, enough_boxes, was, plays, columns_now}
use Rattle.path_rule.proofs.moves.StepFacts.{known_groups}
use Rattle.path_rule.proofs.places.ReadBack.{rows_stay}

module _ {K : Type 0} (shows : K → Lasting) (o : Beside) (size : PathSize) (slots id : ℕ)
    (m : Me (Slot K) View) (w : ℕ) (mine : m.0.role ≡ Steps w) where
  module _ (s : State (Slot K) View) (r : Ruled shows o size s)
      (there : get_elem? s.views id ≡ some m.0) where
    -- the own box, of a seat that is outside the append order, is free where its group is open
    pub own_free : (g : ℕ) → m.0.part.append ≡ None → g ≤ r.core.append.current
        → IsOpen (tally_of r.core Append g) → IsFree s.views (box_of w g)
    own_free g outside low up j u e h =
        by_role u.role (r.each_seat j u e).1 (r.boxed.in_hands j u e) h
      where
        law : IsLawfulPath r.core
        law = core_lawful shows o size s r

        by_own : (z : ℕ) (o : Option ℕ) → (seat_of r.core z).append ≡ o → HasOwn z o (box_of w g)
            → ⊥
        by_own z None is h = h
        by_own z (Some q) is h = let c : 1 + 2 * w + g % 2 ≡ 1 + 2 * z + q % 2 = h in
            let same : z ≡ w = omega arith in
            let f : Some q ≡ None = sym is ∙
            (ap (λ (k : ℕ). (seat_of r.core k).append) same
            ∙ own_part shows o size slots id m w mine s r there
            (λ (p : SeatOf). p.append) None outside) in cc

        by_role : (ρ : Role) → Knows r.core r.events r.owner r.made r.boss j ρ u.part u.trail
            u.returned → HandsAs r.boxed.contents
            (shown o size.at_open r.kept_to r.filed r.dropped r.core) r.boxed.pending
            r.boxed.progress r.core.append size.seats
            u.part u.hands
            ρ
            → HoldsAs u.part.append (is_some u.part.sync) u.hands.box_taken (box_of w g) ρ → ⊥
        by_role (Opener k) kn H h = h
        by_role Spent kn H h = h
        by_role (Steps z) kn H h = ⊎_elim
            (λ own. by_own z u.part.append (sym (ap (λ (p : SeatOf). p.append) kn.0.2)) own)
            (λ more. ⊎_elim (λ desk. absurd (let q = desk.1 in omega arith))
            (λ taken. let G = H.other (box_of w g) taken in let t = at_rest u.part G.holds G.rest in
            let rest : law.orders.issue ≡ Rest =
            sym (law.orders.one_holder_a_turn.issue_is z t.0
            (ap (λ (p : SeatOf). p.sync) (sym kn.0.2) ∙ t.1)) ∙ t.2 in
            let now = open_is_current r.core law rest Append g low up in
            G.parity (let q = ap (λ (n : ℕ). n % 2) now in omega arith)) more) h

    pub own_low : (g : ℕ) → box_of w g < boxes size.seats
    own_low g = let l = within shows o size slots id m w mine s r there in let k = r.long in
        omega arith

    pub low_seat : w < size.seats
    low_seat = let l = within shows o size slots id m w mine s r there in let k = r.long in
        omega arith

  pub joins : (g k : ℕ) → IsSome m.0.part.write → m.0.part.append ≡ None → m.0.part.claim ≡ None
      → HoldsNoTurn m.0.part → (found_of Append m.0.part).current ≡ Some g → number_in k ≡ g
      → k < 2 ^ 63
      → Allows (Ruled shows o size) slots id m (136 + 16 * (g % 32))
      (λ n. either (eqb n k) (k + 1) n)
      (Joined (step slots (136 + 16 * (g % 32)) k (k + 1) none) m)
  joins g k write outside unclaimed bare saw number low s r _ there _ =
      let i : ℕ = 136 + 16 * (g % 32) in let n = slice_index s.words i in let x = r.core in
      let c = tally_of x Append g in
      let then = Joined (step slots i k (k + 1) none) m n in
      exchanged n k (k + 1) (λ z. Owes shows o size slots id m w mine s i z then)
      (λ hit. let e = Register w Append g in
      let is = as_part shows o size slots id m w mine s r there in
      let fits = number_shows x (core_lawful shows o size s r) r.rows s.words r.words Append g
      (below shows o size slots id m w mine s r there (Count Append g) (inl saw))
      (ap number_in hit ∙ number) in
      let found : n ≡ count_word g c = r.words (Count Append g) fits in
      let more = more_word g c (omega arith) in let box = box_of w g in
      let ns = r.boxed.contents box in let h = with_notes ns m.0.hands in
      let v' = view_after (with_hands h m.0) e (k + 1) in
      let made = below shows o size slots id m w mine s r there (Count Append g) (inl saw) in
      let under = (known_groups x (core_lawful shows o size s r) Append w).current g
      (own_part shows o size slots id m w mine s r there (λ (p : SeatOf).
      (found_of Append p).current)
      (Some g) saw) in
      let may : IsStep x e = record {
        seat = within shows o size slots id m w mine s r there;
        is_there = made;
        row = (
          subst HoldsNoTurn is bare,
          (
            subst (λ (p : SeatOf). IsSome p.write) is write,
            own_part shows o size slots id m w mine s r there
                (λ (p : SeatOf). p.append) None outside,
            own_part shows o size slots id m w mine s r there
                (λ (p : SeatOf). p.claim) None unclaimed,
          ),
          own_part shows o size slots id m w mine s r there
              (λ (p : SeatOf). (found_of Append p).current) (Some g) saw,
          more.0,
        );
      } in
      let now = sym (more.1 ∙ ap (λ z. z + 1) (sym found ∙ hit)) in
      let rows = rows_stay x e may (λ q. q) r.rows in
      let home = r.boxed.at_home box (own_low s r there g)
      (own_free s r there g outside under more.0) in
      let few : length ns ≤ 2 ^ 62 = (let f = few_kept shows size.seats x
      (core_lawful shows o size s
      r)
      (shown o size.at_open r.kept_to r.filed r.dropped x)
      x.claims x.append s.homes s.views r.boxed box in omega arith) in
      let C = columns_now shows o size s r id w m.0 there mine e refl may tt tt fits tt rows (k + 1)
      (k + 1) None h now refl in (
        v',
        takes box home.0,
        home.1,
        plays shows o size s r id w m.0 there mine e refl may tt tt fits tt rows (k + 1)
            (k + 1) None h now refl tt m.1 (takes box home.0)
            (boxed_take shows size.seats x.notes (shown o size.at_open r.kept_to r.filed r.dropped
            x) x.claims x.claims
            x.append
            (next_of x e).append s.homes s.views r.boxed id w m.0 v' there mine refl refl refl
            (λ i g l _ _. (l, refl)) refl C.issue g outside C.append refl) tt
            (refl, refl, refl, refl) (own_low s r there g) tt,
        (λ z q role word told. each_name shows o size slots id m w mine g
            (λ z q. (n ≡ k → ((notes : List EntryNote)
            × MadeAs z (Register z Append q) (k + 1) (with_notes notes m.0.hands) m.0 v')
            × Took (box_of z q) m (v', (box, home.0) ∷ m.1))
            × (n ≢ k
            → Made z (Look z (Count Append (number_in n))) n m (v', (box, home.0) ∷ m.1))) (
              (λ _. (
                (ns, (refl, was shows o size s r id w m.0 there mine e may tt)),
                (home.0, refl, home.2.notes (omega arith), few),
              )),
              (λ miss. absurd (miss hit)),
            ) z q role
            (sym number ∙ told)),
      ))
      (λ miss. let v' = view_after m.0 (Look w (Count Append (number_in n))) n in
      look_owes shows o size slots id m w mine s r there (Count Append g) tt (inl saw) then
      (λ made _ z h role word told.
      each_name shows o size slots id m w mine g (λ z q. (n ≡ k → ((notes : List EntryNote)
      × MadeAs z (Register z Append q) (k + 1) (with_notes notes m.0.hands) m.0 v')
      × Took (box_of z q) m (v', m.1))
      × (n ≢ k → Made z (Look z (Count Append (number_in n))) n m (v', m.1)))
      ((λ hit. absurd (miss hit)), (λ _. made)) z h role (sym number ∙ told)))

  pub withdraws : (g : ℕ) (y : Slot K) (cs : List (ℕ × Slot K)) → m.0.part.append ≡ Some g
      → m.0.part.claim ≡ None → m.1 ≡ (box_of w g, y) ∷ cs → NotesAre y m.0.hands.notes
      → Allows (Ruled shows o size) slots id m (136 + 16 * (g % 32))
      (λ n. (n + (2 ^ 64 - 1)) % 2 ^ 64)
      (Withdrew (step slots (136 + 16 * (g % 32)) 1 0 none) m)
  withdraws g y cs append claim holds kept s r _ there low = let n =
      slice_index s.words (136 + 16 * (g % 32)) in let x = r.core in let c = tally_of x Append g in
      let e = Close w Append g Nothing in
      let here = own_part shows o size slots id m w mine s r there (λ (p : SeatOf). p.append)
      (Some g) append in
      let fits = group_shown x (core_lawful shows o size s r) Append w g here in
      let found : n ≡ count_word g c = r.words (Count Append g) fits in
      let made = group_made x (core_lawful shows o size s r) Append w g here in
      let v' = view_after m.0 e n in
      let may : IsStep x e = record {
        seat = within shows o size slots id m w mine s r there;
        is_there = made;
        row = (
          here,
          own_part shows o size slots id m w mine s r there
              (λ (p : SeatOf). p.claim) None claim,
        );
      } in
      let now = ap (λ z. (z + (2 ^ 64 - 1)) % 2 ^ 64) found
      ∙ less_word g c (some_left x (core_lawful shows o size s r) Append w g here)
      (subst (λ z. z < 2 ^ 64) found low) in
      let rows = rows_stay x e may (λ q. q) r.rows in
      let C = columns_now shows o size s r id w m.0 there mine e refl may tt tt fits tt rows
      ((n + (2 ^ 64 - 1)) % 2 ^ 64) n None m.0.hands now refl in (
        v',
        gives,
        tt,
        plays shows o size s r id w m.0 there mine e refl may tt tt fits tt rows
            ((n + (2 ^ 64 - 1)) % 2 ^ 64) n None m.0.hands now refl tt m.1 gives
            (subst (λ l. Boxed shows size.seats x.notes (shown o size.at_open r.kept_to r.filed
            r.dropped x) x.claims (next_of x
            e).append
            (put_back s.homes l) (set s.views id v')) (sym holds)
            (boxed_give shows size.seats x.notes (shown o size.at_open r.kept_to r.filed r.dropped
            x) x.claims x.claims
            x.append
            (next_of x e).append s.homes s.views r.boxed id w m.0 v' there mine refl refl refl
            (λ i g l _ _. (l, refl)) refl C.issue g y append C.append refl kept
            (enough_boxes shows o size s r) (low_seat s r there))) tt
            (refl, refl, refl, refl)
            (subst (λ l. FirstBelow (boxes size.seats) l) (sym holds) (own_low s r there g)) tt,
        (λ z q role mine'. each_name shows o size slots id m w mine g
            (λ z q. MadeAs z (Close z Append q Nothing) n m.0.hands m.0 v' × (rest m.1 ≡ rest m.1))
            ((refl, was shows o size s r id w m.0 there mine e may tt), refl) z q role
            (same_Some g q (sym append ∙ mine'))),
      )
