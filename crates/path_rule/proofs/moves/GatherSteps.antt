-- The holder of the Sync turn takes the box of another seat, and gives it back empty.
use Rattle.std.proofs.Common.{◌≡◌, ◌≢◌, ℕ, suc, ◌+◌, ◌*◌, ◌%◌, ◌^◌, ◌<◌, ◌≤◌, List, [], ◌∷◌, length}
use Rattle.std.proofs.Common.{set, Option, Some, None, is_some, IsTrue, refl, sym, ap, ◌∙◌, subst}
use Rattle.std.proofs.Common.{⊎_elim, arith}
use Rattle.std.specs.Prelude.{slice_index}
use Rattle.std.proofs.lemmas.Bool.{false≢true}
use mathlib.Core.Logic.{dite}
use mathlib.Core.Option.{none, some, some-injective}
use native.Mathlib.Decide.{ℕ_discrete}
use lib.ListN.{get_elem?}
use Rattle.atomic_table.specs.Table.{State, Me, step, Act, takes, gives, put_back, rest}
use Rattle.atomic_table.specs.Table.{homes_after, stepped, Allows}
use Rattle.op_core.specs.declared.count.Order.TheVariants.{Append}
use Rattle.path_core.specs.declared.event.Event.TheVariants.{Look}
use Rattle.path_core.specs.declared.event.Place.TheVariants.{Oldest}
use Rattle.path_core.specs.declared.event.Reading.TheVariants.{Number}
use Rattle.path_core.specs.declared.note.EntryNote.{EntryNote}
use Rattle.path_core.specs.declared.seat.Issue.{Issue}
use Rattle.path_core.specs.declared.seat.Issue.TheVariants.{Rest}
use Rattle.path_core.specs.declared.seat.SyncTurn.{SyncTurn}
use Rattle.path_core.specs.Allowed.{IsStep}
use Rattle.path_core.specs.Parts.{issue_of}
use Rattle.path_core.specs.SeatAfter.{seat_after}
use Rattle.path_core.proofs.seats.Columns.{Columns}
use Rattle.path_rule.specs.declared.lasting.Beside.{Beside}
use Rattle.path_rule.specs.declared.lasting.Lasting.{Lasting}
use Rattle.path_rule.specs.declared.slot.Slot.{Slot}
use Rattle.path_rule.specs.declared.view.Hands.{Hands}
use Rattle.path_rule.specs.declared.view.PathSize.{PathSize}
use Rattle.path_rule.specs.declared.view.Role.{Role}
use Rattle.path_rule.specs.declared.view.Role.TheVariants.{Opener, Steps, Spent}
use Rattle.path_rule.specs.declared.view.View.{View}
use Rattle.path_rule.specs.Boxed.{HandsAs, Boxed}
use Rattle.path_rule.specs.Boxes.{box_of, boxes, HasOwn, HoldsAs, IsFree, NotesAre}
use Rattle.path_rule.specs.HandsAfter.{with_taken, with_swept}
use Rattle.path_rule.specs.Lasts.{shown}
use Rattle.path_rule.specs.Rule.{Ruled, told_by, view_after, with_hands, Was}
use Rattle.path_rule.specs.Told.{MadeAs, Made}
use Rattle.path_rule.specs.TurnTold.{Gathered, GaveBack}
use Rattle.path_rule.specs.Turns.{TurnSaw}
use Rattle.path_rule.proofs.boxes.FewNotes.{few_kept}
use Rattle.path_rule.proofs.boxes.HandsStay.{issue_known}
use Rattle.path_rule.proofs.boxes.HolderBoxes.{boxed_gather, boxed_give_back}
use Rattle.path_rule.proofs.moves.HolderFacts.{is_held, outside, others_free, others_near}
use Rattle.path_rule.proofs.moves.HolderFacts.{current_is, hands_now}
use Rattle.path_rule.proofs.boxes.MemtablesStay.{SameHeld}
use Rattle.path_rule.proofs.moves.LeavesWrites.{FirstBelow, MovesBelow}
use Rattle.path_rule.proofs.moves.Looks.{within, look_owes, each_seat_name}
use Rattle.path_rule.proofs.moves.Moving.{core_lawful, enough_boxes, known, was, plays, columns_now}
use Rattle.path_rule.proofs.moves.StepFacts.{same_seat}
use Rattle.path_rule.proofs.places.ReadBack.{rows_stay, is_some_held}

module _ {K : Type 0} (shows : K → Lasting) (o : Beside) (size : PathSize) (slots id : ℕ)
    (m : Me (Slot K) View) (w : ℕ) (mine : m.0.role ≡ Steps w) where
  module _ (s : State (Slot K) View) (r : Ruled shows o size s)
      (there : get_elem? s.views id ≡ some m.0) (held : IsTrue (is_some m.0.part.sync)) where
    -- behind the passed barrier the boxes of the groups before it are at home
    other_free : (k : ℕ) → m.0.hands.box_taken ≡ None → r.core.append.oldest ≡ r.core.append.current
        → IsFree s.views (box_of k (suc r.core.append.current))
    other_free k empty passed j u e h = dite (ℕ_discrete j id)
        (λ same. own_none (subst (λ z. HoldsAs z.part.append (is_some z.part.sync) z.hands.box_taken
        (box_of k (suc cur)) z.role) (some-injective u m.0
        (sym e ∙ (ap (get_elem? s.views) same ∙ there))) h))
        (λ apart. by_role u.role refl apart h)
      where
        cur : ℕ
        cur = r.core.append.current

        own_none : HoldsAs m.0.part.append (is_some m.0.part.sync) m.0.hands.box_taken
            (box_of k (suc cur)) m.0.role → ⊥
        own_none h = ⊎_elim (λ a. a) (λ q. ⊎_elim (λ d. absurd (let z = d.1 in omega arith))
            (λ (t : None ≡ Some (box_of k (suc cur))). absurd
            (let f : None ≡ Some (box_of k (suc cur)) = t in cc)) q)
            (subst (λ (q : Option ℕ × (Option ℕ × Role)). HoldsAs q.0 (is_some m.0.part.sync) q.1.0
            (box_of k (suc cur)) q.1.1) (λ i.
            (outside shows o size slots id m w mine s r there held i, (empty i, mine i))) h)

        by_own : (z : ℕ) (o : Option ℕ) → u.part.append ≡ o → j ≢ id → u.role ≡ Steps z
            → HasOwn z o (box_of k (suc cur)) → ⊥
        by_own z None is apart role h = h
        by_own z (Some q) is apart role h = let near =
            others_near shows o size slots id m w mine s r there held j z q u apart e role is in
            let lo = near.0 in
            let hi = near.1 in let same : q ≡ cur = omega arith in
            absurd (let f : 1 + 2 * k + suc cur % 2 ≡ 1 + 2 * z + q % 2 = h in
            let c : q % 2 ≡ cur % 2 = ap (λ (n : ℕ). n % 2) same in omega arith)

        by_role : (ρ : Role) → u.role ≡ ρ → j ≢ id
            → HoldsAs u.part.append (is_some u.part.sync) u.hands.box_taken (box_of k (suc cur)) ρ
            → ⊥
        by_role (Opener n) is apart h = h
        by_role Spent is apart h = h
        by_role (Steps z) is apart h = let bare =
            others_free shows o size slots id m w mine s r there held j z u apart e is in
            ⊎_elim (λ own. by_own z u.part.append refl apart is own)
            (λ q. ⊎_elim (λ d. false≢true (sym bare ∙ d.0))
            (λ taken. false≢true (sym bare ∙
            ((subst (HandsAs r.boxed.contents
            (shown o size.at_open r.kept_to r.filed r.dropped r.core) r.boxed.pending
            r.boxed.progress r.core.append size.seats
            u.part
            u.hands) is (r.boxed.in_hands j u e)).other (box_of k (suc cur)) taken).holds)) q) h

    -- a look at the oldest group, with what a box tells
    looked : (n : ℕ) → n ≡ r.core.append.oldest → (h : Hands) (a : Act (Slot K)) → let e =
        Look w (Oldest Append) in let v' = view_after (with_hands h m.0) e n in
        (Columns e m.0.part v'.part → Boxed shows size.seats r.core.notes
        (shown o size.at_open r.kept_to r.filed r.dropped r.core) r.core.claims r.core.append
        (homes_after s.homes m.1 a)
        (set s.views id v'))
        → SameHeld m.0.hands h → MovesBelow (boxes size.seats) m.1 a
        → Ruled shows o size (stepped s 24 n id m.1 v' a) × Was m.0 w e
    looked n found h a boxed same below = let x = r.core in let e = Look w (Oldest Append) in
        let law = core_lawful shows o size s r in
        let may : IsStep x e = record {
          seat = within shows o size slots id m w mine s r there;
          is_there = tt;
          row = tt;
        } in let rows = rows_stay x e may (λ q. q) r.rows in (
          plays shows o size s r id w m.0 there mine e refl may tt tt tt tt rows n n None h found
              (ap (λ k. seat_after m.0.part e (Number k) (told_by None h)) found) found m.1 a
              (boxed (columns_now shows o size s r id w m.0 there mine e refl may tt tt tt tt rows n
              n
              None
              h found (ap (λ k. seat_after m.0.part e (Number k) (told_by None h)) found))) tt
              same below tt,
          was shows o size s r id w m.0 there mine e may tt,
        )

  pub gathers : (c : ℕ) → TurnSaw Append m.0.part c → issue_of m.0.part ≡ Rest
      → m.0.hands.box_taken ≡ None → m.0.hands.swept < size.seats
      → Allows (Ruled shows o size) slots id m 24 (λ n. n) (Gathered (step slots 24 0 0 none) m)
  gathers c saw rest_now empty more s r _ there _ = let n = slice_index s.words 24 in
      let x = r.core in let e = Look w (Oldest Append) in
      let held = is_held m.0.part.sync saw.0 saw.1 in
      let found : n ≡ x.append.oldest = r.words (Oldest Append) tt in
      let now = current_is shows o size slots id m w mine s r there held c saw in
      let out = outside shows o size slots id m w mine s r there held in
      let k = m.0.hands.swept in
      dite (ℕ_discrete n c)
      (λ hit. let passed : x.append.oldest ≡ x.append.current = sym found ∙ (hit ∙ now) in
      let box = box_of k (suc x.append.current) in let ns = r.boxed.contents box in
      let h = with_taken (Some box) ns m.0.hands in
      let v' = view_after (with_hands h m.0) e n in
      let home = r.boxed.at_home box (omega arith) (other_free s r there held k empty passed) in
      let few = subst (λ (l : List EntryNote). length l + length ns ≤ 2 ^ 62)
      (sym ((hands_now shows o size slots id m w mine s r there).desk held).1)
      (few_kept shows size.seats x (core_lawful shows o size s r) (shown o size.at_open r.kept_to
      r.filed r.dropped x) x.claims
      x.append s.homes s.views r.boxed box) in
      let did = looked s r there held n found h (takes box home.0)
      (λ C. boxed_gather shows size.seats x.notes
      (shown o size.at_open r.kept_to r.filed r.dropped x) x.claims x.claims x.append x.append
      s.homes s.views r.boxed id w m.0 v'
      there
      mine refl out (C.append ∙ out) held
      (sym (is_some_held v'.part) ∙ (ap (λ (o : Option Issue). is_some o) C.issue
      ∙ (is_some_held m.0.part ∙ held))) (others_free shows o size slots id m w mine s r there held)
      (others_near shows o size slots id m w mine s r there held) k refl refl more empty
      (issue_known m.0.part v'.part C.issue ∙ rest_now) passed refl) (refl, refl, refl, refl)
      (omega arith) in (
        v',
        takes box home.0,
        home.1,
        did.0,
        each_pair c saw (λ z d. (n ≡ d → ((taken : List EntryNote)
            × MadeAs z (Look z (Oldest Append)) n
            (with_taken (Some (box_of k (suc d))) taken m.0.hands) m.0 v')
            × ((y : Slot K) × ((box, home.0) ∷ m.1 ≡ (box_of k (suc d), y) ∷ m.1)
            × NotesAre y v'.hands.taken
            × (length v'.hands.pending + length v'.hands.taken ≤ 2 ^ 62)))
            × (n ≢ d → Made z (Look z (Oldest Append)) n m (v', (box, home.0) ∷ m.1)))
            (subst (λ q. (n ≡ q → ((taken : List EntryNote)
            × MadeAs w (Look w (Oldest Append)) n
            (with_taken (Some (box_of k (suc q))) taken m.0.hands) m.0 v')
            × ((y : Slot K) × ((box, home.0) ∷ m.1 ≡ (box_of k (suc q), y) ∷ m.1)
            × NotesAre y v'.hands.taken
            × (length v'.hands.pending + length v'.hands.taken ≤ 2 ^ 62)))
            × (n ≢ q → Made w (Look w (Oldest Append)) n m (v', (box, home.0) ∷ m.1))) (sym now) (
              (λ _. (
                (ns, (refl, did.1)),
                (home.0, refl, home.2.notes (omega arith), few),
              )),
              (λ miss. absurd (miss (hit ∙ now))),
            )),
      ))
      (λ miss. let v' = view_after m.0 e n in
      look_owes shows o size slots id m w mine s r there (Oldest Append) tt tt
      (Gathered (step slots 24 0 0 none) m n) (λ made _.
      each_pair c saw (λ z d. (n ≡ d → ((taken : List EntryNote)
      × MadeAs z (Look z (Oldest Append)) n
      (with_taken (Some (box_of k (suc d))) taken m.0.hands) m.0 v')
      × ((y : Slot K) × (m.1 ≡ (box_of k (suc d), y) ∷ m.1) × NotesAre y v'.hands.taken
      × (length v'.hands.pending + length v'.hands.taken ≤ 2 ^ 62)))
      × (n ≢ d → Made z (Look z (Oldest Append)) n m (v', m.1)))
      ((λ hit. absurd (miss hit)), (λ _. made))))
    where
      each_pair : (c : ℕ) → TurnSaw Append m.0.part c → (P : ℕ → ℕ → Type 0) → P w c → (z d : ℕ)
          → m.0.role ≡ Steps z → TurnSaw Append m.0.part d → P z d
      each_pair c saw P p z d role other = let t : saw.0 ≡ other.0 =
          same_turn (sym saw.1 ∙ other.1) in
          let same : c ≡ d = same_number (sym saw.2
          ∙ (ap (λ (q : SyncTurn). q.append.current) t ∙ other.2)) in
          subst (λ (q : ℕ × ℕ). P q.0 q.1) (λ i. (same_seat m.0.role w z mine role i, same i)) p
        where
          same_turn : {a b : SyncTurn} → Some a ≡ Some b → a ≡ b
          same_turn e = cc

          same_number : {a b : ℕ} → Some a ≡ Some b → a ≡ b
          same_number e = cc

  pub gives_back : (c : ℕ) (y : Slot K) (cs : List (ℕ × Slot K)) → TurnSaw Append m.0.part c
      → m.0.hands.box_taken ≡ Some (box_of m.0.hands.swept (suc c))
      → m.1 ≡ (box_of m.0.hands.swept (suc c), y) ∷ cs → NotesAre y []
      → Allows (Ruled shows o size) slots id m 24 (λ n. n) (GaveBack (step slots 24 0 0 none) m)
  gives_back c y cs saw taken holds void s r _ there _ = let n = slice_index s.words 24 in
      let x = r.core in let e = Look w (Oldest Append) in
      let held = is_held m.0.part.sync saw.0 saw.1 in
      let found : n ≡ x.append.oldest = r.words (Oldest Append) tt in
      let now = current_is shows o size slots id m w mine s r there held c saw in
      let out = outside shows o size slots id m w mine s r there held in
      let k = m.0.hands.swept in
      let h = with_swept m.0.size.seats m.0.hands in
      let v' = view_after (with_hands h m.0) e n in
      let sized = (known shows o size s r id w m.0 there mine).0 in
      let box : ℕ → ℕ = λ d. box_of k (suc d) in
      let did = looked s r there held n found h gives
      (λ C. subst (λ l. Boxed shows size.seats x.notes (shown o size.at_open r.kept_to r.filed
      r.dropped x) x.claims x.append
      (put_back s.homes l) (set s.views id v')) (sym (holds ∙ (λ i. (box (now i), y) ∷ cs)))
      (boxed_give_back shows size.seats x.notes
      (shown o size.at_open r.kept_to r.filed r.dropped x) x.claims x.claims x.append x.append
      s.homes s.views r.boxed id w m.0 v'
      there
      mine refl out (C.append ∙ out) held
      (sym (is_some_held v'.part) ∙ (ap (λ (o : Option Issue). is_some o) C.issue
      ∙ (is_some_held m.0.part ∙ held))) (others_free shows o size slots id m w mine s r there held)
      (others_near shows o size slots id m w mine s r there held) y refl refl void
      (taken ∙ ap (λ d. Some (box d)) now)
      (ap (λ (z : PathSize). with_swept z.seats m.0.hands) sized)
      (enough_boxes shows o size s r))) (refl, refl, refl, refl)
      (subst (λ l. FirstBelow (boxes size.seats) l) (sym holds)
      ((hands_now shows o size slots id m w mine s r there).other (box c) taken).inside) in (
        v',
        gives,
        tt,
        did.0,
        each_seat_name shows o size slots id m w mine
            (λ z. MadeAs z (Look z (Oldest Append)) n h m.0 v' × (rest m.1 ≡ rest m.1))
            ((refl, did.1), refl),
      )
