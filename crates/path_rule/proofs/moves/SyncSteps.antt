-- The holder of the Sync turn puts the synced key at the last marker.
use Rattle.std.proofs.Common.{◌≡◌, ℕ, ◌<◌, ◌≤◌, true, List, [], ◌∷◌, ◌++◌, set, Option, Some, None}
use Rattle.std.proofs.Common.{is_some, IsTrue, refl, sym, ap, ◌∙◌, subst, ⊎_elim, arith}
use Rattle.std.specs.Prelude.{◌⊎◌}
use Rattle.std.proofs.lemmas.List.Elements.{Contains-append_left, Contains-append_right}
use Rattle.std.proofs.lemmas.List.Elements.{Contains-append_cases}
use Rattle.std.proofs.lemmas.List.{map-append}
use Rattle.std.specs.List.{Contains, filter}
use Rattle.std.specs.Option.{option_map}
use mathlib.Core.Logic.{inl, inr}
use mathlib.Core.Option.{none}
use Rattle.atomic_table.specs.Table.{Me, step, keeps, Allows}
use Rattle.path_core.specs.declared.event.Cursor.TheVariants.{Synced}
use Rattle.path_core.specs.declared.event.Event.TheVariants.{Put}
use Rattle.path_core.specs.declared.note.EntryNote.{EntryNote}
use Rattle.path_core.specs.declared.seat.SyncTurn.{SyncTurn}
use Rattle.path_core.specs.Keeper.{IsParted}
use Rattle.path_core.specs.LawfulLog.{is_at_most}
use Rattle.path_core.specs.Next.{next_of}
use Rattle.path_core.proofs.lists.Inserted.{map_old, map_from}
use Rattle.path_core.proofs.log.Between.{between}
use Rattle.path_core.proofs.log.KeepsNotes.{note_long}
use Rattle.path_rule.specs.declared.lasting.Beside.{Beside}
use Rattle.path_rule.specs.declared.lasting.Lasting.{Lasting}
use Rattle.path_rule.specs.declared.slot.Slot.{Slot}
use Rattle.path_rule.specs.declared.slot.Slot.TheVariants.{Notes, Turn}
use Rattle.path_rule.specs.declared.view.PathSize.{PathSize}
use Rattle.path_rule.specs.declared.view.Progress.{Progress}
use Rattle.path_rule.specs.declared.view.Role.TheVariants.{Steps}
use Rattle.path_rule.specs.declared.view.View.{View}
use Rattle.path_rule.specs.Boxed.{ends_at, Boxed}
use Rattle.path_rule.specs.Boxes.{desk_box, DeskIs}
use Rattle.path_rule.specs.HandsAfter.{with_desk}
use Rattle.path_rule.specs.Lasts.{shown, more_lasting, ends}
use Rattle.path_rule.specs.Rule.{Ruled, view_after, with_hands, Was}
use Rattle.path_rule.specs.Told.{MadeAs}
use Rattle.path_rule.specs.TurnTold.{SyncedPut}
use Rattle.path_rule.specs.Turns.{IsBarred, TurnRuns}
use Rattle.path_rule.proofs.boxes.DeskChanged.{boxed_desk_turns}
use Rattle.path_rule.proofs.log.KeptStays.{none_kept}
use Rattle.path_rule.proofs.log.Lending.{lasting_ends, parts_of, left_pending, counts}
use Rattle.path_rule.proofs.moves.HolderFacts.{outside, others_free, is_held, hands_now}
use Rattle.path_rule.proofs.moves.Looks.{each_seat_name}
use Rattle.path_rule.proofs.moves.Moving.{core_lawful, known, was, plays_to}
use Rattle.path_rule.proofs.moves.SyncFacts.{turn_exact, settled}
use Rattle.path_rule.proofs.places.ReadBack.{rows_stay}

-- What two seats know of one desk is the same.
pub desk_same : {K : Type 0} (shows : K → Lasting) (y z : Slot K) (l k : Lasting)
    (p q : List EntryNote)
    (f : Progress) → y ≡ z → DeskIs shows y l p f → DeskIs shows z k q f → (l ≡ k) × (p ≡ q)
desk_same shows (Notes n) z l k p q f e a b = absurd a
desk_same shows (Turn d) (Notes n) l k p q f e a b = absurd b
desk_same shows (Turn d) (Turn c) l k p q f e a b = let same : d ≡ c = cc in (
  sym a.0 ∙ (ap (λ t. shows t.keeper) same ∙ b.0),
  sym a.1 ∙ (ap (λ t. t.lent.items ++ t.gathered) same ∙ b.1),
)

abbrev pub top_box : {K : Type 0} → Slot K → List (ℕ × Slot K) → Slot K
top_box d [] = d
top_box d (c ∷ cs) = c.1

module _ {K : Type 0} (shows : K → Lasting) (o : Beside) (size : PathSize) (slots id : ℕ)
    (m : Me (Slot K) View) (w : ℕ) (mine : m.0.role ≡ Steps w) where
  pub syncs : (value : ℕ) (run left : List EntryNote) (y : Slot K) (cs : List (ℕ × Slot K))
      → TurnRuns m.0.part value → m.0.hands.progress.gathered ≡ true → m.0.hands.box_taken ≡ None
      → IsBarred m.0.hands value
      → IsParted value m.0.hands.pending run left → m.1 ≡ (desk_box, y) ∷ cs
      → DeskIs shows y (more_lasting run value m.0.hands.lasting) left m.0.hands.progress
      → Allows (Ruled shows o size) slots id m 40 (λ _. value)
      (λ _. SyncedPut shows (step slots 40 value 0 none) m value)
  syncs value run left y cs turn all empty barred parted holds fits s r _ there _ = let x =
      r.core in let B = r.boxed in let e = Put w Synced value in
      let law = core_lawful shows o size s r in let t = turn.0 in
      let held = is_held m.0.part.sync t turn.2 in
      let X = turn_exact shows o size slots id m w mine s r there t turn.2 in
      let H = hands_now shows o size slots id m w mine s r there in let D = H.desk held in
      let low : x.synced < value = (let q = X.synced turn.1 turn.4 in let k = turn.5 in
      omega arith) in let S = settled shows o size slots id m w mine s r there t turn.2 turn.3 all
      value run left low barred
      parted in let may = S.0 in let is = S.1 in let above = S.2 in
      let P : IsParted value B.pending run left =
      subst (λ p. IsParted value p run left) D.1 parted in
      let sound : (n : EntryNote) → Contains B.pending n → Contains x.notes n =
      λ n h. B.sound n (inl h) in
      let fresh : (n : EntryNote) → Contains B.pending n → ¬ Contains (lasting_ends x) n.end.0 =
      λ n h. B.unlogged n (inl h) in
      let once : (k : ℕ) → ends_at k B.pending ≤ 1 = λ k. let a =
      B.alone k 0 1 (λ q. absurd (omega arith)) in omega arith in
      let old = filter (is_at_most x.synced) x.notes in
      let lasts : old ++ run ≡ filter (is_at_most value) x.notes =
      ap (λ (l : List EntryNote). old ++ l) (sym is)
      ∙ between x.synced value (omega arith) x.notes law.notes_are_claims.in_order
      (λ k h. note_long x law.sized law.claims_tile_the_log law.orders law.own_claim
      law.each_claim_noted_once law.notes_are_claims k h) in
      let both : ends (old ++ run) ≡ lasting_ends x ++ ends run =
      map-append (λ (k : EntryNote). k.end.0) old run in
      let now_is : more_lasting run value (shown o size.at_open r.kept_to r.filed r.dropped x)
      ≡ shown o size.at_open value r.filed r.dropped (next_of x e) =
      (λ j. record (more_lasting run value (shown o size.at_open r.kept_to r.filed r.dropped x)) {
        logged = lasts j;
        kept = sym (none_kept value value x.notes (omega arith)) j;
      }) in
      let now : shown o size.at_open value r.filed r.dropped (next_of x e) ≡ more_lasting run value
      m.0.hands.lasting =
      sym now_is ∙ (λ j. more_lasting run value (sym D.0 j)) in
      let h = with_desk (more_lasting run value m.0.hands.lasting) left m.0.hands.progress
      m.0.hands in let v' = view_after (with_hands h m.0) e value in
      let out = outside shows o size slots id m w mine s r there held in
      let grown : (q : EntryNote) → Contains (ends (old ++ run)) q.end.0
      → Contains (lasting_ends x) q.end.0 ⊎ (q.end.0 ≤ value) = λ q h. ⊎_elim (λ a. inl a)
      (λ b. let o = map_from (λ (n : EntryNote). n.end.0) run q.end.0 b in
      inr (let k = P.low o.0 o.1 in let z = o.2 in omega arith))
      (Contains-append_cases (lasting_ends x) (ends run) q.end.0
      (subst (λ (l : List ℕ). Contains l q.end.0) both h)) in
      let boxed = boxed_desk_turns shows size.seats x.notes (shown o size.at_open r.kept_to r.filed
      r.dropped x)
      (more_lasting run value (shown o size.at_open r.kept_to r.filed r.dropped x)) x.claims
      x.append s.homes s.views B
      id w
      m.0 v'
      there mine refl out out held (still_some m.0.part.sync held) empty empty
      (others_free shows o size slots id m w mine s r there held) left
      ((λ j. more_lasting run value (D.0 j)), refl, D.2) refl
      (λ n q. ⊎_elim (λ a. inl (subst (λ (l : List ℕ). Contains l n.end.0) (sym both)
      (Contains-append_left (lasting_ends x) (ends run) n.end.0 a)))
      (λ z. ⊎_elim (λ p. ⊎_elim (λ a. inl (subst (λ (l : List ℕ). Contains l n.end.0) (sym both)
      (Contains-append_right (lasting_ends x) (ends run) n.end.0
      (map_old (λ (n : EntryNote). n.end.0) run n a)))) (λ a. inr (inl a))
      (parts_of value B.pending run left P n p)) (λ b. inr (inr b)) z) (B.noted n q))
      (λ n q. ⊎_elim (λ a. sound n (left_pending value B.pending run left P n a))
      (λ b. B.sound n (inr b)) q)
      (λ k. let c = counts value B.pending run left P k in omega arith)
      (λ n q old. ⊎_elim (λ a. ⊎_elim (λ p. fresh n (left_pending value B.pending run left P n p) a)
      (λ b. B.unlogged n (inr b) a) q)
      (λ le. ⊎_elim (λ p. absurd (let k = P.high n p in omega arith))
      (λ (b : (b : ℕ) × Contains (B.contents b) n). absurd
      (let k = above b.0 n b.1 in omega arith)) q) (grown n old)) in (
        v',
        keeps,
        tt,
        plays_to shows o size s r id w m.0 there mine e refl may tt tt tt
            tt (rows_stay x e may (λ q. q) r.rows) value value None h refl refl tt value
            (inl (omega arith)) m.1 keeps
            (subst (λ q. Boxed shows size.seats x.notes q x.claims x.append s.homes
            (set s.views id v')) now_is boxed) tt (refl, refl, refl, refl) tt tt,
        (λ z lasting pending role C. let d = desk_same shows y C.0
            (more_lasting run value m.0.hands.lasting) lasting left pending
            m.0.hands.progress (ap (top_box y) (sym holds ∙ C.1)) fits C.2 in
            let Q : ℕ → Lasting → List EntryNote → Type 0 =
            λ z lasting pending. MadeAs z (Put z Synced value) value
            (with_desk lasting pending m.0.hands.progress m.0.hands) m.0 v' × (m.1 ≡ m.1)
            × ((was : Was m.0 z (Put z Synced value))
            × (shown lasting.beside m.0.size.at_open value lasting.filed lasting.dropped
            (next_of was.core (Put z Synced value))
            ≡ lasting)) in
            each_seat_name shows o size slots id m w mine (λ z. Q z lasting pending)
            (subst (λ (q : Lasting × List EntryNote). Q w q.0 q.1) (λ j. (d.0 j, d.1 j)) (
              (refl, was shows o size s r id w m.0 there mine e may tt),
              refl,
              (
                was shows o size s r id w m.0 there mine e may tt,
                ap (λ (z : PathSize). shown m.0.hands.lasting.beside z.at_open value
                    m.0.hands.lasting.filed m.0.hands.lasting.dropped (next_of x e))
                    (known shows o size s r id w m.0 there mine).0
                    ∙ (ap (λ (l : Lasting). shown l.beside size.at_open value l.filed l.dropped
                    (next_of x e)) D.0 ∙ now),
              ),
            )) z role),
      )
    where
      still_some : (o : Option SyncTurn) → IsTrue (is_some o)
          → IsTrue (is_some (option_map (λ (turn : SyncTurn). record turn { synced = Some value })
          o))
      still_some None h = h
      still_some (Some t) h = refl
