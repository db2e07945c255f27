-- A seat takes its own box, puts it back as it was, or moves none.
use Rattle.std.proofs.Common.{
  ◌≡◌,
  ◌≢◌,
  ℕ,
  suc,
  ◌%◌,
  ◌<◌,
  ◌≤◌,
  Bool,
  List,
  [],
  length,
  set,
  Option,
  Some,
  None,
  is_some,
  refl,
  sym,
  ap,
  ◌∙◌,
  subst,
  ⊎_elim,
  arith,
}
use mathlib.Core.Logic.{inl, inr}
use mathlib.Core.Option.{some, none}
use mathlib.Core.Option as maybe
use lib.ListN.{get_elem?}
use Rattle.atomic_table.proofs.Lists.{at_set}
use Rattle.path_core.specs.declared.note.EntryNote.{EntryNote}
use Rattle.path_core.specs.declared.seat.Issue.{Issue}
use Rattle.path_core.specs.declared.seat.Seat.{Seat}
use Rattle.path_core.specs.declared.state.Claim.{Claim}
use Rattle.path_core.specs.declared.state.OrderGroups.{OrderGroups}
use Rattle.path_core.proofs.seats.Columns.{issue_held}
use Rattle.path_rule.specs.declared.lasting.Lasting.{Lasting}
use Rattle.path_rule.specs.declared.slot.Slot.{Slot}
use Rattle.path_rule.specs.declared.view.Hands.{Hands}
use Rattle.path_rule.specs.declared.view.Progress.{Progress}
use Rattle.path_rule.specs.declared.view.Role.{Role}
use Rattle.path_rule.specs.declared.view.Role.TheVariants.{Steps}
use Rattle.path_rule.specs.declared.view.View.{View}
use Rattle.path_rule.specs.Boxed.{Gathers, Swept, HandsAre, HandsAs, Boxed}
use Rattle.path_rule.specs.Boxes.{box_of, boxes, HoldsAs, HoldsBox, Fits, NotesAre}
use Rattle.path_core.specs.Parts.{last_kept}
use Rattle.path_rule.specs.HandsAfter.{with_notes}
use Rattle.path_rule.proofs.boxes.AtHome.{same_homes, take_homes, give_homes}
use Rattle.path_rule.proofs.boxes.HandsStay.{
  issue_known,
  role_hands_stay,
  SameBarriers,
  stamp_stays,
}
use Rattle.path_rule.proofs.places.ReadBack.{is_some_held}

-- A step at which no box moves and the seat's turn stays.
module _ {K : Type 0} (shows : K → Lasting) (seats : ℕ) (notes : List EntryNote) (lasting : Lasting)
    (claims after : List Claim) (append groups : OrderGroups) (homes : List (maybe.Option (Slot K)))
    (views : List View)
    (B : Boxed shows seats notes lasting claims append homes views) (id w : ℕ) (v v' : View)
    (at : get_elem? views id ≡ some v) (mine : v.role ≡ Steps w) (role : v'.role ≡ v.role)
    (current : groups.current ≡ append.current)
    (oldest : groups.oldest ≡ append.oldest) (bars : SameBarriers claims after)
    (lasts : last_kept after ≡ last_kept claims) where
  others_hands : (contents : ℕ → List EntryNote) (pending : List EntryNote) (gathered : Progress)
      → HandsAs contents lasting pending gathered groups seats v'.part v'.hands v'.role
      → ((j : ℕ) (u : View) → j ≢ id → get_elem? views j ≡ some u
      → HandsAs contents lasting pending gathered append seats u.part u.hands u.role)
      → (j : ℕ) (u : View) → get_elem? (set views id v') j ≡ some u
      → HandsAs contents lasting pending gathered groups seats u.part u.hands u.role
  others_hands contents pending gathered own others j u e = ⊎_elim
      (λ (t : (j ≡ id) × (v' ≡ u)). subst
      (λ (z : View). HandsAs contents lasting pending gathered groups seats z.part z.hands
      z.role) t.1 own)
      (λ (t : (j ≢ id) × (get_elem? views j ≡ some u)). role_hands_stay contents lasting pending
      gathered append groups seats u.part u.part u.hands u.role current oldest refl refl
      (others j u t.0 t.1))
      (at_set views id j v' u e)

  pub boxed_stay : v'.part.append ≡ v.part.append → issue_held v'.part ≡ issue_held v.part
      → v'.hands ≡ v.hands → Boxed shows seats notes lasting after groups homes (set views id v')
  boxed_stay same issue hands = record {
    contents = B.contents;
    stamp = B.stamp;
    pending = B.pending;
    progress = B.progress;
    marked = lasts ∙ B.marked;
    near = (let l = B.near in omega arith);
    all = λ t. oldest ∙ (B.all t ∙ sym current);
    at_home = same_homes (Fits shows B.contents lasting B.pending B.progress)
        (Fits shows B.contents lasting B.pending B.progress)
        (boxes seats) homes views id v v' at B.at_home more (λ b y f. f);
    in_hands = others_hands B.contents B.pending B.progress own (λ j u _ e. B.in_hands j u e);
    noted = B.noted;
    stamped = λ b n h. stamp_stays claims after append.current groups.current B.progress.gathered b
        (B.stamp b) n current bars (B.stamped b n h);
    within = B.within;
    sound = B.sound;
    alone = B.alone;
    unlogged = B.unlogged;
  }
    where
      held : is_some v'.part.sync ≡ is_some v.part.sync
      held = sym (is_some_held v'.part)
          ∙ (ap (λ (o : Option Issue). is_some o) issue ∙ is_some_held v.part)

      more : (b : ℕ) → HoldsBox v b → HoldsBox v' b
      more b h = subst (λ (q : Option ℕ × (Bool × (Option ℕ × Role))). HoldsAs q.0 q.1.0 q.1.1.0 b
          q.1.1.1) (λ i. (sym same i, (sym held i, ((sym hands i).box_taken, sym role i)))) h

      own : HandsAs B.contents lasting B.pending B.progress groups seats v'.part v'.hands v'.role
      own = subst (λ (q : Hands × Role).
          HandsAs B.contents lasting B.pending B.progress groups seats v'.part q.0 q.1)
          (λ i. (sym hands i, sym role i))
          (role_hands_stay B.contents lasting B.pending B.progress append groups seats v.part
          v'.part v.hands v.role current oldest same issue (B.in_hands id v at))

  HandsIn : (ℕ → List EntryNote) → List EntryNote → Progress → OrderGroups → Seat → Hands → Type 0
  HandsIn contents pending gathered groups p h =
      HandsAre contents lasting pending gathered groups seats w p h

  old_hands : HandsAre B.contents lasting B.pending B.progress append seats w v.part v.hands
  old_hands = subst (HandsAs B.contents lasting B.pending B.progress append seats v.part v.hands)
      mine (B.in_hands id v at)

  now : v'.role ≡ Steps w
  now = role ∙ mine

  module _ (issue : issue_held v'.part ≡ issue_held v.part) where
    held_same : is_some v'.part.sync ≡ is_some v.part.sync
    held_same = sym (is_some_held v'.part)
        ∙ (ap (λ (o : Option Issue). is_some o) issue ∙ is_some_held v.part)

    -- what the seat has taken of other seats' boxes stays
    gathers_stay : (b : ℕ) → v.hands.box_taken ≡ Some b → (h : Hands) → h.taken ≡ v.hands.taken
        → Gathers B.contents groups seats v'.part h b
    gathers_stay b e h same = let G = old_hands.other b e in record {
      holds = held_same ∙ G.holds;
      rest = issue_known v.part v'.part issue ∙ G.rest;
      passed = oldest ∙ (G.passed ∙ sym current);
      parity = λ z. G.parity (z ∙ ap (λ (c : ℕ). c % 2) current);
      above = G.above;
      inside = G.inside;
      taken = same ∙ G.taken;
    }

    swept_stay : (h : Hands) → h.swept ≡ v.hands.swept → 0 < h.swept
        → Swept B.contents groups v'.part h
    swept_stay h same l = let S = old_hands.swept (subst (λ n. 0 < n) same l) in record {
      holds = held_same ∙ S.holds;
      passed = oldest ∙ (S.passed ∙ sym current);
      empty = λ z q. subst (λ c. B.contents (box_of z (suc c)) ≡ []) (sym current)
          (S.empty z (subst (λ n. z < n) same q));
    }

    -- The seat takes its own box at home.
    pub boxed_take : (g : ℕ) → v.part.append ≡ None → v'.part.append ≡ Some g
        → v'.hands ≡ with_notes (B.contents (box_of w g)) v.hands
        → Boxed shows seats notes lasting after groups (set homes (box_of w g) none)
        (set views id v')
    boxed_take g was is hands = record {
      contents = B.contents;
      stamp = B.stamp;
      pending = B.pending;
      progress = B.progress;
      marked = lasts ∙ B.marked;
      near = (let l = B.near in omega arith);
      all = λ t. oldest ∙ (B.all t ∙ sym current);
      at_home = take_homes (Fits shows B.contents lasting B.pending B.progress)
          (Fits shows B.contents lasting B.pending B.progress)
          (boxes seats) homes views id v v' at B.at_home (box_of w g) has more (λ b y f. f);
      in_hands = others_hands B.contents B.pending B.progress own (λ j u _ e. B.in_hands j u e);
      noted = B.noted;
      stamped = λ b n h. stamp_stays claims after append.current groups.current B.progress.gathered
          b (B.stamp b) n current bars (B.stamped b n h);
      within = B.within;
      sound = B.sound;
      alone = B.alone;
      unlogged = B.unlogged;
    }
      where
        ns : List EntryNote
        ns = B.contents (box_of w g)

        has : HoldsBox v' (box_of w g)
        has = subst (λ (q : Option ℕ × Role). HoldsAs q.0 (is_some v'.part.sync) v'.hands.box_taken
            (box_of w g) q.1) (λ i. (sym is i, sym now i)) (inl refl)

        more : (b : ℕ) → HoldsBox v b → HoldsBox v' b
        more b h = subst (λ (q : Option ℕ × (Bool × (Option ℕ × Role))). HoldsAs q.0 q.1.0 q.1.1.0 b
            q.1.1.1) (λ i. (sym is i, (sym held_same i, ((sym hands i).box_taken, sym now i))))
            (⊎_elim (λ own. absurd own) (λ rest. inr rest)
            (subst (λ (q : Option ℕ × Role). HoldsAs q.0
            (is_some v.part.sync) v.hands.box_taken b q.1) (λ i. (was i, mine i)) h))

        own : HandsAs B.contents lasting B.pending B.progress groups seats v'.part v'.hands v'.role
        own = subst (λ (q : Hands × Role).
            HandsAs B.contents lasting B.pending B.progress groups seats v'.part q.0 q.1)
            (λ i. (sym hands i, sym now i)) (record {
              own = λ k e. let q : Some g ≡ Some k = sym is ∙ e in let same : g ≡ k = cc in
                  ap (λ (h : ℕ). B.contents (box_of w h)) same;
              desk = λ e. old_hands.desk (sym held_same ∙ e);
              other = λ b e. gathers_stay b e (with_notes ns v.hands) refl;
              swept = λ l. swept_stay (with_notes ns v.hands) refl l;
            })

    -- It gives its own box back as it was.
    pub boxed_give : (g : ℕ) (y : Slot K) → v.part.append ≡ Some g → v'.part.append ≡ None
        → v'.hands ≡ v.hands → NotesAre y v.hands.notes → boxes seats ≤ length homes → w < seats
        → Boxed shows seats notes lasting after groups (set homes (box_of w g) (some y))
        (set views id v')
    boxed_give g y was is hands fits deep low = record {
      contents = B.contents;
      stamp = B.stamp;
      pending = B.pending;
      progress = B.progress;
      marked = lasts ∙ B.marked;
      near = (let l = B.near in omega arith);
      all = λ t. oldest ∙ (B.all t ∙ sym current);
      at_home = give_homes (Fits shows B.contents lasting B.pending B.progress)
          (Fits shows B.contents lasting B.pending B.progress)
          (boxes seats) homes views id v v' at B.at_home (box_of w g) y (omega arith)
          (record {
            desk = λ e. absurd (omega arith);
            notes = λ _. subst (NotesAre y)
                (old_hands.own g was) fits;
          }) more (λ b z _ f. f);
      in_hands = others_hands B.contents B.pending B.progress own (λ j u _ e. B.in_hands j u e);
      noted = B.noted;
      stamped = λ b n h. stamp_stays claims after append.current groups.current B.progress.gathered
          b (B.stamp b) n current bars (B.stamped b n h);
      within = B.within;
      sound = B.sound;
      alone = B.alone;
      unlogged = B.unlogged;
    }
      where
        more : (b : ℕ) → b ≢ box_of w g → HoldsBox v b → HoldsBox v' b
        more b apart h = subst (λ (q : Option ℕ × (Bool × (Option ℕ × Role))). HoldsAs q.0 q.1.0
            q.1.1.0 b q.1.1.1) (λ i. (
              sym is i,
              (sym held_same i, ((sym hands i).box_taken, sym now i)),
            ))
            (⊎_elim (λ own. absurd (apart own)) (λ rest. inr rest)
            (subst (λ (q : Option ℕ × Role). HoldsAs q.0
            (is_some v.part.sync) v.hands.box_taken b q.1) (λ i. (was i, mine i)) h))

        own : HandsAs B.contents lasting B.pending B.progress groups seats v'.part v'.hands v'.role
        own = subst (λ (q : Hands × Role).
            HandsAs B.contents lasting B.pending B.progress groups seats v'.part q.0 q.1)
            (λ i. (sym hands i, sym now i)) (record {
              own = λ k e. absurd (let q : None ≡ Some k = sym is ∙ e in cc);
              desk = λ e. old_hands.desk (sym held_same ∙ e);
              other = λ b e. gathers_stay b e v.hands refl;
              swept = λ l. swept_stay v.hands refl l;
            })
