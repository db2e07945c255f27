-- A note is deposited: the box goes home with it.
use Rattle.std.proofs.Common.{
  ◌≡◌,
  ◌≢◌,
  ℕ,
  zero,
  suc,
  ◌+◌,
  ◌*◌,
  ◌%◌,
  ◌<◌,
  ◌≤◌,
  cond,
  Bool,
  true,
  false,
  List,
  [],
  ◌∷◌,
  ◌++◌,
  length,
  set,
  Option,
  Some,
  None,
  is_some,
  IsTrue,
  refl,
  sym,
  ap,
  ◌∙◌,
  subst,
  ⊎_elim,
  arith,
  ne_eqb,
}
use Rattle.std.specs.Prelude.{◌⊎◌}
use Rattle.std.proofs.lemmas.Bool.{false≢true}
use Rattle.std.proofs.lemmas.List.Elements.{
  Contains-append_left,
  Contains-append_right,
  Contains-append_cases,
}
use Rattle.std.proofs.lemmas.List.Sums.{sum_by-append, count_by-le-length}
use Rattle.std.specs.List.{Contains}
use mathlib.Core.Logic.{dite, inl, inr}
use mathlib.Core.Option.{some}
use mathlib.Core.Option as maybe
use native.Mathlib.Decide.{ℕ_discrete}
use lib.ListN.{get_elem?}
use Rattle.atomic_table.proofs.Lists.{at_set}
use Rattle.path_core.specs.declared.note.EntryNote.{EntryNote}
use Rattle.path_core.specs.declared.state.Claim.{Claim}
use Rattle.path_core.specs.declared.state.OrderGroups.{OrderGroups}
use Rattle.path_core.specs.LawfulLog.{claim_in, is_note_at}
use Rattle.path_core.specs.Parts.{is_marker}
use Rattle.path_core.proofs.lists.Replaced.{none_counted_in, counted_in}
use Rattle.path_core.proofs.seats.Columns.{issue_held}
use Rattle.path_rule.specs.declared.lasting.Lasting.{Lasting}
use Rattle.path_rule.specs.declared.slot.Slot.{Slot}
use Rattle.path_rule.specs.declared.slot.Slot.TheVariants.{Notes}
use Rattle.path_rule.specs.declared.view.Hands.{Hands}
use Rattle.path_rule.specs.declared.view.Role.{Role}
use Rattle.path_rule.specs.declared.view.Role.TheVariants.{Opener, Steps, Spent}
use Rattle.path_rule.specs.declared.view.View.{View}
use Rattle.path_rule.specs.Boxed.{HandsAre, HandsAs, Stamped, ends_at, Boxed}
use Rattle.path_rule.specs.Boxes.{box_of, boxes, HoldsAs, HoldsBox, Fits, NotesAre}
use Rattle.path_rule.specs.Lasts.{ends}
use Rattle.path_rule.proofs.boxes.AtHome.{give_homes}
use Rattle.path_rule.proofs.boxes.PutAt.{put, put_here, put_else}
use Rattle.path_rule.proofs.places.ReadBack.{is_some_held}

the_one : {A : Type 0} (a b : A) → Contains (a ∷ []) b → a ≡ b
the_one a b (zero, l, e) = e
the_one a b (suc i, l, e) = absurd (omega arith)

module _ {K : Type 0} (shows : K → Lasting) (seats : ℕ) (notes more_notes : List EntryNote)
    (lasting : Lasting) (claims : List Claim) (append groups : OrderGroups)
    (homes : List (maybe.Option (Slot K))) (views : List View)
    (B : Boxed shows seats notes lasting claims append homes views) (id w : ℕ) (v v' : View)
    (at : get_elem? views id ≡ some v) (mine : v.role ≡ Steps w) (role : v'.role ≡ v.role)
    (current : groups.current ≡ append.current)
    (oldest : groups.oldest ≡ append.oldest) (g : ℕ) (note : EntryNote)
    (was : v.part.append ≡ Some g) (is : v'.part.append ≡ None)
    (issue : issue_held v'.part ≡ issue_held v.part) (hands : v'.hands ≡ v.hands)
    (bare : is_some v.part.sync ≡ false) (deep : boxes seats ≤ length homes) (low : w < seats)
    (writer : note.writer.0 ≡ w) (not_above : g ≤ append.current)
    (not_below : append.oldest ≤ g)
    (above : (i h : ℕ) → i < length claims → IsTrue (is_marker (claim_in claims i))
    → (claim_in claims i).barrier ≡ Some h → h < g → (claim_in claims i).start < note.end.0)
    (among : (n : EntryNote) → Contains more_notes n → (n ≡ note) ⊎ Contains notes n)
    (grows : (n : EntryNote) → Contains notes n → Contains more_notes n)
    (placed : Contains more_notes note) (unnoted : ends_at note.end.0 notes ≡ 0)
    (unlogged : ¬ Contains (ends lasting.logged) note.end.0)
    (others_are : (j z : ℕ) (u : View) → j ≢ id → get_elem? views j ≡ some u → u.role ≡ Steps z
    → z ≢ w) where
  abbrev box : ℕ
  box = box_of w g

  abbrev contents' : ℕ → List EntryNote
  contents' = put B.contents box (B.contents box ++ note ∷ [])

  abbrev stamp' : ℕ → ℕ
  stamp' = put B.stamp box g

  mine_hands : HandsAre B.contents lasting B.pending B.progress append seats w v.part v.hands
  mine_hands = subst (HandsAs B.contents lasting B.pending B.progress append seats v.part v.hands)
      mine (B.in_hands id v at)

  held_same : is_some v'.part.sync ≡ is_some v.part.sync
  held_same = sym (is_some_held v'.part) ∙ (ap (λ o. is_some o) issue ∙ is_some_held v.part)

  kept_notes : v.hands.notes ≡ B.contents box
  kept_notes = mine_hands.own g was

  now : v'.role ≡ Steps w
  now = role ∙ mine

  own : HandsAs contents' lasting B.pending B.progress groups seats v'.part v'.hands v'.role
  own = subst (HandsAs contents' lasting B.pending B.progress groups seats v'.part v'.hands)
      (sym now) (record {
        own = λ k e. absurd (let q : None ≡ Some k = sym is ∙ e in cc);
        desk = λ e. absurd (false≢true (sym bare ∙ (sym held_same ∙ e)));
        other = λ b e. absurd (let G = mine_hands.other b
            (sym (ap (λ (h : Hands). h.box_taken) hands) ∙ e) in false≢true (sym bare ∙ G.holds));
        swept = λ l. absurd (let S = mine_hands.swept
            (subst (λ (h : Hands). 0 < h.swept) hands l) in
            false≢true (sym bare ∙ S.holds));
      })

  others : (j : ℕ) (u : View) → j ≢ id → get_elem? views j ≡ some u
      → HandsAs contents' lasting B.pending B.progress groups seats u.part u.hands u.role
  others j u apart e = by u.role refl (B.in_hands j u e)
    where
      by : (ρ : Role) → u.role ≡ ρ → HandsAs B.contents lasting B.pending B.progress append seats
          u.part u.hands ρ → HandsAs contents' lasting B.pending B.progress groups seats u.part
          u.hands ρ
      by (Opener k) is H = tt
      by Spent is H = tt
      by (Steps z) is H = let far : z ≢ w = others_are j z u apart e is in record {
        own = λ k e. H.own k e ∙ sym (put_else B.contents box (B.contents box ++ note ∷ [])
            (box_of z k) (λ q. far (let h : 1 + 2 * z + k % 2 ≡ 1 + 2 * w + g % 2 = q in
            omega arith)));
        desk = λ e. H.desk e;
        other = λ b e. let G = H.other b e in
            let near : g ≡ append.current = (let p = G.passed in omega arith) in record {
              holds = G.holds;
              rest = G.rest;
              passed = oldest ∙ (G.passed ∙ sym current);
              parity = λ q. G.parity (q ∙ ap (λ (c : ℕ). c % 2) current);
              above = G.above;
              inside = G.inside;
              taken = G.taken ∙ sym (put_else B.contents box (B.contents box ++ note ∷ []) b
                  (λ q. G.parity (let h : b ≡ 1 + 2 * w + g % 2 = q in
                  let c : g % 2 ≡ append.current % 2 = ap (λ (n : ℕ). n % 2) near in omega arith)));
            };
        swept = λ l. let S = H.swept l in
            let near : g ≡ append.current = (let p = S.passed in omega arith) in record {
              holds = S.holds;
              passed = oldest ∙ (S.passed ∙ sym current);
              empty = λ y q. subst (λ c. contents' (box_of y (suc c)) ≡ []) (sym current)
                  (put_else B.contents box (B.contents box ++ note ∷ [])
                  (box_of y (suc append.current))
                  (λ e. absurd (let h : 1 + 2 * y + suc append.current % 2
                  ≡ 1 + 2 * w + g % 2 = e in let c : g % 2 ≡ append.current % 2 =
                  ap (λ (n : ℕ). n % 2) near in omega arith)) ∙ S.empty y q);
            };
      }

  more : (b : ℕ) → b ≢ box → HoldsBox v b → HoldsBox v' b
  more b apart h = subst (λ (q : Option ℕ × (Bool × (Option ℕ × Role))). HoldsAs q.0 q.1.0 q.1.1.0 b
      q.1.1.1) (λ i. (sym is i, (sym held_same i, ((sym hands i).box_taken, sym now i))))
      (⊎_elim (λ mine. absurd (apart mine)) (λ rest. inr rest)
      (subst (λ (q : Option ℕ × Role). HoldsAs q.0
      (is_some v.part.sync) v.hands.box_taken b q.1) (λ i. (was i, mine i)) h))

  new_stamp : Stamped claims groups.current B.progress.gathered box g note
  new_stamp = record {
    own = (λ i. box_of (sym writer i) g);
    not_above = (omega arith);
    recent = (let n = B.near in omega arith);
    gathered = λ t. (let p = B.all t in omega arith);
    above = above;
  }

  old_stamp : (n : EntryNote) → Contains (B.contents box) n
      → Stamped claims groups.current B.progress.gathered box g n
  old_stamp n h = let S = B.stamped box n h in
      let same : B.stamp box ≡ g = (let a = S.own in let b = S.not_above in let c = S.recent in
      let d = B.near in let f : 1 + 2 * w + g % 2 ≡ 1 + 2 * n.writer.0 + B.stamp box % 2 = a in
      omega arith) in
      subst (λ k. Stamped claims groups.current B.progress.gathered box k n) same
      (subst (λ c. Stamped claims c B.progress.gathered box (B.stamp box) n) (sym current) S)

  pub boxed_put : Boxed shows seats more_notes lasting claims groups
      (set homes box (some (Notes (v.hands.notes ++ note ∷ [])))) (set views id v')
  boxed_put = record {
    contents = contents';
    stamp = stamp';
    pending = B.pending;
    progress = B.progress;
    marked = B.marked;
    near = (let l = B.near in omega arith);
    all = λ t. oldest ∙ (B.all t ∙ sym current);
    at_home = give_homes (Fits shows B.contents lasting B.pending B.progress)
        (Fits shows contents' lasting B.pending B.progress)
        (boxes seats) homes views id v v' at B.at_home box (Notes (v.hands.notes ++ note ∷ []))
        (omega arith)
        (record {
          desk = λ e. absurd (omega arith);
          notes = λ _. ap (λ l. l ++ note ∷ []) kept_notes
              ∙ sym (put_here B.contents box (B.contents box ++ note ∷ []));
        }) more
        (λ b y apart f. record {
          desk = f.desk;
          notes = λ l. subst (NotesAre y)
              (sym (put_else B.contents box (B.contents box ++ note ∷ []) b apart)) (f.notes l);
        });
    in_hands = λ j u e. ⊎_elim
        (λ (t : (j ≡ id) × (v' ≡ u)). subst
        (λ (z : View). HandsAs contents' lasting B.pending B.progress groups seats z.part
        z.hands z.role) t.1 own)
        (λ (t : (j ≢ id) × (get_elem? views j ≡ some u)). others j u t.0 t.1)
        (at_set views id j v' u e);
    noted = λ n h. ⊎_elim
        (λ (new : n ≡ note). inr (inr (
          box,
          subst (λ l. Contains l n)
              (sym (put_here B.contents box (B.contents box ++ note ∷ [])))
              (Contains-append_right (B.contents box) (note ∷ []) n (zero, omega arith, sym new)),
        )))
        (λ (old : Contains notes n). ⊎_elim (λ a. inl a)
        (λ q. inr (⊎_elim (λ a. inl a) (λ (t : (b : ℕ) × Contains (B.contents b) n). inr
        (t.0, grown n t.0 t.1)) q)) (B.noted n old))
        (among n h);
    stamped = λ b n h. dite (ℕ_discrete b box)
        (λ same. subst (λ c. Stamped claims groups.current B.progress.gathered c (stamp' c) n)
        (sym same) (subst (λ k. Stamped claims groups.current B.progress.gathered box k n)
        (sym (put_here B.stamp box g))
        (⊎_elim (λ old. old_stamp n old) (λ new. subst
        (λ k. Stamped claims groups.current B.progress.gathered box g k)
        (the_one note n new) new_stamp)
        (Contains-append_cases (B.contents box) (note ∷ []) n
        (subst (λ l. Contains l n) (put_here B.contents box (B.contents box ++ note ∷ []))
        (subst (λ c. Contains (contents' c) n) same h))))))
        (λ apart. subst (λ k. Stamped claims groups.current B.progress.gathered b k n)
        (sym (put_else B.stamp box g b apart))
        (subst (λ c. Stamped claims c B.progress.gathered b (B.stamp b) n) (sym current)
        (B.stamped b n (subst (λ l. Contains l n)
        (put_else B.contents box (B.contents box ++ note ∷ []) b apart) h))));
    within = λ b n h. dite (ℕ_discrete b box) (λ same. (omega arith))
        (λ apart. B.within b n (subst (λ l. Contains l n)
        (put_else B.contents box (B.contents box ++ note ∷ []) b apart) h));
    sound = λ n h. ⊎_elim (λ p. grows n (B.sound n (inl p)))
        (λ (t : (b : ℕ) × Contains (contents' b) n). dite (ℕ_discrete t.0 box)
        (λ same. ⊎_elim (λ old. grows n (B.sound n (inr (box, old))))
        (λ new. subst (Contains more_notes) (the_one note n new) placed)
        (Contains-append_cases (B.contents box) (note ∷ []) n
        (subst (λ l. Contains l n) (put_here B.contents box (B.contents box ++ note ∷ []))
        (subst (λ c. Contains (contents' c) n) same t.1))))
        (λ apart. grows n (B.sound n (inr (
          t.0,
          subst (λ l. Contains l n)
              (put_else B.contents box (B.contents box ++ note ∷ []) t.0 apart) t.1,
        ))))) h;
    alone = alone;
    unlogged = λ n h. ⊎_elim (λ p. B.unlogged n (inl p))
        (λ (t : (b : ℕ) × Contains (contents' b) n). dite (ℕ_discrete t.0 box)
        (λ same. ⊎_elim (λ old. B.unlogged n (inr (box, old)))
        (λ new. subst (λ (q : EntryNote). ¬ Contains (ends lasting.logged) q.end.0)
        (the_one note n new) unlogged)
        (Contains-append_cases (B.contents box) (note ∷ []) n
        (subst (λ l. Contains l n) (put_here B.contents box (B.contents box ++ note ∷ []))
        (subst (λ c. Contains (contents' c) n) same t.1))))
        (λ apart. B.unlogged n (inr (
          t.0,
          subst (λ l. Contains l n)
              (put_else B.contents box (B.contents box ++ note ∷ []) t.0 apart) t.1,
        )))) h;
  }
    where
      -- nothing that is kept ends where the new note does
      none_at : (l : List EntryNote) → ((n : EntryNote) → Contains l n → Contains notes n)
          → ends_at note.end.0 l ≡ 0
      none_at l real = none_counted_in (is_note_at note.end.0) l
          (λ n h. by n (is_note_at note.end.0 n) refl (real n h))
        where
          by : (n : EntryNote) (b : Bool) → is_note_at note.end.0 n ≡ b → Contains notes n
              → b ≡ false
          by n false e h = refl
          by n true e h = absurd (let c = counted_in (is_note_at note.end.0) notes n h e in
              omega arith)

      one_more : (k : ℕ) → ends_at k (contents' box)
          ≡ ends_at k (B.contents box) + ends_at k (note ∷ [])
      one_more k = ap (ends_at k) (put_here B.contents box (B.contents box ++ note ∷ []))
          ∙ sum_by-append (λ (a : EntryNote). cond {A = ℕ} (is_note_at k a) 1 0) (B.contents box)
          (note ∷ [])

      else_ : (k b : ℕ) → b ≢ box → ends_at k (contents' b) ≡ ends_at k (B.contents b)
      else_ k b apart = ap (ends_at k) (put_else B.contents box
          (B.contents box ++ note ∷ []) b apart)

      -- with the new note in the box, what ends at a key is still one
      with_new : (k b : ℕ) → b ≢ box → ends_at k B.pending +
          (ends_at k (contents' box) + ends_at k (contents' b)) ≤ 1
      with_new k b apart = let hb = else_ k b apart in let hx = one_more k in
          dite (ℕ_discrete k note.end.0)
          (λ (is : k ≡ note.end.0). let p = ap (λ q. ends_at q B.pending) is
          ∙ none_at B.pending (λ n h. B.sound n (inl h)) in
          let x = ap (λ q. ends_at q (B.contents box)) is
          ∙ none_at (B.contents box) (λ n h. B.sound n (inr (box, h))) in
          let y = ap (λ q. ends_at q (B.contents b)) is
          ∙ none_at (B.contents b) (λ n h. B.sound n (inr (b, h))) in
          let z = count_by-le-length (is_note_at k) (note ∷ []) in omega arith)
          (λ n. let z : ends_at k (note ∷ [])
          ≡ 0 = none_counted_in (is_note_at k) (note ∷ [])
          (λ a h. ap (is_note_at k) (sym (the_one note a h))
          ∙ ne_eqb note.end.0 k (λ e. n (sym e))) in
          let l = B.alone k box b (λ e. apart (sym e)) in omega arith)

      alone : (k b c : ℕ) → b ≢ c → ends_at k B.pending +
          (ends_at k (contents' b) + ends_at k (contents' c)) ≤ 1
      alone k b c apart = dite (ℕ_discrete b box)
          (λ (at_b : b ≡ box). let e = ap (λ d. ends_at k (contents' d)) at_b in
          let l = with_new k c (λ q. apart (at_b ∙ sym q)) in omega arith)
          (λ nb. dite (ℕ_discrete c box)
          (λ (at_c : c ≡ box). let e = ap (λ d. ends_at k (contents' d)) at_c in
          let l = with_new k b nb in omega arith)
          (λ nc. let hb = else_ k b nb in let hc = else_ k c nc in let l = B.alone k b c apart in
          omega arith))

      grown : (n : EntryNote) (b : ℕ) → Contains (B.contents b) n → Contains (contents' b) n
      grown n b h = dite (ℕ_discrete b box)
          (λ same. subst (λ c. Contains (contents' c) n) (sym same)
          (subst (λ l. Contains l n) (sym
          (put_here B.contents box (B.contents box ++ note ∷ [])))
          (Contains-append_left (B.contents box) (note ∷ []) n
          (subst (λ c. Contains (B.contents c) n) same h))))
          (λ apart. subst (λ l. Contains l n)
          (sym (put_else B.contents box (B.contents box ++ note ∷ []) b apart)) h)
