-- Boxes at the steps of the holder of the Sync turn.
use Rattle.std.proofs.Common.{
  ◌≡◌,
  ◌≢◌,
  ℕ,
  suc,
  ◌+◌,
  ◌*◌,
  ◌%◌,
  ◌<◌,
  ◌≤◌,
  ◌==◌,
  ◌||◌,
  cond,
  Bool,
  true,
  false,
  List,
  [],
  ◌++◌,
  length,
  set,
  Option,
  Some,
  None,
  is_some,
  IsTrue,
  refl,
  sym,
  ap,
  ◌∙◌,
  subst,
  ⊎_elim,
  arith,
  eqb-true,
}
use Rattle.std.proofs.lemmas.Bool.{false≢true}
use Rattle.std.proofs.lemmas.List.Elements.{
  Contains-append_left,
  Contains-append_right,
  Contains-append_cases,
}
use Rattle.std.proofs.lemmas.List.Sums.{sum_by-append}
use Rattle.std.specs.List.{Contains}
use mathlib.Core.Logic.{dite, inl, inr}
use mathlib.Core.Option.{some, none}
use mathlib.Core.Option as maybe
use native.Mathlib.Decide.{ℕ_discrete}
use lib.ListN.{get_elem?}
use Rattle.atomic_table.proofs.Lists.{at_set, set_here}
use Rattle.path_core.specs.declared.note.EntryNote.{EntryNote}
use Rattle.path_core.specs.declared.seat.Issue.TheVariants.{Rest}
use Rattle.path_core.specs.declared.state.Claim.{Claim}
use Rattle.path_core.specs.declared.state.OrderGroups.{OrderGroups}
use Rattle.path_core.specs.LawfulLog.{is_note_at}
use Rattle.path_core.specs.Parts.{issue_of}
use Rattle.path_rule.specs.declared.lasting.Lasting.{Lasting}
use Rattle.path_rule.specs.declared.slot.Slot.{Slot}
use Rattle.path_rule.specs.declared.view.Hands.{Hands}
use Rattle.path_rule.specs.declared.view.Progress.{Progress}
use Rattle.path_rule.specs.declared.view.Role.{Role}
use Rattle.path_rule.specs.declared.view.Role.TheVariants.{Opener, Steps, Spent}
use Rattle.path_rule.specs.declared.view.View.{View}
use Rattle.path_rule.specs.Boxed.{Gathers, Swept, HandsAre, HandsAs, Stamped, ends_at, Boxed}
use Rattle.path_rule.specs.Boxes.{box_of, boxes, HoldsAs, HoldsBox, Fits, IsFree, NotesAre}
use Rattle.path_core.specs.Parts.{last_kept}
use Rattle.path_rule.specs.HandsAfter.{with_taken, with_swept}
use Rattle.path_rule.proofs.boxes.AtHome.{inside_list, same_homes, take_homes, give_homes}
use Rattle.path_rule.proofs.boxes.PutAt.{put, put_here, put_else}

module _ {K : Type 0} (shows : K → Lasting) (seats : ℕ) (notes : List EntryNote) (lasting : Lasting)
    (claims after : List Claim) (append groups : OrderGroups) (homes : List (maybe.Option (Slot K)))
    (views : List View)
    (B : Boxed shows seats notes lasting claims append homes views) (id w : ℕ) (v v' : View)
    (at : get_elem? views id ≡ some v) (mine : v.role ≡ Steps w) (role : v'.role ≡ v.role)
    (was_out : v.part.append ≡ None) (out : v'.part.append ≡ None)
    (held : IsTrue (is_some v.part.sync)) (still : IsTrue (is_some v'.part.sync))
    (others_free : (j z : ℕ) (u : View) → j ≢ id → get_elem? views j ≡ some u → u.role ≡ Steps z
    → is_some u.part.sync ≡ false)
    (others_near : (j z g : ℕ) (u : View) → j ≢ id → get_elem? views j ≡ some u → u.role ≡ Steps z
    → u.part.append ≡ Some g → (g ≤ append.current) × (append.oldest ≤ g)) where
  own_hands : HandsAre B.contents lasting B.pending B.progress append seats w v.part v.hands
  own_hands = subst (HandsAs B.contents lasting B.pending B.progress append seats v.part v.hands)
      mine (B.in_hands id v at)

  -- Others hold boxes of their own alone: what the holder changes they do not see.
  others_stay : (contents : ℕ → List EntryNote) (pending : List EntryNote) (gathered : Progress)
      → ((j z g : ℕ) (u : View) → j ≢ id → get_elem? views j ≡ some u → u.role ≡ Steps z
      → u.part.append ≡ Some g → contents (box_of z g) ≡ B.contents (box_of z g))
      → (j : ℕ) (u : View) → j ≢ id → get_elem? views j ≡ some u
      → HandsAs contents lasting pending gathered groups seats u.part u.hands u.role
  others_stay contents pending gathered same j u apart e = by u.role refl (B.in_hands j u e)
    where
      by : (ρ : Role) → u.role ≡ ρ → HandsAs B.contents lasting B.pending B.progress append seats
          u.part u.hands ρ → HandsAs contents lasting pending gathered groups seats u.part u.hands ρ
      by (Opener k) is H = tt
      by Spent is H = tt
      by (Steps z) is H = let bare = others_free j z u apart e is in record {
        own = λ g a. H.own g a ∙ sym (same j z g u apart e is a);
        desk = λ h. absurd (false≢true (sym bare ∙ h));
        other = λ b h. absurd (let G = H.other b h in false≢true (sym bare ∙ G.holds));
        swept = λ l. absurd (let S = H.swept l in false≢true (sym bare ∙ S.holds));
      }

  all_hands : (contents : ℕ → List EntryNote) (pending : List EntryNote) (gathered : Progress)
      → HandsAre contents lasting pending gathered groups seats w v'.part v'.hands
      → ((j : ℕ) (u : View) → j ≢ id → get_elem? views j ≡ some u
      → HandsAs contents lasting pending gathered groups seats u.part u.hands u.role)
      → (j : ℕ) (u : View) → get_elem? (set views id v') j ≡ some u
      → HandsAs contents lasting pending gathered groups seats u.part u.hands u.role
  all_hands contents pending gathered own others j u e = ⊎_elim
      (λ (t : (j ≡ id) × (v' ≡ u)). subst
      (λ (z : View). HandsAs contents lasting pending gathered groups seats z.part z.hands
      z.role) t.1
      (subst (HandsAs contents lasting pending gathered groups seats v'.part v'.hands)
      (sym (role ∙ mine)) own))
      (λ (t : (j ≢ id) × (get_elem? views j ≡ some u)). others j u t.0 t.1)
      (at_set views id j v' u e)

  holds_now : (b : ℕ) → v'.hands.box_taken ≡ v.hands.box_taken → HoldsBox v b → HoldsBox v' b
  holds_now b same h = subst (λ (q : Option ℕ × (Bool × (Option ℕ × Role))). HoldsAs q.0 q.1.0
      q.1.1.0 b q.1.1.1) (λ i. (
        (was_out ∙ sym out) i,
        ((held ∙ sym still) i, (sym same i, sym role i)),
      )) h

  -- the desk is not at home
  desk_out : (b : ℕ) → b ≡ 0 → IsFree (set views id v') b → ⊥
  desk_out b is free = free id v' (set_here views id v' (inside_list views id v at))
      (subst (λ ρ. HoldsAs v'.part.append (is_some v'.part.sync) v'.hands.box_taken b ρ)
      (sym (role ∙ mine)) (inr (inl (still, is))))

  -- A step at which no box moves.
  pub boxed_goes : (marks : Progress) → v.hands.box_taken ≡ None → v'.hands.box_taken ≡ None
      → (v'.hands.lasting ≡ lasting) × (v'.hands.pending ≡ B.pending) × (v'.hands.progress ≡ marks)
      → groups.current ≤ suc groups.oldest
      → (marks.gathered ≡ true → groups.oldest ≡ groups.current)
      → last_kept after ≡ marks.marker
      → ((b : ℕ) (n : EntryNote) → Contains (B.contents b) n
      → Stamped after groups.current marks.gathered b (B.stamp b) n)
      → (0 < v'.hands.swept → Swept B.contents groups v'.part v'.hands)
      → Boxed shows seats notes lasting after groups homes (set views id v')
  boxed_goes marks empty empty' desk near all marked stamped swept = record {
    contents = B.contents;
    stamp = B.stamp;
    pending = B.pending;
    progress = marks;
    marked = marked;
    near = near;
    all = all;
    at_home = λ b l free. let h = same_homes (Fits shows B.contents lasting B.pending B.progress)
        (Fits shows B.contents lasting B.pending B.progress)
        (boxes seats) homes views id v v' at B.at_home (λ b h. holds_now b (empty' ∙ sym empty) h)
        (λ b y f. f) b l free in
        (h.0, h.1, record { desk = λ is. absurd (desk_out b is free); notes = h.2.notes });
    in_hands = all_hands B.contents B.pending marks (record {
      own = λ g e. absurd (let q : None ≡ Some g = sym out ∙ e in cc);
      desk = λ _. desk;
      other = λ b e. absurd (let q : None ≡ Some b = sym empty' ∙ e in cc);
      swept = swept;
    }) (λ j u apart e. others_stay B.contents B.pending marks
        (λ j z g u _ _ _ _. refl) j u apart e);
    noted = B.noted;
    stamped = stamped;
    within = B.within;
    sound = B.sound;
    alone = B.alone;
    unlogged = B.unlogged;
  }

  -- It takes a box of another seat, behind the passed barrier.
  pub boxed_gather : (z : ℕ) → after ≡ claims → groups ≡ append → z < seats
      → v.hands.box_taken ≡ None → issue_of v'.part ≡ Rest → append.oldest ≡ append.current
      → v'.hands ≡ with_taken (Some (box_of z (suc append.current)))
      (B.contents (box_of z (suc append.current))) v.hands
      → Boxed shows seats notes lasting claims append
      (set homes (box_of z (suc append.current)) none) (set views id v')
  boxed_gather z same_claims same_groups low empty rest passed hands = let box =
      box_of z (suc append.current) in record {
        contents = B.contents;
        stamp = B.stamp;
        pending = B.pending;
        progress = B.progress;
        marked = B.marked;
        near = B.near;
        all = B.all;
        at_home = take_homes (Fits shows B.contents lasting B.pending B.progress)
            (Fits shows B.contents lasting B.pending B.progress)
            (boxes seats) homes views id v v' at B.at_home box
            (has box (ap (λ (h : Hands). h.box_taken) hands)) (more box) (λ b y f. f);
        in_hands = λ j u e. subst (λ (g : OrderGroups).
            HandsAs B.contents lasting B.pending B.progress g seats u.part u.hands u.role)
            same_groups
            (all_hands B.contents B.pending B.progress
            (subst (λ (g : OrderGroups). HandsAre B.contents lasting B.pending B.progress g seats w
            v'.part v'.hands) (sym same_groups)
            (subst (HandsAre B.contents lasting B.pending B.progress append seats w v'.part)
            (sym hands)
            (record {
              own = λ g e. absurd (let q : None ≡ Some g = sym out ∙ e in cc);
              desk = λ _. own_hands.desk held;
              other = λ b e. let q : Some box ≡ Some b = e in let is : box ≡ b = cc in
                  subst (λ c. Gathers B.contents append seats v'.part
                  (with_taken (Some box) (B.contents box) v.hands) c) is (record {
                    holds = still;
                    rest = rest;
                    passed = passed;
                    parity = λ odd. absurd (omega arith);
                    above = omega arith;
                    inside = omega arith;
                    taken = refl;
                  });
              swept = λ l. let S = own_hands.swept l in
                  record { holds = still; passed = S.passed; empty = S.empty };
            }))) (λ j u apart e. others_stay B.contents B.pending B.progress
            (λ j z g u _ _ _ _. refl) j u apart e) j u e);
        noted = B.noted;
        stamped = B.stamped;
        within = B.within;
        sound = B.sound;
        alone = B.alone;
        unlogged = B.unlogged;
      }
    where
      has : (box : ℕ) → v'.hands.box_taken ≡ Some box → HoldsBox v' box
      has box is = subst (λ ρ. HoldsAs v'.part.append
          (is_some v'.part.sync) v'.hands.box_taken box ρ) (sym (role ∙ mine)) (inr (inr is))

      more : (box b : ℕ) → HoldsBox v b → HoldsBox v' b
      more box b h = subst (λ (q : Option ℕ × (Bool × Role)). HoldsAs q.0 q.1.0 v'.hands.box_taken b
          q.1.1) (λ i. (sym out i, (sym still i, sym (role ∙ mine) i)))
          (⊎_elim (λ a. inl a) (λ q. ⊎_elim (λ d. inr (inl (refl, d.1)))
          (λ (t : None ≡ Some b). absurd (let f : None ≡ Some b = t in cc)) q)
          (subst (λ (q : Option ℕ × (Option ℕ × Role)). HoldsAs q.0
          (is_some v.part.sync) q.1.0 b q.1.1) (λ i. (was_out i, (empty i, mine i))) h))

  -- It gives that box back, empty: what was in it is pending.
  pub boxed_give_back : (y : Slot K) → after ≡ claims → groups ≡ append → NotesAre y []
      → v.hands.box_taken ≡ Some (box_of v.hands.swept (suc append.current))
      → v'.hands ≡ with_swept seats v.hands → boxes seats ≤ length homes
      → Boxed shows seats notes lasting claims append
      (set homes (box_of v.hands.swept (suc append.current)) (some y)) (set views id v')
  boxed_give_back y same_claims same_groups void taken hands deep = let inside = G.inside in
      record {
        contents = contents';
        stamp = B.stamp;
        pending = pending';
        progress = marks';
        marked = B.marked;
        near = B.near;
        all = λ _. G.passed;
        at_home = λ b l free. let h = give_homes
            (Fits shows B.contents lasting B.pending B.progress)
            (λ c z. 0 < c → NotesAre z (contents' c))
            (boxes seats) homes views id v v' at B.at_home box y (omega arith)
            (λ _. subst (NotesAre y) (sym (put_here B.contents box [])) void) more
            (λ c z apart f l. subst (NotesAre z) (sym (put_else B.contents box [] c apart))
            (f.notes l))
            b l free in
            (h.0, h.1, record { desk = λ is. absurd (desk_out b is free); notes = h.2 });
        in_hands = λ j u e. subst (λ (g : OrderGroups).
            HandsAs contents' lasting pending' marks' g seats u.part u.hands u.role) same_groups
            (all_hands contents' pending' marks'
            (subst (λ (g : OrderGroups). HandsAre contents' lasting pending' marks' g seats w
            v'.part v'.hands) (sym same_groups)
            (subst (HandsAre contents' lasting pending' marks' append seats w v'.part) (sym hands)
            (record {
              own = λ g e. absurd (let q : None ≡ Some g = sym out ∙ e in cc);
              desk = λ _. let d = own_hands.desk held in (
                d.0,
                (λ i. d.1 i ++ G.taken i),
                ap
                    (λ (t : Progress). record {
                      gathered = t.gathered ||
                          (suc k == seats);
                      marker = t.marker;
                    }) d.2,
              );
              other = λ b e. absurd (let q : None ≡ Some b = e in cc);
              swept = λ _. record { holds = still; passed = G.passed; empty = empties };
            }))) (λ j u apart e. others_stay contents' pending' marks' keep j u apart e) j u e);
        noted = λ n h. ⊎_elim (λ a. inl a)
            (λ q. inr (⊎_elim (λ p. inl (Contains-append_left B.pending (B.contents box) n p))
            (λ (t : (b : ℕ) × Contains (B.contents b) n). dite (ℕ_discrete t.0 box)
            (λ same. inl (Contains-append_right B.pending (B.contents box) n
            (subst (λ c. Contains (B.contents c) n) same t.1)))
            (λ apart. inr (
              t.0,
              subst (λ l. Contains l n)
                  (sym (put_else B.contents box [] t.0 apart)) t.1,
            ))) q)) (B.noted n h);
        stamped = λ b n h. let S = old b n h in record {
          own = S.own;
          not_above = S.not_above;
          recent = S.recent;
          gathered = λ t. now b n h t;
          above = S.above;
        };
        within = λ b n h. B.within b n (was b n h);
        sound = λ n h. ⊎_elim (λ p. ⊎_elim (λ q. B.sound n (inl q)) (λ q. B.sound n (inr (box, q)))
            (Contains-append_cases B.pending (B.contents box) n p))
            (λ (t : (b : ℕ) × Contains (contents' b) n). B.sound n (inr (t.0, was t.0 n t.1))) h;
        alone = alone;
        unlogged = λ n h. ⊎_elim (λ p. ⊎_elim (λ q. B.unlogged n (inl q))
            (λ q. B.unlogged n (inr (box, q)))
            (Contains-append_cases B.pending (B.contents box) n p))
            (λ (t : (b : ℕ) × Contains (contents' b) n). B.unlogged n (inr (t.0, was t.0 n t.1))) h;
      }
    where
      k : ℕ
      k = v.hands.swept

      box : ℕ
      box = box_of v.hands.swept (suc append.current)

      contents' : ℕ → List EntryNote
      contents' = put B.contents box []

      pending' : List EntryNote
      pending' = B.pending ++ B.contents box

      marks' : Progress
      marks' = record {
        gathered = B.progress.gathered ||
            (suc v.hands.swept == seats);
        marker = B.progress.marker;
      }

      gathered' : Bool
      gathered' = B.progress.gathered || (suc v.hands.swept == seats)

      G : Gathers B.contents append seats v.part v.hands box
      G = own_hands.other box taken

      -- nothing is in the boxes that were gathered
      empties : (z : ℕ) → z < suc v.hands.swept → contents' (box_of z (suc append.current)) ≡ []
      empties z l = dite (ℕ_discrete (box_of z (suc append.current)) box)
          (λ same. ap contents' same ∙ put_here B.contents box [])
          (λ apart. put_else B.contents box [] (box_of z (suc append.current)) apart
          ∙ (own_hands.swept (below z l apart)).empty z (lower z l apart))
        where
          lower : (z : ℕ) → z < suc v.hands.swept → box_of z (suc append.current) ≢ box
              → z < v.hands.swept
          lower z l apart = dite (ℕ_discrete z v.hands.swept)
              (λ e. absurd (apart (λ i. box_of (e i) (suc append.current)))) (λ n. (omega arith))

          below : (z : ℕ) → z < suc v.hands.swept → box_of z (suc append.current) ≢ box
              → 0 < v.hands.swept
          below z l apart = let q = lower z l apart in omega arith

      here : (k : ℕ) → ends_at k (contents' box) ≡ 0
      here k = ap (ends_at k) (put_here B.contents box [])

      else_ : (k b : ℕ) → b ≢ box → ends_at k (contents' b) ≡ ends_at k (B.contents b)
      else_ k b apart = ap (ends_at k) (put_else B.contents box [] b apart)

      alone : (k b c : ℕ) → b ≢ c → ends_at k pending' +
          (ends_at k (contents' b) + ends_at k (contents' c)) ≤ 1
      alone k b c apart = let sum : ends_at k pending'
          ≡ ends_at k B.pending + ends_at k (B.contents box) =
          sum_by-append (λ (a : EntryNote). cond {A = ℕ} (is_note_at k a) 1 0) B.pending
          (B.contents box) in
          dite (ℕ_discrete b box)
          (λ (at_b : b ≡ box). let hb = ap (λ d. ends_at k (contents' d)) at_b ∙ here k in
          let hc = else_ k c (λ e. apart (at_b ∙ sym e)) in
          let l = B.alone k box c (λ e. apart (at_b ∙ e)) in omega arith)
          (λ nb. dite (ℕ_discrete c box)
          (λ (at_c : c ≡ box). let hc = ap (λ d. ends_at k (contents' d)) at_c ∙ here k in
          let hb = else_ k b nb in let l = B.alone k box b (λ e. nb (sym e)) in omega arith)
          (λ nc. let hb = else_ k b nb in let hc = else_ k c nc in
          let l = B.alone k box b (λ e. nb (sym e)) in
          let r = B.alone k box c (λ e. nc (sym e)) in let q = B.alone k b c apart in
          omega arith))

      was : (b : ℕ) (n : EntryNote) → Contains (contents' b) n → Contains (B.contents b) n
      was b n h = dite (ℕ_discrete b box)
          (λ same. absurd (let q = subst (λ l. Contains l n) (put_here B.contents box [])
          (subst (λ c. Contains (contents' c) n) same h) in let l = q.1 in omega arith))
          (λ apart. subst (λ l. Contains l n) (put_else B.contents box [] b apart) h)

      old : (b : ℕ) (n : EntryNote) → Contains (contents' b) n
          → Stamped claims append.current B.progress.gathered b (B.stamp b) n
      old b n h = B.stamped b n (was b n h)

      -- once all are gathered, what is left is of the current group
      last : (b : ℕ) (n : EntryNote) → Contains (contents' b) n → suc v.hands.swept ≡ seats
          → B.stamp b ≡ append.current
      last b n h all = let S = old b n h in let a = S.not_above in let c = S.recent in
          dite (ℕ_discrete (B.stamp b) append.current) (λ e. e)
          (λ apart. absurd (let own : b ≡ 1 + 2 * n.writer.0 + B.stamp b % 2 = S.own in
          let low = B.within b n (was b n h) in
          let is : b ≡ box_of n.writer.0 (suc append.current) = omega arith in
          let q = subst (λ l. Contains l n) (empties n.writer.0 (omega arith))
          (subst (λ d. Contains (contents' d) n) is h) in let l = q.1 in omega arith))

      now : (b : ℕ) (n : EntryNote) → Contains (contents' b) n → gathered' ≡ true
          → B.stamp b ≡ append.current
      now b n h t = by B.progress.gathered refl t
        where
          by : (g : Bool) → B.progress.gathered ≡ g → (g || (suc v.hands.swept == seats)) ≡ true
              → B.stamp b ≡ append.current
          by true e t = (old b n h).gathered e
          by false e t = last b n h (eqb-true (suc v.hands.swept) seats t)

      keep : (j z g : ℕ) (u : View) → j ≢ id → get_elem? views j ≡ some u → u.role ≡ Steps z
          → u.part.append ≡ Some g → contents' (box_of z g) ≡ B.contents (box_of z g)
      keep j z g u apart e is a = put_else B.contents box [] (box_of z g)
          (λ q. absurd (let f : 1 + 2 * z + g % 2
          ≡ 1 + 2 * v.hands.swept + suc append.current % 2 = q in
          let near = others_near j z g u apart e is a in let lo = near.0 in let hi = near.1 in
          let p = G.passed in let same : g ≡ append.current = omega arith in
          let c : g % 2 ≡ append.current % 2 = ap (λ (n : ℕ). n % 2) same in omega arith))

      more : (b : ℕ) → b ≢ box → HoldsBox v b → HoldsBox v' b
      more b apart h = subst (λ (q : Option ℕ × (Bool × Role)). HoldsAs q.0 q.1.0 v'.hands.box_taken
          b q.1.1) (λ i. (sym out i, (sym still i, sym (role ∙ mine) i)))
          (⊎_elim (λ a. inl a) (λ q. ⊎_elim (λ d. inr (inl (refl, d.1)))
          (λ (t : Some box ≡ Some b). absurd (apart (let f : Some box ≡ Some b = t in cc))) q)
          (subst (λ (q : Option ℕ × (Option ℕ × Role)). HoldsAs q.0
          (is_some v.part.sync) q.1.0 b q.1.1) (λ i. (was_out i, (taken i, mine i))) h))
