-- A box of a memtable goes home with a note more in it.
use Rattle.std.proofs.Common.{
  ◌≡◌,
  ◌≢◌,
  ℕ,
  zero,
  suc,
  ◌<◌,
  ◌≤◌,
  cond,
  List,
  [],
  ◌∷◌,
  ◌++◌,
  length,
  set,
  Some,
  None,
  refl,
  sym,
  ap,
  ◌∙◌,
  subst,
  ⊎_elim,
  arith,
  ne_eqb,
}
use Rattle.std.proofs.lemmas.Bool.{eqb-true}
use Rattle.std.proofs.lemmas.List.Elements.{
  Contains-append_left,
  Contains-append_right,
  Contains-append_cases,
}
use Rattle.std.proofs.lemmas.List.Sums.{sum_by-append, count_by-le-length}
use Rattle.std.specs.List.{Contains}
use Rattle.std.specs.Prelude.{◌⊎◌}
use mathlib.Core.Logic.{dite, inl, inr}
use mathlib.Core.Option.{some}
use mathlib.Core.Option as maybe
use native.Mathlib.Decide.{ℕ_discrete}
use lib.ListN.{get_elem?}
use Rattle.atomic_table.proofs.Lists.{set_here, set_else}
use Rattle.path_core.specs.declared.note.EntryNote.{EntryNote}
use Rattle.path_core.specs.declared.state.Placed.{Placed}
use Rattle.path_core.specs.declared.state.TableState.{TableState}
use Rattle.path_core.specs.LawfulLog.{is_note_at}
use Rattle.path_core.specs.Parts.{seat_table}
use Rattle.path_core.proofs.lists.Heads.{first_in, first_or_later, later_in}
use Rattle.path_core.proofs.lists.Replaced.{counted_from}
use Rattle.path_rule.specs.declared.slot.Slot.{Slot}
use Rattle.path_rule.specs.declared.slot.Slot.TheVariants.{Notes}
use Rattle.path_rule.specs.declared.view.FlushRead.{FlushRead}
use Rattle.path_rule.specs.declared.view.Hands.{Hands}
use Rattle.path_rule.specs.declared.view.Role.{Role}
use Rattle.path_rule.specs.declared.view.Role.TheVariants.{Opener, Steps, Spent}
use Rattle.path_rule.specs.declared.view.View.{View}
use Rattle.path_rule.specs.Boxed.{ends_at}
use Rattle.path_rule.specs.Boxes.{all_boxes, memtable_box, NotesAre}
use Rattle.path_rule.specs.HandsAfter.{with_applied}
use Rattle.path_rule.specs.Memtables.{
  HasMemtables,
  HasPut,
  IsEmptied,
  IsOfBox,
  IsPlacedIn,
  IsRunning,
  LiesAmong,
  PutNotes,
  PutsAre,
  PutsAs,
  ReadsBox,
}
use Rattle.path_rule.proofs.boxes.AtHome.{inside_list}
use Rattle.path_rule.proofs.boxes.MemtablesStay.{
  all_hands,
  all_noted,
  old_home,
  runs_still,
  PlacesStay,
}
use Rattle.path_rule.proofs.boxes.PutAt.{put, put_here, put_else}

the_one : {A : Type 0} (a b : A) → Contains (a ∷ []) b → a ≡ b
the_one a b (zero, l, e) = e
the_one a b (suc i, l, e) = absurd (omega arith)

none_some : (b : ℕ) → None ≡ Some b → ⊥
none_some b e = cc

same_box : (a b : ℕ) → Some a ≡ Some b → a ≡ b
same_box a b e = cc

module _ {K : Type 0} (seats : ℕ) (notes : List EntryNote) (placed : List Placed)
    (tables : List TableState) (homes : List (maybe.Option (Slot K))) (views : List View)
    (M : HasMemtables seats notes placed tables homes views) (id : ℕ) (v v' : View)
    (at : get_elem? views id ≡ some v) (w t k : ℕ) (few : t < 16) (low : w < seats)
    (deep : length homes ≡ all_boxes seats) (mine : v.role ≡ Steps w) (role : v'.role ≡ v.role)
    (note : EntryNote)
    (has : v.hands.memtable_box ≡ Some (memtable_box seats w t k))
    (hands : v'.hands
    ≡ with_applied (record { table = t; entry = note.end.0; memtable = k }) v.hands)
    (claim : v'.part.claim ≡ v.part.claim) (places : PlacesStay v.part v'.part)
    (place : (seat_table v.part t).place ≡ Some k) (start : ℕ)
    (range : v.part.claim ≡ Some (record { start = start; end = note.end.0 }))
    (fresh : (a : Placed) → Contains v.hands.applied a → a.entry ≡ note.end.0 → a.table ≢ t)
    (belongs : IsOfBox notes w t note)
    (others_are : (j z : ℕ) (u : View) → j ≢ id → get_elem? views j ≡ some u → u.role ≡ Steps z
    → z ≢ w)
    (unread : (j : ℕ) (u : View) → get_elem? views j ≡ some u
    → ¬ ReadsBox u.hands (memtable_box seats w t k))
    (unemptied : (j : ℕ) (u : View) → get_elem? views j ≡ some u → (q : FlushRead) (z i : ℕ)
    → u.hands.reading ≡ Some q → IsEmptied seats q z i
    → memtable_box seats z q.table i ≢ memtable_box seats w t k) where
  abbrev box : ℕ
  box = memtable_box seats w t k

  abbrev new : Placed
  new = record { table = t; entry = note.end.0; memtable = k }

  abbrev contents' : ℕ → List EntryNote
  contents' = put M.contents box (M.contents box ++ note ∷ [])

  old : PutsAre M.contents seats w v.part v.hands
  old = subst (PutsAs M.contents seats v.part v.hands) mine (M.in_hands id v at)

  held_is : v.hands.held ≡ M.contents box
  held_is = (old.in_hand box has).1

  now_here : contents' box ≡ M.contents box ++ note ∷ []
  now_here = put_here M.contents box (M.contents box ++ note ∷ [])

  now_else : (b : ℕ) → b ≢ box → contents' b ≡ M.contents b
  now_else b apart = put_else M.contents box (M.contents box ++ note ∷ []) b apart

  -- what lay in a box lies there still
  lies_still : (b entry : ℕ) → LiesAmong (M.contents b) entry → LiesAmong (contents' b) entry
  lies_still b entry h = dite (ℕ_discrete b box)
      (λ same. (
        h.0,
        subst (λ l. Contains l h.0) (sym (ap contents' same ∙ now_here))
            (Contains-append_left (M.contents box) (note ∷ []) h.0
            (subst (λ c. Contains (M.contents c) h.0) same h.1)),
        h.2,
      ))
      (λ apart. (h.0, subst (λ l. Contains l h.0) (sym (now_else b apart)) h.1, h.2))

  lies_here : LiesAmong (contents' box) note.end.0
  lies_here = (
    note,
    subst (λ l. Contains l note) (sym now_here)
        (Contains-append_right (M.contents box) (note ∷ []) note (first_in note [])),
    refl,
  )

  -- before it lay in no box of the table
  not_yet : ¬ LiesAmong (M.contents box) note.end.0
  not_yet h = let H = old.running (record { start = start; end = note.end.0 }) t k range few h in
      fresh H.put H.among H.ends H.table

  -- what lies in a box, before or since
  cases : (b : ℕ) (n : EntryNote) → Contains (contents' b) n
      → (P : Type 0) → (Contains (M.contents b) n → P) → (b ≡ box → note ≡ n → P) → P
  cases b n h P before since = dite (ℕ_discrete b box)
      (λ same. ⊎_elim
      (λ was. before (subst (λ c. Contains (M.contents c) n) (sym same) was))
      (λ one. since same (the_one note n one))
      (Contains-append_cases (M.contents box) (note ∷ []) n
      (subst (λ l. Contains l n) (ap contents' same ∙ now_here) h)))
      (λ apart. before (subst (λ l. Contains l n) (now_else b apart) h))

  own : PutsAs contents' seats v'.part v'.hands v'.role
  own = subst (λ (q : Hands × Role). PutsAs contents' seats v'.part q.0 q.1)
      (λ i. (sym hands i, sym (role ∙ mine) i)) (record {
        in_hand = λ b e. absurd (none_some b e);
        rests = λ e. refl;
        tables = λ a e. ⊎_elim
            (λ (is : new ≡ a). subst (λ (q : Placed). q.table < 16) is few)
            (λ was. old.tables a was) (first_or_later new a v.hands.applied e);
        applied = λ a r e c ends. ⊎_elim
            (λ (is : new ≡ a). subst (λ (q : Placed).
            LiesAmong (contents' (memtable_box seats w q.table q.memtable)) q.entry) is lies_here)
            (λ was. lies_still (memtable_box seats w a.table a.memtable) a.entry
            (old.applied a r was (sym claim ∙ c) ends))
            (first_or_later new a v.hands.applied e);
        running = λ r u m e small there. cases (memtable_box seats w u m) there.0 there.1
            (HasPut (with_applied new v.hands) u m r.end)
            (λ was. let H = old.running r u m (sym claim ∙ e) small (there.0, was, there.2) in
            record {
              put = H.put;
              among = later_in new H.put v.hands.applied H.among;
              table = H.table;
              ring = H.ring;
              ends = H.ends;
            })
            (λ same is. let q : memtable_box seats w u m ≡ memtable_box seats w t k = same in
            record {
              put = new;
              among = first_in new v.hands.applied;
              table = omega arith;
              ring = omega arith;
              ends = ap (λ (n : EntryNote). n.end.0) is ∙ there.2;
            });
        placed = λ a r e c is. places a.table a.memtable (⊎_elim
            (λ (one : new ≡ a). subst (λ (q : Placed). (seat_table v.part q.table).place
            ≡ Some q.memtable) one place)
            (λ was. old.placed a r was (sym claim ∙ c) is)
            (first_or_later new a v.hands.applied e));
        reads = λ q b e taken. old.reads q b e taken ∙ sym (now_else b
            (λ same. unread id v at (q, e, taken ∙ ap (λ (c : ℕ). Some c) same)));
        emptied = λ q z i e bare. now_else (memtable_box seats z q.table i)
            (unemptied id v at q z i e bare) ∙ old.emptied q z i e bare;
      })

  others : (j : ℕ) (u : View) → j ≢ id → get_elem? views j ≡ some u
      → PutsAs contents' seats u.part u.hands u.role
  others j u apart e = by u.role refl (M.in_hands j u e)
    where
      by : (ρ : Role) → u.role ≡ ρ → PutsAs M.contents seats u.part u.hands ρ
          → PutsAs contents' seats u.part u.hands ρ
      by (Opener n) is P = P
      by Spent is P = P
      by (Steps z) is P = let far : z ≢ w = others_are j z u apart e is in record {
        in_hand = λ b h. let H = P.in_hand b h in (
          H.0,
          H.1 ∙ sym (now_else b (λ q. far (let a = H.0.is in let l = H.0.few in omega arith))),
        );
        rests = P.rests;
        tables = P.tables;
        applied = λ a r h c ends. lies_still (memtable_box seats z a.table a.memtable) a.entry
            (P.applied a r h c ends);
        running = λ r u m h small there. P.running r u m h small (cases
            (memtable_box seats z u m) there.0 there.1
            (LiesAmong (M.contents (memtable_box seats z u m)) r.end)
            (λ was. (there.0, was, there.2))
            (λ same is. absurd (far (let q : memtable_box seats z u m
            ≡ memtable_box seats w t k = same in omega arith))));
        placed = P.placed;
        reads = λ q b h taken. P.reads q b h taken ∙ sym (now_else b
            (λ same. unread j u e (q, h, taken ∙ ap (λ (c : ℕ). Some c) same)));
        emptied = λ q y i h bare. now_else (memtable_box seats y q.table i)
            (unemptied j u e q y i h bare) ∙ P.emptied q y i h bare;
      }

  sound_then : (z u m : ℕ) (n : EntryNote) → u < 16
      → Contains (contents' (memtable_box seats z u m)) n → IsOfBox notes z u n
  sound_then z u m n small h = cases (memtable_box seats z u m) n h (IsOfBox notes z u n)
      (λ was. M.sound z u m n small was)
      (λ same is. let q : memtable_box seats z u m ≡ memtable_box seats w t k = same in
      let seat : w ≡ z = omega arith in let table : t ≡ u = omega arith in
      subst (λ (y : ℕ × (ℕ × EntryNote)). IsOfBox notes y.0 y.1.0 y.1.1)
      (λ i. (seat i, (table i, is i))) belongs)

  settled_then : (z u m : ℕ) (n : EntryNote) → u < 16
      → Contains (contents' (memtable_box seats z u m)) n
      → IsPlacedIn placed tables u m n.end.0 ⊎ IsRunning (set views id v') z n.end.0
  settled_then z u m n small h = cases (memtable_box seats z u m) n h
      (IsPlacedIn placed tables u m n.end.0 ⊎ IsRunning (set views id v') z n.end.0)
      (λ was. ⊎_elim (λ p. inl p)
      (λ R. inr (runs_still views id v v' at role claim z n.end.0 R)) (M.settled z u m n small was))
      (λ same is. let q : memtable_box seats z u m ≡ memtable_box seats w t k = same in
      let seat : w ≡ z = omega arith in inr (record {
        id = id;
        view = v';
        range = record { start = start; end = note.end.0 };
        there = set_here views id v' (inside_list views id v at);
        role = role ∙ (mine ∙ ap Steps seat);
        claim = claim ∙ range;
        ends = ap (λ (a : EntryNote). a.end.0) is;
      }))

  once_then : (key b : ℕ) → ends_at key (contents' b) ≤ 1
  once_then key b = dite (ℕ_discrete b box)
      (λ same. subst (λ (l : List EntryNote). ends_at key l ≤ 1)
      (sym (ap contents' same ∙ now_here)) here)
      (λ apart. subst (λ (l : List EntryNote). ends_at key l ≤ 1) (sym (now_else b apart))
      (M.once key b))
    where
      here : ends_at key (M.contents box ++ note ∷ []) ≤ 1
      here = let s = sum_by-append (λ (a : EntryNote). cond {A = ℕ} (is_note_at key a) 1 0)
          (M.contents box) (note ∷ []) in
          let one = count_by-le-length (is_note_at key) (note ∷ []) in
          let before = M.once key box in dite (ℕ_discrete key note.end.0)
          (λ is. dite (ℕ_discrete (ends_at key (M.contents box)) 0)
          (λ none. omega arith)
          (λ some. absurd (
          let f = counted_from (is_note_at key) (M.contents box) (omega arith) in
          not_yet (f.0, f.1, eqb-true f.0.end.0 key f.2 ∙ is))))
          (λ apart. let zero = ap (λ b. cond {A = ℕ} b 1 0)
          (ne_eqb note.end.0 key (λ e. apart (sym e))) in omega arith)

  within_then : (b : ℕ) (n : EntryNote) → Contains (contents' b) n → b < all_boxes seats
  within_then b n h = cases b n h (b < all_boxes seats) (λ was. M.within b n was)
      (λ same is. omega arith)

  put_noted : PutNotes notes v'.hands
  put_noted a h = ⊎_elim
      (λ (is : new ≡ a). (note, belongs.among, ap (λ (q : Placed). q.entry) is))
      (λ was. M.noted id v at a was)
      (first_or_later new a v.hands.applied (subst (λ (k : Hands). Contains k.applied a) hands h))

  pub memtable_given :
      HasMemtables seats notes placed tables
      (set homes box (some (Notes (v.hands.held ++ note ∷ [])))) (set views id v')
  memtable_given = record {
    contents = contents';
    at_home = λ b above below free. dite (ℕ_discrete b box)
        (λ same. (
          Notes (v.hands.held ++ note ∷ []),
          ap (get_elem? (set homes box (some (Notes (v.hands.held ++ note ∷ []))))) same
              ∙ set_here homes box (some (Notes (v.hands.held ++ note ∷ []))) (omega arith),
          ap (λ l. l ++ note ∷ []) held_is ∙ sym (ap contents' same ∙ now_here),
        ))
        (λ apart. let h = M.at_home b above below
        (old_home seats notes notes placed placed tables tables homes views M id v v' at
        (λ n q. q) b (λ h. ⊎_elim (λ e. absurd (apart (same_box b box (sym e ∙ has))))
        (λ R. inr (R.0, ap (λ (z : Hands). z.reading) hands ∙ R.1, R.2)) h) free) in (
          h.0,
          set_else homes box b (some (Notes (v.hands.held ++ note ∷ []))) apart ∙ h.1,
          subst (NotesAre h.0) (sym (now_else b apart)) h.2,
        ));
    in_hands = all_hands seats notes notes placed placed tables tables homes views M id v v' at
        (λ n q. q) contents' own others;
    kept = λ p h live. let K = M.kept p h live in record {
      by = K.by;
      inside = K.inside;
      lies = lies_still (memtable_box seats K.by p.table p.memtable) p.entry K.lies;
    };
    sound = sound_then;
    settled = settled_then;
    once = once_then;
    within = within_then;
    noted = all_noted seats notes notes placed placed tables tables homes views M id v v' at
        (λ n q. q) put_noted;
  }
