-- A box that a holder of a Flush turn has read goes home: as it was, or empty, where its memtable
-- is retired.
use Rattle.std.proofs.Common.{◌≡◌, ◌≢◌, ℕ, ◌<◌, ◌≤◌, Bool, true, false, cond, List, [], length, set}
use Rattle.std.proofs.Common.{Some, refl, sym, ap, ◌∙◌, subst, ⊎_elim, arith}
use Rattle.std.proofs.lemmas.Option.{none-some, same_Some}
use Rattle.std.specs.List.{Contains}
use Rattle.std.specs.Prelude.{◌⊎◌}
use mathlib.Core.Logic.{dite, inl, inr}
use mathlib.Core.Option.{some}
use mathlib.Core.Option as maybe
use native.Mathlib.Decide.{ℕ_discrete}
use lib.ListN.{get_elem?}
use Rattle.atomic_table.proofs.Lists.{set_here, set_else}
use Rattle.path_core.specs.declared.note.EntryNote.{EntryNote}
use Rattle.path_core.specs.declared.seat.Range.{Range}
use Rattle.path_core.specs.declared.seat.Seat.{Seat}
use Rattle.path_core.specs.declared.state.Placed.{Placed}
use Rattle.path_core.specs.declared.state.TableState.{TableState}
use Rattle.path_core.specs.Parts.{seat_table}
use Rattle.path_rule.specs.declared.slot.Slot.{Slot}
use Rattle.path_rule.specs.declared.view.FlushRead.{FlushRead}
use Rattle.path_rule.specs.declared.view.Hands.{Hands}
use Rattle.path_rule.specs.declared.view.Role.{Role}
use Rattle.path_rule.specs.declared.view.Role.TheVariants.{Opener, Steps, Spent}
use Rattle.path_rule.specs.declared.view.View.{View}
use Rattle.path_rule.specs.Boxed.{ends_at}
use Rattle.path_rule.specs.Boxes.{memtable_box, NotesAre}
use Rattle.path_rule.specs.HandsAfter.{box_seen, left_in, with_reading}
use Rattle.path_rule.specs.Memtables.{
  HasMemtables,
  IsEmptied,
  IsKeptAt,
  IsPut,
  LiesAmong,
  PutNotes,
  PutsAre,
  PutsAs,
  ReadsBox,
}
use Rattle.path_rule.proofs.boxes.MemtablesStay.{
  all_hands,
  all_noted,
  old_home,
  puts_stay,
  runs_still,
  same_noted,
  PlacesStay,
}
use Rattle.path_rule.proofs.boxes.PutAt.{put, put_here, put_else}

module _ {K : Type 0} (seats : ℕ) (notes : List EntryNote) (placed : List Placed)
    (tables : List TableState) (homes : List (maybe.Option (Slot K))) (views : List View)
    (M : HasMemtables seats notes placed tables homes views) (id w : ℕ) (v v' : View)
    (at : get_elem? views id ≡ some v) (mine : v.role ≡ Steps w) (role : v'.role ≡ v.role)
    (note : v'.part.note ≡ v.part.note) (claim : v'.part.claim ≡ v.part.claim)
    (places : PlacesStay v.part v'.part) (z : FlushRead)
    (hands : v'.hands ≡ with_reading (Some (box_seen z)) v.hands)
    (is : v.hands.reading ≡ Some z) (box : ℕ) (taken : z.taken ≡ Some box)
    (next : box ≡ memtable_box seats z.seen_to z.table z.memtable)
    (unplaced : (j y : ℕ) (u : View) → get_elem? views j ≡ some u → u.role ≡ Steps y
    → (t k : ℕ) → t < 16 → (seat_table u.part t).place ≡ Some k → memtable_box seats y t k ≢ box)
    (alone : (j : ℕ) (u : View) → j ≢ id → get_elem? views j ≡ some u → ¬ ReadsBox u.hands box)
    (live : (p : Placed) (by : ℕ) → Contains placed p → IsKeptAt tables p
    → memtable_box seats by p.table p.memtable ≡ box → z.retired ≡ false) where
  abbrev contents' : ℕ → List EntryNote
  contents' = put M.contents box (left_in z)

  old : PutsAre M.contents seats w v.part v.hands
  old = subst (PutsAs M.contents seats v.part v.hands) mine (M.in_hands id v at)

  left_same : z.retired ≡ false → left_in z ≡ M.contents box
  left_same e = ap (λ (b : Bool). cond b [] z.held) e ∙ old.reads z box is taken

  left_none : z.retired ≡ true → left_in z ≡ []
  left_none e = ap (λ (b : Bool). cond b [] z.held) e

  left_as : (left_in z ≡ M.contents box) ⊎ (left_in z ≡ [])
  left_as = by z.retired refl
    where
      by : (b : Bool) → z.retired ≡ b → (left_in z ≡ M.contents box) ⊎ (left_in z ≡ [])
      by false e = inl (left_same e)
      by true e = inr (left_none e)

  now_here : (b : ℕ) → b ≡ box → contents' b ≡ left_in z
  now_here b same = ap contents' same ∙ put_here M.contents box (left_in z)

  now_else : (b : ℕ) → b ≢ box → contents' b ≡ M.contents b
  now_else b apart = put_else M.contents box (left_in z) b apart

  -- a box holds what it held, or nothing
  now_as : (b : ℕ) → (contents' b ≡ M.contents b) ⊎ (contents' b ≡ [])
  now_as b = dite (ℕ_discrete b box)
      (λ same. ⊎_elim (λ e. inl (now_here b same ∙ (e ∙ ap M.contents (sym same))))
      (λ e. inr (now_here b same ∙ e)) left_as)
      (λ apart. inl (now_else b apart))

  -- what lies in a box lay there before
  lay_there : (b : ℕ) (n : EntryNote) → Contains (contents' b) n → Contains (M.contents b) n
  lay_there b n h = ⊎_elim (λ e. subst (λ l. Contains l n) e h)
      (λ e. absurd (let l = (subst (λ (c : List EntryNote). Contains c n) e h).1 in omega arith))
      (now_as b)

  -- an empty one is empty still
  still_empty : (b : ℕ) → M.contents b ≡ [] → contents' b ≡ []
  still_empty b bare = ⊎_elim (λ e. e ∙ bare) (λ e. e) (now_as b)

  -- what lies in another one, or in one whose memtable is not retired, does so still
  still_there : (b entry : ℕ) → (b ≡ box → z.retired ≡ false) → LiesAmong (M.contents b) entry
      → LiesAmong (contents' b) entry
  still_there b entry same h = (
    h.0,
    subst (λ l. Contains l h.0) (sym (dite (ℕ_discrete b box)
        (λ here. now_here b here ∙ (left_same (same here) ∙ ap M.contents (sym here)))
        (λ apart. now_else b apart))) h.1,
    h.2,
  )

  -- what a seat knows that has neither the box in hand nor a place there
  puts_then : (y : ℕ) (p : Seat) (h h' : Hands) → PutsAre M.contents seats y p h
      → h'.memtable_box ≡ h.memtable_box → h'.held ≡ h.held → h'.applied ≡ h.applied
      → ((b : ℕ) → h.memtable_box ≡ Some b → b ≢ box)
      → ((a : Placed) (r : Range) → Contains h.applied a → p.claim ≡ Some r → a.entry ≡ r.end
      → memtable_box seats y a.table a.memtable ≢ box)
      → ((k : FlushRead) (b : ℕ) → h'.reading ≡ Some k → k.taken ≡ Some b → k.held ≡ contents' b)
      → ((k : FlushRead) (i j : ℕ) → h'.reading ≡ Some k → IsEmptied seats k i j
      → contents' (memtable_box seats i k.table j) ≡ [])
      → PutsAre contents' seats y p h'
  puts_then y p h h' P box_is held put_is apart away reads emptied = record {
    in_hand = λ b e. let before = sym box_is ∙ e in let H = P.in_hand b before in
        (H.0, held ∙ (H.1 ∙ sym (now_else b (apart b before))));
    rests = λ e. box_is ∙ P.rests e;
    tables = λ a e. P.tables a (subst (λ l. Contains l a) put_is e);
    applied = λ a r e c ends. let before = subst (λ l. Contains l a) put_is e in
        still_there (memtable_box seats y a.table a.memtable) a.entry
        (λ here. absurd (away a r before c ends here)) (P.applied a r before c ends);
    running = λ r t m e few there. let H = P.running r t m e few
        (there.0, lay_there (memtable_box seats y t m) there.0 there.1, there.2) in record {
          put = H.put;
          among = subst (λ l. Contains l H.put) (sym put_is) H.among;
          table = H.table;
          ring = H.ring;
          ends = H.ends;
        };
    placed = λ a r e. P.placed a r (subst (λ l. Contains l a) put_is e);
    reads = reads;
    emptied = emptied;
  }

  -- nor has one whose write has its place elsewhere
  apart_of : (j y : ℕ) (u : View) → get_elem? views j ≡ some u → u.role ≡ Steps y
      → PutsAre M.contents seats y u.part u.hands → (b : ℕ) → u.hands.memtable_box ≡ Some b
      → b ≢ box
  apart_of j y u there steps P b e same = let I = (P.in_hand b e).0 in
      unplaced j y u there steps I.table I.memtable I.few I.place (sym I.is ∙ same)

  away_of : (j y : ℕ) (u : View) → get_elem? views j ≡ some u → u.role ≡ Steps y
      → PutsAre M.contents seats y u.part u.hands → (a : Placed) (r : Range)
      → Contains u.hands.applied a → u.part.claim ≡ Some r → a.entry ≡ r.end
      → memtable_box seats y a.table a.memtable ≢ box
  away_of j y u there steps P a r e c ends = unplaced j y u there steps a.table a.memtable
      (P.tables a e) (P.placed a r e c ends)

  -- what the seat has emptied, this box among it
  own_emptied : (y k : ℕ) → IsEmptied seats (box_seen z) y k
      → contents' (memtable_box seats y z.table k) ≡ []
  own_emptied y k E = ⊎_elim
      (λ drops. dite (ℕ_discrete y z.seen_to)
      (λ here. now_here (memtable_box seats y z.table k)
      ((λ i. memtable_box seats (here i) z.table (sym drops.1 i)) ∙ sym next)
      ∙ left_none drops.0)
      (λ apart. let less = drops.2 in still_empty (memtable_box seats y z.table k)
      (old.emptied z y k is (inl (drops.0, drops.1, omega arith)))))
      (λ reads. still_empty (memtable_box seats y z.table k) (old.emptied z y k is (inr reads))) E

  reads_now : (k : FlushRead) → v'.hands.reading ≡ Some k → box_seen z ≡ k
  reads_now k e = same_Some (box_seen z) k (sym (ap (λ (h : Hands). h.reading) hands) ∙ e)

  own : PutsAs contents' seats v'.part v'.hands v'.role
  own = subst (PutsAs contents' seats v'.part v'.hands) (sym (role ∙ mine))
      (puts_then w v'.part v.hands v'.hands
      (puts_stay M.contents seats w v.part v'.part v.hands v.hands note claim places
      (refl, refl, refl, refl) old)
      (ap (λ (h : Hands). h.memtable_box) hands) (ap (λ (h : Hands). h.held) hands)
      (ap (λ (h : Hands). h.applied) hands) (apart_of id w v at mine old)
      (λ a r e c ends. away_of id w v at mine old a r e (sym claim ∙ c) ends)
      (λ k b e has. absurd (none-some b (ap (λ (i : FlushRead). i.taken) (reads_now k e) ∙ has)))
      (λ k i j e E. subst (λ (q : FlushRead). IsEmptied seats q i j
      → contents' (memtable_box seats i q.table j) ≡ []) (reads_now k e) (own_emptied i j) E))

  others : (j : ℕ) (u : View) → j ≢ id → get_elem? views j ≡ some u
      → PutsAs contents' seats u.part u.hands u.role
  others j u apart e = by u.role refl (M.in_hands j u e)
    where
      by : (ρ : Role) → u.role ≡ ρ → PutsAs M.contents seats u.part u.hands ρ
          → PutsAs contents' seats u.part u.hands ρ
      by (Opener n) steps P = P
      by Spent steps P = P
      by (Steps y) steps P = puts_then y u.part u.hands u.hands P refl refl refl
          (apart_of j y u e steps P) (away_of j y u e steps P)
          (λ k b h has. P.reads k b h has ∙ sym (now_else b (λ same. alone j u apart e
          (k, h, has ∙ ap (λ (c : ℕ). Some c) same))))
          (λ k i g h E. still_empty (memtable_box seats i k.table g) (P.emptied k i g h E))

  kept_then : (p : Placed) → Contains placed p → IsKeptAt tables p → IsPut contents' seats p
  kept_then p h here = let I = M.kept p h here in record {
    by = I.by;
    inside = I.inside;
    lies = still_there (memtable_box seats I.by p.table p.memtable) p.entry (live p I.by h here)
        I.lies;
  }

  once_then : (key b : ℕ) → ends_at key (contents' b) ≤ 1
  once_then key b = ⊎_elim
      (λ e. subst (λ (l : List EntryNote). ends_at key l ≤ 1) (sym e) (M.once key b))
      (λ e. subst (λ (l : List EntryNote). ends_at key l ≤ 1) (sym e) (omega arith)) (now_as b)

  box_of_hand : (b : ℕ) → b ≢ box → ReadsBox v.hands b → ⊥
  box_of_hand b apart R = apart (sym (same_Some box b
      (sym taken ∙ (ap (λ (k : FlushRead). k.taken) (same_Some z R.0 (sym is ∙ R.1)) ∙ R.2))))

  noted_then : (j : ℕ) (u : View) → get_elem? (set views id v') j ≡ some u
      → PutNotes notes u.hands
  noted_then = all_noted seats notes notes placed placed tables tables homes views M id v v' at
      (λ n h. h) (same_noted seats notes notes placed placed tables tables homes views M id v v' at
      (λ n h. h) (ap (λ (h : Hands). h.applied) hands))

  -- The box is at home with what is left in it.
  pub read_given : (y : Slot K) → NotesAre y (left_in z) → box < length homes
      → HasMemtables seats notes placed tables (set homes box (some y)) (set views id v')
  read_given y kept inside = record {
    contents = contents';
    at_home = λ b low high home. dite (ℕ_discrete b box)
        (λ same. (
          y,
          ap (get_elem? (set homes box (some y))) same ∙ set_here homes box (some y) inside,
          subst (NotesAre y) (sym (now_here b same)) kept,
        ))
        (λ apart. let h = M.at_home b low high
        (old_home seats notes notes placed placed tables tables homes views M id v v' at
        (λ n q. q) b
        (λ has. ⊎_elim (λ e. inl (ap (λ (h : Hands). h.memtable_box) hands ∙ e))
        (λ R. absurd (box_of_hand b apart R)) has) home) in (
          h.0,
          set_else homes box b (some y) apart ∙ h.1,
          subst (NotesAre h.0) (sym (now_else b apart)) h.2,
        ));
    in_hands = all_hands seats notes notes placed placed tables tables homes views M id v v' at
        (λ n h. h) contents' own others;
    kept = kept_then;
    sound = λ s t m n few h. M.sound s t m n few (lay_there (memtable_box seats s t m) n h);
    settled = λ s t m n few h. ⊎_elim (λ p. inl p)
        (λ R. inr (runs_still views id v v' at role claim s n.end.0 R))
        (M.settled s t m n few (lay_there (memtable_box seats s t m) n h));
    once = once_then;
    within = λ b n h. M.within b n (lay_there b n h);
    noted = noted_then;
  }
