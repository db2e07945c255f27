-- The boxes of memtables under a step by which a holder of a Flush turn reads one.
use Rattle.std.proofs.Common.{
  ◌≡◌,
  ◌≢◌,
  ℕ,
  ◌<◌,
  ◌≤◌,
  List,
  [],
  Option,
  set,
  Some,
  refl,
  sym,
  ap,
  ◌∙◌,
  subst,
  ⊎_elim,
}
use Rattle.std.specs.List.{Contains}
use mathlib.Core.Logic.{inl, inr}
use mathlib.Core.Option.{some, none}
use mathlib.Core.Option as maybe
use lib.ListN.{get_elem?}
use Rattle.atomic_table.proofs.Lists.{set_here, set_else}
use Rattle.path_core.specs.declared.note.EntryNote.{EntryNote}
use Rattle.path_core.specs.declared.state.Placed.{Placed}
use Rattle.path_core.specs.declared.state.TableState.{TableState}
use Rattle.path_rule.specs.declared.slot.Slot.{Slot}
use Rattle.path_rule.specs.declared.view.FlushRead.{FlushRead}
use Rattle.path_rule.specs.declared.view.Hands.{Hands}
use Rattle.path_rule.specs.declared.view.Role.TheVariants.{Steps}
use Rattle.path_rule.specs.declared.view.View.{View}
use Rattle.path_rule.specs.Boxes.{boxes, all_boxes, memtable_box, NotesAre}
use Rattle.path_rule.specs.HandsAfter.{with_reading}
use Rattle.path_rule.specs.Memtables.{
  HasMemtables,
  IsEmptied,
  IsHome,
  IsKeptAt,
  IsPlacedIn,
  PutNotes,
  PutsAre,
  PutsAs,
  ReadsBox,
}
use Rattle.path_rule.proofs.boxes.AtHome.{inside_list}
use Rattle.path_rule.proofs.boxes.MemtablesStay.{
  all_hands,
  all_noted,
  old_home,
  puts_stay,
  runs_still,
  same_noted,
  PlacesStay,
}

module _ {K : Type 0} (seats : ℕ) (notes : List EntryNote) (placed : List Placed)
    (tables : List TableState) (homes : List (maybe.Option (Slot K))) (views : List View)
    (M : HasMemtables seats notes placed tables homes views) (id w : ℕ) (v v' : View)
    (at : get_elem? views id ≡ some v) (mine : v.role ≡ Steps w) (role : v'.role ≡ v.role)
    (note : v'.part.note ≡ v.part.note) (claim : v'.part.claim ≡ v.part.claim)
    (places : PlacesStay v.part v'.part) (q : Option FlushRead)
    (hands : v'.hands ≡ with_reading q v.hands)
    (knows : (z : FlushRead) (b : ℕ) → q ≡ Some z → z.taken ≡ Some b → z.held ≡ M.contents b)
    (emptied : (z : FlushRead) (y k : ℕ) → q ≡ Some z → IsEmptied seats z y k
    → M.contents (memtable_box seats y z.table k) ≡ []) where
  old : PutsAre M.contents seats w v.part v.hands
  old = subst (PutsAs M.contents seats v.part v.hands) mine (M.in_hands id v at)

  own : PutsAs M.contents seats v'.part v'.hands v'.role
  own = let P = puts_stay M.contents seats w v.part v'.part v.hands v.hands note claim places
      (refl, refl, refl, refl) old in
      subst (PutsAs M.contents seats v'.part v'.hands) (sym (role ∙ mine))
      (subst (PutsAre M.contents seats w v'.part) (sym hands) (record {
        in_hand = P.in_hand;
        rests = P.rests;
        tables = P.tables;
        applied = P.applied;
        running = λ r t m e few there. let H = P.running r t m e few there in record {
          put = H.put;
          among = H.among;
          table = H.table;
          ring = H.ring;
          ends = H.ends;
        };
        placed = P.placed;
        reads = knows;
        emptied = emptied;
      }))

  -- what seats put into boxes are notes still
  noted_then : (j : ℕ) (u : View) → get_elem? (set views id v') j ≡ some u
      → PutNotes notes u.hands
  noted_then = all_noted seats notes notes placed placed tables tables homes views M id v v' at
      (λ n h. h) (same_noted seats notes notes placed placed tables tables homes views M id v v' at
      (λ n h. h) (ap (λ (h : Hands). h.applied) hands))

  -- whatever was at home, where each box that was in hand still is or is at home since
  moved : (homes' : List (maybe.Option (Slot K)))
      → ((b : ℕ) → boxes seats ≤ b → b < all_boxes seats → IsHome (set views id v') b
      → (y : Slot K) × (get_elem? homes' b ≡ some (some y)) × NotesAre y (M.contents b))
      → HasMemtables seats notes placed tables homes' (set views id v')
  moved homes' at_home = record {
    contents = M.contents;
    at_home = at_home;
    in_hands = all_hands seats notes notes placed placed tables tables homes views M id v v' at
        (λ n h. h) M.contents own (λ j u _ e. M.in_hands j u e);
    kept = M.kept;
    sound = M.sound;
    settled = λ z t m n few h. ⊎_elim (λ p. inl p)
        (λ R. inr (runs_still views id v v' at role claim z n.end.0 R)) (M.settled z t m n few h);
    once = M.once;
    within = M.within;
    noted = noted_then;
  }

  box_same : v'.hands.memtable_box ≡ v.hands.memtable_box
  box_same = ap (λ (h : Hands). h.memtable_box) hands

  -- at home before, but for a box that it read
  home_before : (b : ℕ) → ¬ ReadsBox v.hands b → IsHome (set views id v') b → IsHome views b
  home_before b unread free = old_home seats notes notes placed placed tables tables homes views M
      id v v' at (λ n h. h) b
      (λ h. ⊎_elim (λ e. inl (box_same ∙ e)) (λ R. absurd (unread R)) h) free

  -- No box moves.
  pub read_still : ((b : ℕ) → ¬ ReadsBox v.hands b)
      → HasMemtables seats notes placed tables homes (set views id v')
  read_still unread = moved homes
      (λ b low high free. M.at_home b low high (home_before b (unread b) free))

  -- It takes one.
  pub read_taken : (box : ℕ) (z : FlushRead) → q ≡ Some z → z.taken ≡ Some box
      → ((b : ℕ) → ¬ ReadsBox v.hands b)
      → HasMemtables seats notes placed tables (set homes box none) (set views id v')
  read_taken box z is taken unread = moved (set homes box none) (λ b low high free.
      let apart : b ≢ box = (λ e. free id v' (set_here views id v' (inside_list views id v at))
      (inr (
        z,
        ap (λ (h : Hands). h.reading) hands ∙ is,
        taken ∙ ap (λ (c : ℕ). Some c) (sym e),
      ))) in
      let h = M.at_home b low high (home_before b (unread b) free) in
      (h.0, set_else homes box b none apart ∙ h.1, h.2))

-- The same boxes, where memtables were retired.
pub retabled : {K : Type 0} (seats : ℕ) (notes : List EntryNote) (placed : List Placed)
    (tables next : List TableState) (homes : List (maybe.Option (Slot K))) (views : List View)
    → (M : HasMemtables seats notes placed tables homes views)
    → ((p : Placed) → IsKeptAt next p → IsKeptAt tables p)
    → ((w t m : ℕ) (n : EntryNote) → t < 16 → Contains (M.contents (memtable_box seats w t m)) n
    → IsPlacedIn placed tables t m n.end.0 → IsPlacedIn placed next t m n.end.0)
    → HasMemtables seats notes placed next homes views
retabled seats notes placed tables next homes views M kept late = record {
  contents = M.contents;
  at_home = M.at_home;
  in_hands = M.in_hands;
  kept = λ p h live. M.kept p h (kept p live);
  sound = M.sound;
  settled = λ w t m n few h. ⊎_elim (λ p. inl (late w t m n few h p)) (λ R. inr R)
      (M.settled w t m n few h);
  once = M.once;
  within = M.within;
  noted = M.noted;
}
