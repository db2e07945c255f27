-- What a closed write placed lies in its writer's box.
use Rattle.std.proofs.Common.{
  ◌≡◌,
  ◌≢◌,
  ℕ,
  zero,
  suc,
  List,
  [],
  ◌∷◌,
  Option,
  Some,
  None,
  refl,
  sym,
  ap,
  ◌∙◌,
  subst,
  ⊎_elim,
  arith,
}
use Rattle.std.specs.Prelude.{◌%◌, ◌<◌, ◌⊎◌, ◌≤◌}
use Rattle.std.specs.List.{Contains}
use Rattle.std.proofs.lemmas.Option.{none-some, same_Some}
use mathlib.Core.Logic.{dite, inl, inr}
use mathlib.Core.Option.{some, some-injective, some-ne-none}
use native.Mathlib.Decide.{ℕ_discrete}
use lib.ListN.{get_elem?}
use Rattle.atomic_table.specs.Table.{State}
use Rattle.path_core.specs.declared.note.EntryNote.{EntryNote}
use Rattle.path_core.specs.declared.seat.Seat.{Seat}
use Rattle.path_core.specs.declared.state.Placed.{Placed}
use Rattle.path_core.specs.Parts.{seat_of, seat_table, table_of}
use Rattle.path_rule.specs.declared.lasting.Beside.{Beside}
use Rattle.path_rule.specs.declared.lasting.Lasting.{Lasting}
use Rattle.path_rule.specs.declared.slot.Slot.{Slot}
use Rattle.path_rule.specs.declared.slot.Slot.TheVariants.{Notes, Turn}
use Rattle.path_rule.specs.declared.view.FlushRead.{FlushRead}
use Rattle.path_rule.specs.declared.view.Hands.{Hands}
use Rattle.path_rule.specs.declared.view.PathSize.{PathSize}
use Rattle.path_rule.specs.declared.view.Role.{Role}
use Rattle.path_rule.specs.declared.view.Role.TheVariants.{Opener, Steps, Spent}
use Rattle.path_rule.specs.declared.view.View.{View}
use Rattle.path_rule.specs.Boxes.{memtable_box, NotesAre}
use Rattle.path_rule.specs.InBoxes.{
  BelongsThere,
  HasItsPlace,
  HasPlaceNow,
  LiesAtHome,
  LiesInHand,
  LiesInItsBox,
}
use Rattle.path_rule.specs.Memtables.{HasInHand, IsHome, IsRunning, PutsAs, ReadsBox}
use Rattle.path_rule.specs.Reads.{ReadsAs}
use Rattle.path_rule.specs.Rule.{Knows, Ruled}
use Rattle.path_rule.proofs.boxes.ReadsStay.{place_live, place_made}
use Rattle.path_rule.proofs.moves.Moving.{core_lawful, part_is, puts_now}

-- A seat that has the box in hand.
abbrev IsTaken : List View → ℕ → Type 0
IsTaken views b = (j : ℕ) × (v : View) × (get_elem? views j ≡ some v) × HasInHand v.hands b

-- a seat reads the box, or not
reads_or_not : (h : Hands) (b : ℕ) → ReadsBox h b ⊎ ¬ ReadsBox h b
reads_or_not h b = by h.reading refl
  where
    in_it : (q : FlushRead) → h.reading ≡ Some q → (k : Option ℕ) → q.taken ≡ k
        → ReadsBox h b ⊎ ¬ ReadsBox h b
    in_it q e None none = inr (λ R. none-some b (sym none
        ∙ (ap (λ (z : FlushRead). z.taken) (same_Some q R.0 (sym e ∙ R.1)) ∙ R.2)))
    in_it q e (Some c) taken = dite (ℕ_discrete c b)
        (λ same. inl (q, e, taken ∙ ap (λ (k : ℕ). Some k) same))
        (λ apart. inr (λ R. apart (same_Some c b (sym taken
        ∙ (ap (λ (z : FlushRead). z.taken) (same_Some q R.0 (sym e ∙ R.1)) ∙ R.2)))))

    by : (k : Option FlushRead) → h.reading ≡ k → ReadsBox h b ⊎ ¬ ReadsBox h b
    by None e = inr (λ R. none-some R.0 (sym e ∙ R.1))
    by (Some q) e = in_it q e q.taken refl

-- A box is in a seat's hand, or in none.
taken_or_home : (views : List View) (b : ℕ) → IsTaken views b ⊎ IsHome views b
taken_or_home [] b = inr (λ j v e. absurd (some-ne-none v (sym e)))
taken_or_home (u ∷ us) b = by u.hands.memtable_box refl (taken_or_home us b)
  where
    others : ¬ HasInHand u.hands b → IsHome us b → IsHome (u ∷ us) b
    others n home zero v e h =
        n (subst (λ (z : View). HasInHand z.hands b) (sym (some-injective u v e)) h)
    others n home (suc j) v e h = home j v e h

    rest : u.hands.memtable_box ≢ Some b → IsTaken us b ⊎ IsHome us b
        → IsTaken (u ∷ us) b ⊎ IsHome (u ∷ us) b
    rest n h = ⊎_elim (λ R. inl (0, u, refl, inr R))
        (λ none. ⊎_elim (λ t. inl (suc t.0, t.1, t.2, t.3))
        (λ home. inr (others (λ has. ⊎_elim n none has) home)) h) (reads_or_not u.hands b)

    by : (o : Option ℕ) → u.hands.memtable_box ≡ o → IsTaken us b ⊎ IsHome us b
        → IsTaken (u ∷ us) b ⊎ IsHome (u ∷ us) b
    by None e h = rest (λ q. none-some b (sym e ∙ q)) h
    by (Some c) e h = dite (ℕ_discrete c b)
        (λ same. inl (0, u, refl, inl (e ∙ ap (λ (k : ℕ). Some k) same)))
        (λ apart. rest (λ q. apart (same_Some c b (sym e ∙ q))) h)

module _ {K : Type 0} (shows : K → Lasting) (o : Beside) (size : PathSize) (s : State (Slot K) View)
    (r : Ruled shows o size s) where
  -- what lies in a box that a seat has in hand lay there when it was taken
  in_hand : (b : ℕ) (n : EntryNote) → Contains (r.memtables.contents b) n → IsTaken s.views b
      → LiesInHand s b n
  in_hand b n h t = (
    t.0,
    t.1,
    t.2,
    ⊎_elim
        (λ own. inl (own, held t.1 own t.1.role (r.memtables.in_hands t.0 t.1 t.2)))
        (λ R. inr (
          R.0,
          R.1,
          R.2,
          seen t.1 R t.1.role (r.memtables.in_hands t.0 t.1 t.2)
              (r.reads t.0 t.1 t.2),
        )) t.3,
  )
    where
      held : (v : View) → v.hands.memtable_box ≡ Some b → (ρ : Role)
          → PutsAs r.memtables.contents size.seats v.part v.hands ρ → Contains v.hands.held n
      held v own (Opener k) P = absurd (none-some b (sym P ∙ own))
      held v own Spent P = absurd (none-some b (sym P ∙ own))
      held v own (Steps w) P = subst (λ l. Contains l n) (sym (P.in_hand b own).1) h

      seen : (v : View) (R : ReadsBox v.hands b) (ρ : Role)
          → PutsAs r.memtables.contents size.seats v.part v.hands ρ
          → ReadsAs size.seats r.core v.part v.hands ρ → Contains R.0.held n
      seen v R (Opener k) P none = absurd (none-some R.0 (sym none ∙ R.1))
      seen v R Spent P none = absurd (none-some R.0 (sym none ∙ R.1))
      seen v R (Steps w) P is = subst (λ l. Contains l n) (sym (P.reads R.0 b R.1 R.2)) h

  -- no two seats have one box of a memtable in hand
  pub one_keeper : (j i b : ℕ) (u v : View) → get_elem? s.views j ≡ some u
      → get_elem? s.views i ≡ some v → u.hands.memtable_box ≡ Some b
      → v.hands.memtable_box ≡ Some b → j ≡ i
  one_keeper j i b u v at there mine yours =
      by u.role v.role (r.memtables.in_hands j u at) (r.memtables.in_hands i v there)
      (r.each_seat j u at).1 (r.each_seat i v there).1
    where
      by : (ρ σ : Role) → PutsAs r.memtables.contents size.seats u.part u.hands ρ
          → PutsAs r.memtables.contents size.seats v.part v.hands σ
          → Knows r.core r.events r.owner r.made r.boss j ρ u.part u.trail u.returned
          → Knows r.core r.events r.owner r.made r.boss i σ v.part v.trail v.returned → j ≡ i
      by (Opener n) σ P Q k q = absurd (none-some b (sym P ∙ mine))
      by Spent σ P Q k q = absurd (none-some b (sym P ∙ mine))
      by (Steps z) (Opener n) P Q k q = absurd (none-some b (sym Q ∙ yours))
      by (Steps z) Spent P Q k q = absurd (none-some b (sym Q ∙ yours))
      by (Steps z) (Steps y) P Q k q = let I = (P.in_hand b mine).0 in
          let H = (Q.in_hand b yours).0 in
          let same : z ≡ y = (let a = I.is in let c = H.is in let l = I.few in let f = H.few in
          omega arith) in sym k.0.1 ∙ (ap r.owner same ∙ q.0.1)

  pub lies_in_its_box : (p : Placed) → Contains r.core.placed p
      → (table_of r.core p.table).oldest_live ≤ p.memtable
      → LiesInItsBox size.seats r.core.notes s p
  lies_in_its_box p h live =
      let law = core_lawful shows o size s r in let M = r.memtables in
      let there = (law.places.placed p h).table in let few = law.sized.limits.few_tables in
      let P = M.kept p h live in let n = P.lies.0 in
      let inside = P.inside in
      let box = memtable_box size.seats P.by p.table p.memtable in
      let S = M.sound P.by p.table p.memtable n (omega arith) P.lies.1 in record {
        note = n;
        among = S.among;
        position = P.lies.2;
        touched = S.touched;
        lies = subst (λ (w : ℕ). LiesAtHome s (memtable_box size.seats w p.table p.memtable) n
            ⊎ LiesInHand s (memtable_box size.seats w p.table p.memtable) n) (sym S.writer)
            (⊎_elim (λ taken. inr (in_hand box n P.lies.1 taken))
            (λ home. let H = M.at_home box (omega arith) (omega arith) home in
            inl (H.0, M.contents box, H.1, H.2, P.lies.1))
            (taken_or_home s.views box));
      }

  -- what a running write put into a box has its place in a memtable of the box's place
  pub runs_there : (w t m : ℕ) (n : EntryNote) → t < 16
      → Contains (r.memtables.contents (memtable_box size.seats w t m)) n
      → IsRunning s.views w n.end.0
      → (k : ℕ) × (k % 4 ≡ m % 4) × HasPlaceNow r.core w t k n.end.0
  runs_there w t m n few h R =
      let is = part_is shows o size s r R.id w R.view R.there R.role in
      let P = puts_now shows o size s r R.id w R.view R.there R.role in
      let H = P.running R.range t m R.claim few (n, h, sym R.ends) in (
        H.put.memtable,
        H.ring,
        record {
          range = R.range;
          claim = ap (λ (p : Seat). p.claim) (sym is) ∙ R.claim;
          ends = R.ends;
          place = ap (λ (k : ℕ). (seat_table (seat_of r.core w) k).place) (sym H.table)
              ∙ (ap (λ (p : Seat). (seat_table p H.put.table).place) (sym is)
              ∙ P.placed H.put R.range H.among R.claim H.ends);
        },
      )

  -- a box holds what the memtable has that has its place
  pub holds_its_memtable : (w t m : ℕ) (n : EntryNote) → t < 16
      → Contains (r.memtables.contents (memtable_box size.seats w t m)) n
      → (k : ℕ) × (k % 4 ≡ m % 4) × HasItsPlace r.core t k × BelongsThere r.core w t k n
  holds_its_memtable w t m n few lies = let M = r.memtables in
      let law = core_lawful shows o size s r in let of = M.sound w t m n few lies in
      let near = (law.switches.tables t).bounds_rise.one_behind in ⊎_elim
      (λ p. let made = (law.places.placed _ p.among).accepted.made in let late = p.late in (
        p.memtable,
        p.ring,
        (made, late),
        record { of = of; put = inl p.among },
      ))
      (λ R. let P = runs_there w t m n few lies R in let place = P.2.place in
      let live = place_live r.core law w t P.0 place in (
        P.0,
        P.1,
        (place_made r.core law w t P.0 place, (let low = live.0 in omega arith)),
        record { of = of; put = inr P.2 },
      ))
      (M.settled w t m n few lies)

  pub belongs_there : (w t m : ℕ) (y : Slot K) (notes : List EntryNote) (n : EntryNote)
      → w < size.seats → t < 16 → IsHome s.views (memtable_box size.seats w t m)
      → get_elem? s.homes (memtable_box size.seats w t m) ≡ some (some y) → NotesAre y notes
      → Contains notes n
      → (k : ℕ) × (k % 4 ≡ m % 4) × HasItsPlace r.core t k × BelongsThere r.core w t k n
  belongs_there w t m y notes n low few home at kept h =
      let M = r.memtables in let box = memtable_box size.seats w t m in
      let H = M.at_home box (omega arith) (omega arith) home in
      let same : H.0 ≡ y = some-injective H.0 y (some-injective (some H.0) (some y)
      (sym H.1 ∙ at)) in
      let lies = subst (λ l. Contains l n) (same_notes y notes (M.contents box) kept
      (subst (λ (z : Slot K). NotesAre z (M.contents box)) same H.2)) h in
      holds_its_memtable w t m n few lies
    where
      same_notes : (y : Slot K) (a b : List EntryNote) → NotesAre y a → NotesAre y b → a ≡ b
      same_notes (Notes l) a b e f = sym e ∙ f
      same_notes (Turn d) a b e f = absurd e
