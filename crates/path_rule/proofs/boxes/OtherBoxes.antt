-- The desk and the boxes of the log, at a step at which a box of a memtable moves.
use Rattle.std.proofs.Common.{
  ◌≡◌,
  ◌≢◌,
  ℕ,
  ◌<◌,
  Bool,
  List,
  set,
  Option,
  is_some,
  refl,
  sym,
  ap,
  ◌∙◌,
  subst,
  ⊎_elim,
}
use mathlib.Core.Option.{some}
use mathlib.Core.Option as maybe
use lib.ListN.{get_elem?}
use Rattle.atomic_table.proofs.Lists.{at_set}
use Rattle.path_core.specs.declared.note.EntryNote.{EntryNote}
use Rattle.path_core.specs.declared.seat.Issue.{Issue}
use Rattle.path_core.specs.declared.seat.Seat.{Seat}
use Rattle.path_core.specs.declared.state.Claim.{Claim}
use Rattle.path_core.specs.declared.state.OrderGroups.{OrderGroups}
use Rattle.path_core.specs.declared.state.Placed.{Placed}
use Rattle.path_core.proofs.seats.Columns.{issue_held}
use Rattle.path_rule.specs.declared.lasting.Lasting.{Lasting}
use Rattle.path_rule.specs.declared.slot.Slot.{Slot}
use Rattle.path_rule.specs.declared.view.FlushRead.{FlushRead}
use Rattle.path_rule.specs.declared.view.Hands.{Hands}
use Rattle.path_rule.specs.declared.view.Progress.{Progress}
use Rattle.path_rule.specs.declared.view.Role.{Role}
use Rattle.path_rule.specs.declared.view.Role.TheVariants.{Opener, Steps, Spent}
use Rattle.path_rule.specs.declared.view.View.{View}
use Rattle.path_rule.specs.Boxed.{HandsAre, HandsAs, Boxed}
use Rattle.path_rule.specs.Boxes.{boxes, HoldsAs, HoldsBox, Fits}
use Rattle.path_rule.proofs.boxes.AtHome.{same_homes}
use Rattle.path_rule.proofs.boxes.HandsStay.{role_hands_stay}
use Rattle.path_rule.proofs.places.ReadBack.{is_some_held}

-- the same of the desk and of the log, with this of memtables
abbrev pub with_puts : Option ℕ → List EntryNote → List Placed → Option FlushRead → Hands → Hands
with_puts box held applied reading h = record h {
  memtable_box = box;
  held = held;
  applied = applied;
  reading = reading;
}

module _ (contents : ℕ → List EntryNote) (lasting : Lasting) (pending : List EntryNote)
    (progress : Progress) (append : OrderGroups) (seats : ℕ) (p : Seat) (h : Hands)
    (box : Option ℕ) (held : List EntryNote) (applied : List Placed) (reading : Option FlushRead)
  where
    same_hands : (w : ℕ) → HandsAre contents lasting pending progress append seats w p h
        → HandsAre contents lasting pending progress append seats w p
        (with_puts box held applied reading h)
    same_hands w H = record {
      own = H.own;
      desk = H.desk;
      other = λ b e. let G = H.other b e in record {
        holds = G.holds;
        rest = G.rest;
        passed = G.passed;
        parity = G.parity;
        above = G.above;
        inside = G.inside;
        taken = G.taken;
      };
      swept = λ l. let S = H.swept l in record {
        holds = S.holds;
        passed = S.passed;
        empty = S.empty;
      };
    }

    same_as : (ρ : Role) → HandsAs contents lasting pending progress append seats p h ρ
        → HandsAs contents lasting pending progress append seats p
        (with_puts box held applied reading h) ρ
    same_as (Opener k) H = tt
    same_as Spent H = tt
    same_as (Steps w) H = same_hands w H

module _ {K : Type 0} (shows : K → Lasting) (seats : ℕ) (notes : List EntryNote) (lasting : Lasting)
    (claims : List Claim) (append : OrderGroups) (homes : List (maybe.Option (Slot K)))
    (views : List View)
    (B : Boxed shows seats notes lasting claims append homes views) (id : ℕ) (v v' : View)
    (at : get_elem? views id ≡ some v) (role : v'.role ≡ v.role) where
  pub boxed_other : (homes' : List (maybe.Option (Slot K)))
      → ((b : ℕ) → b < boxes seats → get_elem? homes' b ≡ get_elem? homes b)
      → v'.part.append ≡ v.part.append → issue_held v'.part ≡ issue_held v.part
      → (box : Option ℕ) (held : List EntryNote) (applied : List Placed)
      (reading : Option FlushRead) → v'.hands ≡ with_puts box held applied reading v.hands
      → Boxed shows seats notes lasting claims append homes' (set views id v')
  boxed_other homes' elsewhere same issue box held applied reading hands = record {
    contents = B.contents;
    stamp = B.stamp;
    pending = B.pending;
    progress = B.progress;
    marked = B.marked;
    near = B.near;
    all = B.all;
    at_home = λ b l free. let h = same_homes (Fits shows B.contents lasting B.pending B.progress)
        (Fits shows B.contents lasting B.pending B.progress)
        (boxes seats) homes views id v v' at B.at_home more (λ c y f. f) b l free in
        (h.0, elsewhere b l ∙ h.1, h.2);
    in_hands = λ j u e. ⊎_elim
        (λ (t : (j ≡ id) × (v' ≡ u)). subst (λ (z : View).
        HandsAs B.contents lasting B.pending B.progress append seats z.part z.hands z.role) t.1 own)
        (λ (t : (j ≢ id) × (get_elem? views j ≡ some u)). B.in_hands j u t.1)
        (at_set views id j v' u e);
    noted = B.noted;
    stamped = B.stamped;
    within = B.within;
    sound = B.sound;
    alone = B.alone;
    unlogged = B.unlogged;
  }
    where
      held_same : is_some v'.part.sync ≡ is_some v.part.sync
      held_same = sym (is_some_held v'.part)
          ∙ (ap (λ (o : Option Issue). is_some o) issue ∙ is_some_held v.part)

      more : (b : ℕ) → HoldsBox v b → HoldsBox v' b
      more b h = subst (λ (q : Option ℕ × (Bool × (Option ℕ × Role))). HoldsAs q.0 q.1.0 q.1.1.0 b
          q.1.1.1)
          (λ i. (sym same i, (sym held_same i, ((sym hands i).box_taken, sym role i)))) h

      own : HandsAs B.contents lasting B.pending B.progress append seats v'.part v'.hands v'.role
      own = subst (λ (q : Hands × Role).
          HandsAs B.contents lasting B.pending B.progress append seats v'.part q.0 q.1)
          (λ i. (sym hands i, sym role i))
          (same_as B.contents lasting B.pending B.progress append seats v'.part v.hands box held
          applied reading v.role
          (role_hands_stay B.contents lasting B.pending B.progress append append seats v.part
          v'.part v.hands v.role refl refl same issue (B.in_hands id v at)))
