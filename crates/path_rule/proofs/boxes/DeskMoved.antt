-- The desk of the Sync turn is taken, and put back.
use Rattle.std.proofs.Common.{
  ◌≡◌,
  ◌≢◌,
  ℕ,
  ◌≤◌,
  false,
  true,
  List,
  length,
  set,
  Option,
  Some,
  None,
  is_some,
  IsTrue,
  refl,
  sym,
  ◌∙◌,
  subst,
  ⊎_elim,
  arith,
}
use Rattle.std.proofs.lemmas.Bool.{false≢true}
use mathlib.Core.Logic.{inl, inr}
use mathlib.Core.Option.{none, some}
use mathlib.Core.Option as maybe
use lib.ListN.{get_elem?}
use Rattle.atomic_table.proofs.Lists.{at_set}
use Rattle.path_core.specs.declared.note.EntryNote.{EntryNote}
use Rattle.path_core.specs.declared.state.Claim.{Claim}
use Rattle.path_core.specs.declared.state.OrderGroups.{OrderGroups}
use Rattle.path_rule.specs.declared.lasting.Lasting.{Lasting}
use Rattle.path_rule.specs.declared.slot.Slot.{Slot}
use Rattle.path_rule.specs.declared.view.Progress.{Progress}
use Rattle.path_rule.specs.declared.view.Role.{Role}
use Rattle.path_rule.specs.declared.view.Role.TheVariants.{Steps}
use Rattle.path_rule.specs.declared.view.View.{View}
use Rattle.path_rule.specs.Boxed.{HandsAs, Boxed}
use Rattle.path_rule.specs.Boxes.{desk_box, boxes, HoldsAs, HoldsBox, DeskIs, Fits}
use Rattle.path_rule.proofs.boxes.AtHome.{take_homes, give_homes}

module _ {K : Type 0} (shows : K → Lasting) (seats : ℕ) (notes : List EntryNote) (lasting : Lasting)
    (claims : List Claim) (append : OrderGroups) (homes : List (maybe.Option (Slot K)))
    (views : List View)
    (B : Boxed shows seats notes lasting claims append homes views) (id w : ℕ) (v v' : View)
    (at : get_elem? views id ≡ some v) (mine : v.role ≡ Steps w) (role : v'.role ≡ v.role)
    (was_out : v.part.append ≡ None) (out : v'.part.append ≡ None)
    (empty : v.hands.box_taken ≡ None) (still : v'.hands.box_taken ≡ None)
    (unswept : v'.hands.swept ≡ 0) where
  own_desk : (IsTrue (is_some v'.part.sync)
      → (v'.hands.lasting ≡ lasting) × (v'.hands.pending ≡ B.pending)
      × (v'.hands.progress ≡ B.progress))
      → HandsAs B.contents lasting B.pending B.progress append seats v'.part v'.hands v'.role
  own_desk desk = subst (HandsAs B.contents lasting B.pending B.progress append seats v'.part
      v'.hands) (sym (role ∙ mine)) (record {
        own = λ g e. absurd (let q : None ≡ Some g = sym out ∙ e in cc);
        desk = desk;
        other = λ b e. absurd (let q : None ≡ Some b = sym still ∙ e in cc);
        swept = λ l. absurd (omega arith);
      })

  all_hands : HandsAs B.contents lasting B.pending B.progress append seats v'.part v'.hands v'.role
      → (j : ℕ) (u : View) → get_elem? (set views id v') j ≡ some u
      → HandsAs B.contents lasting B.pending B.progress append seats u.part u.hands u.role
  all_hands own j u e = ⊎_elim
      (λ (t : (j ≡ id) × (v' ≡ u)). subst
      (λ (z : View). HandsAs B.contents lasting B.pending B.progress append seats z.part z.hands
      z.role) t.1 own)
      (λ (t : (j ≢ id) × (get_elem? views j ≡ some u)). B.in_hands j u t.1)
      (at_set views id j v' u e)

  -- the only box that it may have is the desk
  only_desk : (b : ℕ) → HoldsBox v b → IsTrue (is_some v.part.sync) × (b ≡ desk_box)
  only_desk b h = ⊎_elim (λ a. absurd a)
      (λ q. ⊎_elim (λ d. d) (λ (t : None ≡ Some b). absurd (let f : None ≡ Some b = t in cc)) q)
      (subst (λ (q : Option ℕ × (Option ℕ × Role)). HoldsAs q.0 (is_some v.part.sync) q.1.0 b q.1.1)
      (λ i. (was_out i, (empty i, mine i))) h)

  pub boxed_desk_take : is_some v'.part.sync ≡ true
      → (v'.hands.lasting ≡ lasting) × (v'.hands.pending ≡ B.pending)
      × (v'.hands.progress ≡ B.progress)
      → Boxed shows seats notes lasting claims append (set homes desk_box none) (set views id v')
  boxed_desk_take holds knows = record {
    contents = B.contents;
    stamp = B.stamp;
    pending = B.pending;
    progress = B.progress;
    marked = B.marked;
    near = B.near;
    all = B.all;
    at_home = take_homes (Fits shows B.contents lasting B.pending B.progress)
        (Fits shows B.contents lasting B.pending B.progress)
        (boxes seats) homes views id v v' at B.at_home desk_box (has desk_box refl)
        (λ b h. has b (only_desk b h).1) (λ b y f. f);
    in_hands = all_hands (own_desk (λ _. knows));
    noted = B.noted;
    stamped = B.stamped;
    within = B.within;
    sound = B.sound;
    alone = B.alone;
    unlogged = B.unlogged;
  }
    where
      has : (b : ℕ) → b ≡ desk_box → HoldsBox v' b
      has b is = subst (λ ρ. HoldsAs v'.part.append (is_some v'.part.sync) v'.hands.box_taken b ρ)
          (sym (role ∙ mine)) (inr (inl (holds, is)))

  pub boxed_desk_give : (y : Slot K) → is_some v'.part.sync ≡ false → IsTrue (is_some v.part.sync)
      → DeskIs shows y v.hands.lasting v.hands.pending v.hands.progress → boxes seats ≤ length homes
      → Boxed shows seats notes lasting claims append (set homes desk_box (some y))
      (set views id v')
  boxed_desk_give y free held fits deep = let k =
      (subst (HandsAs B.contents lasting B.pending B.progress append seats v.part v.hands) mine
      (B.in_hands id v at)).desk held in record {
        contents = B.contents;
        stamp = B.stamp;
        pending = B.pending;
        progress = B.progress;
        marked = B.marked;
        near = B.near;
        all = B.all;
        at_home = give_homes (Fits shows B.contents lasting B.pending B.progress)
            (Fits shows B.contents lasting B.pending B.progress)
            (boxes seats) homes views id v v' at B.at_home desk_box y (omega arith)
            (record {
              desk = λ _. subst (λ (q : Lasting × (List EntryNote × Progress)). DeskIs shows y
                  q.0 q.1.0 q.1.1) (λ i. (k.0 i, (k.1 i, k.2 i))) fits;
              notes = λ l. absurd
                  (omega arith);
            })
            (λ b apart h. absurd (apart (only_desk b h).1)) (λ b z _ f. f);
        in_hands = all_hands (own_desk (λ e. absurd (false≢true (sym free ∙ e))));
        noted = B.noted;
        stamped = B.stamped;
        within = B.within;
        sound = B.sound;
        alone = B.alone;
        unlogged = B.unlogged;
      }
