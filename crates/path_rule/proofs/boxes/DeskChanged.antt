-- What stands on the desk changes in the hand of the holder of the turn.
use Rattle.std.proofs.Common.{
  ◌≡◌,
  ◌≢◌,
  ℕ,
  ◌≤◌,
  Bool,
  false,
  List,
  set,
  Option,
  Some,
  None,
  is_some,
  IsTrue,
  refl,
  sym,
  ◌∙◌,
  subst,
  ⊎_elim,
  arith,
}
use Rattle.std.proofs.lemmas.Bool.{false≢true}
use Rattle.std.specs.List.{Contains}
use mathlib.Core.Logic.{inl, inr}
use mathlib.Core.Option.{some}
use mathlib.Core.Option as maybe
use lib.ListN.{get_elem?}
use Rattle.atomic_table.proofs.Lists.{at_set, set_here}
use Rattle.path_core.specs.declared.note.EntryNote.{EntryNote}
use Rattle.path_core.specs.declared.state.Claim.{Claim}
use Rattle.path_core.specs.declared.state.OrderGroups.{OrderGroups}
use Rattle.path_rule.specs.declared.lasting.Lasting.{Lasting}
use Rattle.path_rule.specs.declared.slot.Slot.{Slot}
use Rattle.path_rule.specs.declared.view.Role.{Role}
use Rattle.path_rule.specs.declared.view.Role.TheVariants.{Opener, Steps, Spent}
use Rattle.path_rule.specs.declared.view.View.{View}
use Rattle.path_rule.specs.Boxed.{HandsAs, IsSomewhere, IsKept, ends_at, Boxed}
use Rattle.path_rule.specs.Boxes.{boxes, HoldsAs, HoldsBox, IsFree, Fits}
use Rattle.path_rule.specs.Lasts.{ends}
use Rattle.path_rule.proofs.boxes.AtHome.{inside_list, same_homes}

-- What is on the desk changes, in the hand of the holder of the turn.
module _ {K : Type 0} (shows : K → Lasting) (seats : ℕ) (notes : List EntryNote)
    (lasting after : Lasting) (claims : List Claim) (append : OrderGroups)
    (homes : List (maybe.Option (Slot K))) (views : List View)
    (B : Boxed shows seats notes lasting claims append homes views) (id w : ℕ) (v v' : View)
    (at : get_elem? views id ≡ some v) (mine : v.role ≡ Steps w) (role : v'.role ≡ v.role)
    (was_out : v.part.append ≡ None) (out : v'.part.append ≡ None)
    (held : IsTrue (is_some v.part.sync)) (still : IsTrue (is_some v'.part.sync))
    (empty : v.hands.box_taken ≡ None) (empty' : v'.hands.box_taken ≡ None)
    (others_free : (j z : ℕ) (u : View) → j ≢ id → get_elem? views j ≡ some u → u.role ≡ Steps z
    → is_some u.part.sync ≡ false) (left : List EntryNote)
    (desk : (v'.hands.lasting ≡ after) × (v'.hands.pending ≡ left)
    × (v'.hands.progress ≡ B.progress)) (unswept : v'.hands.swept ≡ 0) where
  others_stay : (j : ℕ) (u : View) → j ≢ id → get_elem? views j ≡ some u
      → HandsAs B.contents after left B.progress append seats u.part u.hands u.role
  others_stay j u apart e = by u.role refl (B.in_hands j u e)
    where
      by : (ρ : Role) → u.role ≡ ρ → HandsAs B.contents lasting B.pending B.progress append seats
          u.part u.hands ρ → HandsAs B.contents after left B.progress append seats u.part u.hands ρ
      by (Opener k) is H = tt
      by Spent is H = tt
      by (Steps z) is H = let bare = others_free j z u apart e is in record {
        own = H.own;
        desk = λ h. absurd (false≢true (sym bare ∙ h));
        other = λ b h. absurd (let G = H.other b h in false≢true (sym bare ∙ G.holds));
        swept = λ l. absurd (let S = H.swept l in false≢true (sym bare ∙ S.holds));
      }

  own_desk : HandsAs B.contents after left B.progress append seats v'.part v'.hands v'.role
  own_desk = subst (HandsAs B.contents after left B.progress append seats v'.part v'.hands)
      (sym (role ∙ mine)) (record {
        own = λ g e. absurd (let q : None ≡ Some g = sym out ∙ e in cc);
        desk = λ _. desk;
        other = λ b e. absurd (let q : None ≡ Some b = sym empty' ∙ e in cc);
        swept = λ l. absurd (omega arith);
      })

  holds_now : (b : ℕ) → HoldsBox v b → HoldsBox v' b
  holds_now b h = subst (λ (q : Option ℕ × (Bool × (Option ℕ × Role))). HoldsAs q.0 q.1.0 q.1.1.0 b
      q.1.1.1) (λ i. (
        (was_out ∙ sym out) i,
        ((held ∙ sym still) i, ((empty ∙ sym empty') i, sym role i)),
      )) h

  desk_out : (b : ℕ) → b ≡ 0 → IsFree (set views id v') b → ⊥
  desk_out b is free = free id v' (set_here views id v' (inside_list views id v at))
      (subst (λ ρ. HoldsAs v'.part.append (is_some v'.part.sync) v'.hands.box_taken b ρ)
      (sym (role ∙ mine)) (inr (inl (still, is))))

  pub boxed_desk_turns : ((n : EntryNote) → Contains notes n
      → IsSomewhere (ends after.logged) left B.contents n)
      → ((n : EntryNote) → IsKept left B.contents n → Contains notes n)
      → ((k : ℕ) → ends_at k left ≤ ends_at k B.pending)
      → ((n : EntryNote) → IsKept left B.contents n → ¬ Contains (ends after.logged) n.end.0)
      → Boxed shows seats notes after claims append homes (set views id v')
  boxed_desk_turns noted sound fewer unlogged = record {
    contents = B.contents;
    stamp = B.stamp;
    pending = left;
    progress = B.progress;
    marked = B.marked;
    near = B.near;
    all = B.all;
    at_home = λ b l free. let h = same_homes (Fits shows B.contents lasting B.pending B.progress)
        (Fits shows B.contents lasting B.pending B.progress)
        (boxes seats) homes views id v v' at B.at_home (λ b h. holds_now b h)
        (λ b y f. f) b l free in
        (h.0, h.1, record { desk = λ is. absurd (desk_out b is free); notes = h.2.notes });
    in_hands = λ j u e. ⊎_elim
        (λ (t : (j ≡ id) × (v' ≡ u)). subst
        (λ (z : View). HandsAs B.contents after left B.progress append seats z.part z.hands
        z.role) t.1 own_desk)
        (λ (t : (j ≢ id) × (get_elem? views j ≡ some u)). others_stay j u t.0 t.1)
        (at_set views id j v' u e);
    noted = noted;
    stamped = B.stamped;
    within = B.within;
    sound = sound;
    alone = λ k b c apart. let f = fewer k in let a = B.alone k b c apart in omega arith;
    unlogged = unlogged;
  }
