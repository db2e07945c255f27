-- The boxes, under other views that have the same ones.
use Rattle.std.proofs.Common.{◌≡◌, ℕ, Bool, List, Option, Some, None, is_some, subst, ⊎_elim}
use Rattle.std.proofs.lemmas.Bool.{false≢true}
use mathlib.Core.Option.{some}
use mathlib.Core.Option as maybe
use lib.ListN.{get_elem?}
use Rattle.path_core.specs.declared.note.EntryNote.{EntryNote}
use Rattle.path_core.specs.declared.state.Claim.{Claim}
use Rattle.path_core.specs.declared.state.OrderGroups.{OrderGroups}
use Rattle.path_rule.specs.declared.lasting.Lasting.{Lasting}
use Rattle.path_rule.specs.declared.slot.Slot.{Slot}
use Rattle.path_rule.specs.declared.view.Role.{Role}
use Rattle.path_rule.specs.declared.view.Role.TheVariants.{Opener, Steps, Spent}
use Rattle.path_rule.specs.declared.view.View.{View}
use Rattle.path_rule.specs.Boxed.{HandsAs, Boxed}
use Rattle.path_rule.specs.Boxes.{HoldsAs, HoldsBox, IsFree}

-- the boxes, under other views that have the same boxes
pub reboxed : {K : Type 0} (shows : K → Lasting) (seats : ℕ) (notes : List EntryNote)
    (lasting : Lasting) (claims : List Claim) (append : OrderGroups)
    (homes : List (maybe.Option (Slot K))) (views after : List View)
    (B : Boxed shows seats notes lasting claims append homes views)
    → ((b : ℕ) → IsFree after b → IsFree views b)
    → ((j : ℕ) (u : View) → get_elem? after j ≡ some u
    → HandsAs B.contents lasting B.pending B.progress append seats u.part u.hands u.role)
    → Boxed shows seats notes lasting claims append homes after
reboxed shows seats notes lasting claims append homes views after B free hands = record {
  contents = B.contents;
  stamp = B.stamp;
  pending = B.pending;
  progress = B.progress;
  marked = B.marked;
  near = B.near;
  all = B.all;
  at_home = λ b l f. B.at_home b l (free b f);
  in_hands = hands;
  noted = B.noted;
  stamped = B.stamped;
  within = B.within;
  sound = B.sound;
  alone = B.alone;
  unlogged = B.unlogged;
}

pub holds_none : (u : View) → u.part.append ≡ None → u.part.sync ≡ None → u.hands.box_taken ≡ None
    → (b : ℕ) → ¬ HoldsBox u b
holds_none u outside bare empty b h = by_role u.role h
  where
    by_role : (ρ : Role) → HoldsAs u.part.append (is_some u.part.sync) u.hands.box_taken b ρ → ⊥
    by_role (Opener k) h = h
    by_role Spent h = h
    by_role (Steps w) h = ⊎_elim (λ a. a)
        (λ d. ⊎_elim (λ e. false≢true e.0)
        (λ (e : None ≡ Some b). absurd (let q : None ≡ Some b = e in cc)) d)
        (subst (λ (q : Option ℕ × (Bool × Option ℕ)). HoldsAs q.0 q.1.0 q.1.1 b (Steps w))
        (λ i. (outside i, (is_some (bare i), empty i))) h)
