-- A seat that does not hold the Sync turn has no box of another seat.
use Rattle.std.proofs.Common.{◌≡◌, ℕ, Option, Some, None, is_some, IsTrue, refl, subst}
use Rattle.std.proofs.lemmas.Bool.{false≢true}
use mathlib.Core.Option.{some}
use lib.ListN.{get_elem?}
use Rattle.atomic_table.specs.Table.{State}
use Rattle.path_rule.specs.declared.lasting.Beside.{Beside}
use Rattle.path_rule.specs.declared.lasting.Lasting.{Lasting}
use Rattle.path_rule.specs.declared.slot.Slot.{Slot}
use Rattle.path_rule.specs.declared.view.PathSize.{PathSize}
use Rattle.path_rule.specs.declared.view.Role.TheVariants.{Steps}
use Rattle.path_rule.specs.declared.view.View.{View}
use Rattle.path_rule.specs.Boxed.{HandsAs}
use Rattle.path_rule.specs.Lasts.{shown}
use Rattle.path_rule.specs.Rule.{Ruled}

module _ {K : Type 0} (shows : K → Lasting) (o : Beside) (size : PathSize) (s : State (Slot K) View)
    (r : Ruled shows o size s) (id w : ℕ) (v : View) where
  pub untaken : get_elem? s.views id ≡ some v → v.role ≡ Steps w → v.part.sync ≡ None
      → v.hands.box_taken ≡ None
  untaken at role free = by_box v.hands.box_taken refl
    where
      by_box : (o : Option ℕ) → v.hands.box_taken ≡ o → v.hands.box_taken ≡ None
      by_box None e = e
      by_box (Some b) e = let h = subst (λ ρ. HandsAs r.boxed.contents
          (shown o size.at_open r.kept_to r.filed r.dropped r.core) r.boxed.pending r.boxed.progress
          r.core.append size.seats v.part v.hands ρ) role (r.boxed.in_hands id v at) in
          absurd (false≢true (subst (λ q. IsTrue (is_some q)) free (h.other b e).holds))
