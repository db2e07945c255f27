-- That a key without room was found in a call stays so while its seat goes on.
use Rattle.std.proofs.Common.{
  ◌≡◌,
  ℕ,
  ◌≤◌,
  List,
  [],
  ◌∷◌,
  Some,
  length,
  refl,
  subst,
  sym,
  ⊎_elim,
  arith,
}
use mathlib.Core.Logic.{inl, inr}
use Rattle.op_core.specs.declared.count.Order.{Order}
use Rattle.op_core.specs.declared.count.Order.TheVariants.{Write, Append}
use Rattle.path_core.specs.declared.event.Carried.TheVariants.{Nothing}
use Rattle.path_core.specs.declared.event.Event.TheVariants.{Close}
use Rattle.path_core.specs.declared.event.Place.{Place}
use Rattle.path_rule.specs.declared.view.OwnStep.{OwnStep}
use Rattle.path_rule.specs.declared.view.PathSize.{PathSize}
use Rattle.path_rule.specs.declared.view.View.{View}
use Rattle.path_rule.specs.Calls.{Did, FoundSince}
use Rattle.path_rule.specs.Rule.{view_after}
use Rattle.write_path.specs.Claims.{IsSpent}
use Rattle.write_path.specs.Commits.{HasNoRoom}
use Rattle.path_flush.specs.Grown.{HasGrown}
use Rattle.write_path.proofs.Growing.{no_shorter}

-- what was found behind more steps was found behind fewer
pub found_since : (a b : ℕ) → a ≤ b → (at : Place) (n : ℕ) (ts : List OwnStep) → FoundSince b at n
    ts
    → FoundSince a at n ts
found_since a b le at n [] F = F
found_since a b le at n (t ∷ ts) F = ⊎_elim
    (λ now. inl (let l = now.0 in omega arith, now.1, now.2))
    (λ older. inr (found_since a b le at n ts older)) F

pub room_since : (size : PathSize) (bytes a b key : ℕ) (v : View) → a ≤ b
    → HasNoRoom size bytes b key v → HasNoRoom size bytes a key v
room_since size bytes a b key v le R = record {
  none = R.none;
  found = R.found;
  now = found_since a b le _ key v.trail R.now;
  looked = R.looked;
}

-- a seat that leaves an order with nothing still tells it
pub room_behind : (size : PathSize) (bytes since key w g n : ℕ) (o : Order) (v after : View)
    → Did v w (Close w o g Nothing) n after → HasNoRoom size bytes since key v
    → HasNoRoom size bytes since key after
room_behind size bytes since key w g n o v after D R =
    subst (HasNoRoom size bytes since key) (sym D.view) (record {
      none = R.none;
      found = by_order o;
      now = inr R.now;
      looked = inr R.looked;
    })
  where
    by_order : (o : Order) → (view_after v (Close w o g Nothing) n).part.found.log ≡ Some key
    by_order Write = R.found
    by_order Append = R.found

-- A try to claim that found no room finds it in this call, however far the call had come.
pub no_room_here : (size : PathSize) (bytes key w : ℕ) (before : List OwnStep) (v after : View)
    → HasGrown before v.trail → IsSpent size v w bytes key after
    → HasNoRoom size bytes (length before) key after
no_room_here size bytes key w before v after G S =
    subst (HasNoRoom size bytes (length before) key) (sym S.view) (record {
      none = S.none;
      found = refl;
      now = inl (no_shorter before v.trail G, refl, refl);
      looked = inl (refl, refl);
    })
