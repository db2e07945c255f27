-- A try to move the oldest group on: what it found at its three looks, and its step behind them.
use Rattle.std.proofs.Common.{◌*◌, ◌+◌, ◌≡◌, ◌≢◌, ℕ, suc, ◌^◌, List, ◌∷◌, length, refl, sym, ap}
use Rattle.std.proofs.Common.{◌∙◌, subst, arith, None}
use mathlib.Core.Logic.{inl, inr}
use Rattle.op_core.specs.declared.count.Order.{Order}
use Rattle.path_core.specs.declared.event.Event.{Event}
use Rattle.path_core.specs.declared.event.Event.TheVariants.{Look, Advance}
use Rattle.path_core.specs.declared.event.Place.TheVariants.{Count, Current, Oldest}
use Rattle.path_rule.specs.declared.view.OwnStep.{OwnStep}
use Rattle.path_rule.specs.declared.view.View.{View}
use Rattle.path_rule.specs.Calls.{Did, FoundSince, acts}
use Rattle.path_rounds.specs.Passes.{HasMovedOn, RunsStill}

abbrev step : Event → ℕ → OwnStep
step e n = record { event = e; found = n; filed = None }

-- one step more in front
grown : (v : View) (w : ℕ) (e : Event) (n : ℕ) (after : View) (ts : List OwnStep)
    → Did v w e n after → v.trail ≡ ts → after.trail ≡ step e n ∷ ts
grown v w e n after ts D is = ap (λ (u : View). u.trail) D.view
    ∙ ap (λ (l : List OwnStep). step e n ∷ l) is

-- The looks at the current group, at the oldest one, and at its count.
module _ (o : Order) (w w1 w2 current group count : ℕ) (v v1 v2 v3 : View)
    (first : Did v w (Look w (Current o)) current v1)
    (second : Did v1 w1 (Look w1 (Oldest o)) group v2)
    (third : Did v2 w2 (Look w2 (Count o group)) count v3) where
  abbrev looks : List OwnStep
  looks = step (Look w2 (Count o group)) count ∷ step (Look w1 (Oldest o)) group
      ∷ step (Look w (Current o)) current ∷ v.trail

  behind : v3.trail ≡ looks
  behind = grown v2 w2 (Look w2 (Count o group)) count v3 _ third
      (grown v1 w1 (Look w1 (Oldest o)) group v2 _ second
      (grown v w (Look w (Current o)) current v1 v.trail first refl))

  found_oldest : FoundSince (length v.trail) (Oldest o) group looks
  found_oldest = inr (inl (omega arith, refl, refl))

  found_count : FoundSince (length v.trail) (Count o group) count looks
  found_count = inl (omega arith, refl, refl)

  pub runs_still : count ≢ 65536 * group + 2 ^ 63 → RunsStill o group count v v3
  runs_still unfinished = record {
    oldest = subst (FoundSince (length v.trail) (Oldest o) group) (sym behind) found_oldest;
    found = subst (FoundSince (length v.trail) (Count o group) count) (sym behind) found_count;
    unfinished = unfinished;
    only = ap acts behind;
  }

  pub has_moved_on : (w3 to : ℕ) (v4 : View) → count ≡ 65536 * group + 2 ^ 63 → to ≡ suc group
      → w3 ≡ w
      → Did v3 w3 (Advance w3 o to) to v4 → HasMovedOn o w to v v4
  has_moved_on w3 to v4 finished next same D =
      let last = grown v3 w3 (Advance w3 o to) to v4 looks D behind in record {
        before = group;
        next = next;
        oldest = subst (FoundSince (length v.trail) (Oldest o) group) (sym last)
            (inr found_oldest);
        finished = subst (FoundSince (length v.trail) (Count o group) (65536 * group + 2 ^ 63))
            (sym last)
            (inr (subst (λ n. FoundSince (length v.trail) (Count o group) n looks) finished
            found_count));
        looked = v3;
        only = ap acts behind;
        did = subst (λ (k : ℕ). Did v3 k (Advance k o to) to v4) same D;
      }
