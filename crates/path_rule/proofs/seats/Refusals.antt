-- A call that was refused only looked.
use Rattle.std.proofs.Common.{◌⊎◌, ⊎_elim, ◌≤◌, ◌^◌, ◌≡◌, ◌≢◌, ℕ, length, refl, sym, ap, ◌∙◌, subst}
use Rattle.std.proofs.Common.{arith}
use mathlib.Core.Logic.{inl, inr}
use Rattle.op_core.specs.CountWords.{number_in}
use Rattle.op_core.specs.declared.count.Order.{Order}
use Rattle.path_core.specs.declared.event.Event.TheVariants.{Look}
use Rattle.path_core.specs.declared.event.Place.TheVariants.{Count, Current}
use Rattle.path_rule.specs.declared.view.View.{View}
use Rattle.path_rule.specs.Calls.{acts, FoundSince, Refused, looked_twice}
use Rattle.path_rule.specs.Rule.{view_after}

pub refused : (v0 v1 v2 v3 : View) (w w1 w2 : ℕ) (o : Order) (g k f : ℕ) → w1 ≡ w → w2 ≡ w
    → v1 ≡ view_after v0 (Look w (Current o)) g
    → v2 ≡ view_after v1 (Look w1 (Count o (number_in k))) k
    → v3 ≡ view_after v2 (Look w2 (Count o (number_in f))) f → f ≢ k
    → Refused v0 w o k f v3 × (acts v3.trail ≡ acts v0.trail)
    × ((x : ℕ) × FoundSince (length v0.trail) (Count o x) f v3.trail)
refused v0 v1 v2 v3 w w1 w2 o g k f n1 n2 e1 e2 e3 other =
    let two : v2 ≡ looked_twice v0 w o g k =
    e2 ∙ (λ i. view_after (e1 i) (Look (n1 i) (Count o (number_in k))) k) in
    let all : v3 ≡ view_after (looked_twice v0 w o g k) (Look w (Count o (number_in f))) f =
    e3 ∙ (λ i. view_after (two i) (Look (n2 i) (Count o (number_in f))) f) in (
      record { group = g; view = inr all; cause = inr (inr other) },
      ap (λ (v : View). acts v.trail) all,
      (
        number_in f,
        subst (λ (v : View). FoundSince (length v0.trail) (Count o (number_in f)) f v.trail)
            (sym all)
            (inl (omega arith, refl, refl)),
      ),
    )

-- the same where the word that it looked at was expired, or of another group
pub refused_at_once : (v0 v1 v2 : View) (w w1 : ℕ) (o : Order) (g k : ℕ) → w1 ≡ w
    → v1 ≡ view_after v0 (Look w (Current o)) g
    → v2 ≡ view_after v1 (Look w1 (Count o (number_in k))) k → (2 ^ 63 ≤ k) ⊎ (number_in k ≢ g)
    → Refused v0 w o k k v2 × (acts v2.trail ≡ acts v0.trail)
    × ((x : ℕ) × FoundSince (length v0.trail) (Count o x) k v2.trail)
refused_at_once v0 v1 v2 w w1 o g k n1 e1 e2 why =
    let two : v2 ≡ looked_twice v0 w o g k =
    e2 ∙ (λ i. view_after (e1 i) (Look (n1 i) (Count o (number_in k))) k) in (
      record {
        group = g;
        view = inl two;
        cause = ⊎_elim (λ (high : 2 ^ 63 ≤ k). inl high) (λ (other : number_in k ≢ g). inr
            (inl other)) why;
      },
      ap (λ (v : View). acts v.trail) two,
      (
        number_in k,
        subst (λ (v : View). FoundSince (length v0.trail) (Count o (number_in k)) k v.trail)
            (sym two) (inl (omega arith, refl, refl)),
      ),
    )
