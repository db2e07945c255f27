-- The key at which a memtable was made final is that at which it is found so.
use Rattle.std.proofs.Common.{◌≡◌, ◌≤◌, ℕ, List, [], ◌∷◌, inl, inr, sym, ap, ◌∙◌, ⊎_elim, arith}
use Rattle.path_core.specs.declared.event.Event.{Event}
use Rattle.path_core.specs.declared.event.Event.TheVariants.{Look, Register, Close, OpenGroup}
use Rattle.path_core.specs.declared.event.Event.TheVariants.{MoveCurrent, Expire, Advance, Claim}
use Rattle.path_core.specs.declared.event.Event.TheVariants.{Switch as SwitchStep, Raise, Finalise}
use Rattle.path_core.specs.declared.event.Event.TheVariants.{TakeTurn, GiveTurn, Put}
use Rattle.path_core.specs.declared.seat.Seat.{Seat}
use Rattle.path_core.specs.declared.state.Bound.{Bound}
use Rattle.path_core.specs.declared.state.Bound.TheVariants.{Final}
use Rattle.path_core.specs.Parts.{key_of_bound, seat_table}
use Rattle.path_rule.specs.declared.view.OwnStep.{OwnStep}
use Rattle.path_rule.specs.declared.view.View.{View}
use Rattle.path_rule.specs.FilingTold.{FoundFinal}
use Rattle.path_rule.specs.FindsBounds.{FindsFinal, FindsFinalBy}
use Rattle.path_rule.specs.Rule.{Was}
use Rattle.path_flush.specs.FlushSteps.{Finalises, FinalisesBy}

set_finds : (w t m key : ℕ) (e : Event) (n : ℕ) → FinalisesBy w t m key e n
    → FindsFinalBy t m key e n
set_finds w t m key (Finalise by table memtable) n F = (F.1, F.2, F.3)
set_finds w t m key (Look by at) n F = absurd F
set_finds w t m key (OpenGroup by o g) n F = absurd F
set_finds w t m key (MoveCurrent by o g) n F = absurd F
set_finds w t m key (Expire by o g) n F = absurd F
set_finds w t m key (Advance by o g) n F = absurd F
set_finds w t m key (Claim by from to what) n F = absurd F
set_finds w t m key (TakeTurn by turn) n F = absurd F
set_finds w t m key (GiveTurn by turn) n F = absurd F
set_finds w t m key (Put by cursor value) n F = absurd F
set_finds w t m key (Register by o g) n F = absurd F
set_finds w t m key (Close by o g carried) n F = absurd F
set_finds w t m key (SwitchStep by u k part) n F = absurd F
set_finds w t m key (Raise by u k to) n F = absurd F

pub final_finds : (w t m key : ℕ) (ts : List OwnStep) → Finalises w t m key ts
    → FindsFinal t m key ts
final_finds w t m key [] F = absurd F
final_finds w t m key (s ∷ ss) F =
    ⊎_elim (λ now. inl (set_finds w t m key s.event s.found now))
    (λ older. inr (final_finds w t m key ss older)) F

pub same_final : (v : View) (w : ℕ) (e : Event) (t m key upper : ℕ) → Was v w e
    → Finalises w t m key v.trail → FoundFinal t v.part m upper → upper ≡ key
same_final v w e t m key upper was F B =
    let known = (was.lawful.seats_know w).bounds t
    (record { memtable = m; bound = Final (record { 0 = upper }) })
    (ap (λ (q : Seat). (seat_table q t).bound) (sym was.part) ∙ B) in
    ap (λ (b : Bound). key_of_bound b)
    (sym known.stays ∙ was.tells.final t m key (final_finds w t m key v.trail F))

-- It lies at or below the log key.
pub final_below : (v : View) (w : ℕ) (e : Event) (t m upper : ℕ) → (was : Was v w e)
    → FoundFinal t v.part m upper → upper ≤ was.core.log
final_below v w e t m upper was B =
    let known = (was.lawful.seats_know w).bounds t
    (record { memtable = m; bound = Final (record { 0 = upper }) })
    (ap (λ (q : Seat). (seat_table q t).bound) (sym was.part) ∙ B) in
    let is = ap (λ (b : Bound). key_of_bound b) known.stays in
    let low = (was.lawful.switches.tables t).bounds_rise.below_log m in omega (arith, is, low)
