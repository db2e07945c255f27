-- A table's Flush turn that a seat holds is held until the seat gives it back.
use Rattle.std.proofs.Common.{◌≡◌, ◌≢◌, ℕ, Bool, true, false, cond, is_some, refl, sym, ap, ◌∙◌}
use Rattle.std.specs.Prelude.{◌==◌}
use Rattle.std.proofs.lemmas.Bool.{ne_eqb}
use Rattle.path_core.specs.declared.event.Event.{Event}
use Rattle.path_core.specs.declared.event.Event.TheVariants.{GiveTurn, TakeTurn}
use Rattle.path_core.specs.declared.event.Turn.TheVariants.{Flush, Sync}
use Rattle.path_core.specs.declared.seat.Seat.{Seat}
use Rattle.path_core.specs.Parts.{seat_table}
use Rattle.path_core.proofs.seats.Columns.{flush_after, Columns}

-- The step does not give the turn of the table back.
abbrev pub LeavesTurn : ℕ → Event → Type 0
LeavesTurn t (GiveTurn by (Flush u)) = t ≢ u.0
LeavesTurn t _ = Unit {0}

taken_held : (b : Bool) → cond b true true ≡ true
taken_held true = refl
taken_held false = refl

held_after : (e : Event) (t : ℕ) → LeavesTurn t e → flush_after t true e ≡ true
held_after (TakeTurn by (Flush u)) t leaves = taken_held (u.0 == t)
held_after (TakeTurn by Sync) t leaves = refl
held_after (GiveTurn by (Flush u)) t leaves =
    ap (λ (b : Bool). cond b false true) (ne_eqb u.0 t (λ same. leaves (sym same)))
held_after (GiveTurn by Sync) t leaves = refl
held_after e t leaves = refl

pub held_stays : (e : Event) (s p : Seat) → Columns e s p → (t : ℕ) → LeavesTurn t e
    → is_some (seat_table s t).flush ≡ true → is_some (seat_table p t).flush ≡ true
held_stays e s p C t leaves held = C.flush t
    ∙ (ap (λ (b : Bool). flush_after t b e) held ∙ held_after e t leaves)
