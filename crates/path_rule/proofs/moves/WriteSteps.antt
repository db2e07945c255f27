-- A writer joins a group of the write order, and leaves it.
use Rattle.std.proofs.Common.{◌≡◌, ◌≢◌, ℕ, ◌+◌, ◌-◌, ◌*◌, ◌%◌, ◌^◌, ◌<◌, eqb, Some, None, refl, sym}
use Rattle.std.proofs.Common.{ap, ◌∙◌, subst, arith}
use Rattle.std.specs.Prelude.{slice_index}
use mathlib.Core.Logic.{inl, inr}
use mathlib.Core.Option.{none}
use prog.Atomic.{either}
use Rattle.atomic_table.proofs.Lists.{exchanged}
use Rattle.atomic_table.specs.Table.{Me, step, Allows}
use Rattle.op_core.proofs.CountWords.{less_word, more_word}
use Rattle.op_core.specs.CountWords.{count_word, number_in}
use Rattle.op_core.specs.declared.count.Order.TheVariants.{Write}
use Rattle.std.proofs.lemmas.Option.{same_Some}
use Rattle.path_core.specs.declared.event.Carried.TheVariants.{Nothing}
use Rattle.path_core.specs.declared.event.Event.TheVariants.{Look, Register, Close}
use Rattle.path_core.specs.declared.event.Place.TheVariants.{Count}
use Rattle.path_core.specs.declared.seat.Seat.{Seat as SeatOf}
use Rattle.path_core.specs.Allowed.{IsStep}
use Rattle.path_core.specs.Parts.{tally_of, found_of, HoldsNoTurn, IsIdle}
use Rattle.path_core.proofs.frame.Seats.{some_left, group_made}
use Rattle.path_core.proofs.log.OwnNotes.{no_note}
use Rattle.path_rule.specs.declared.lasting.Beside.{Beside}
use Rattle.path_rule.specs.declared.lasting.Lasting.{Lasting}
use Rattle.path_rule.specs.declared.slot.Slot.{Slot}
use Rattle.path_rule.specs.declared.view.PathSize.{PathSize}
use Rattle.path_rule.specs.declared.view.Role.TheVariants.{Steps}
use Rattle.path_rule.specs.declared.view.View.{View}
use Rattle.path_rule.specs.Lasts.{shown}
use Rattle.path_rule.specs.Rule.{Ruled, view_after}
use Rattle.path_rule.specs.Told.{Made, Registered, Stopped as StoppedBy}
use Rattle.path_rule.proofs.boxes.HeldBoxes.{boxed_stay}
use Rattle.path_rule.proofs.boxes.MemtablesStay.{closed_puts, runs_else}
use Rattle.path_rule.proofs.moves.Looks.{Owes, as_part, within, below, acts, acts_with, look_owes}
use Rattle.path_rule.proofs.moves.Looks.{each_name}
use Rattle.path_rule.proofs.moves.Moving.{core_lawful, puts_now, still_kept}
use Rattle.path_rule.proofs.places.ReadBack.{rows_stay}
use Rattle.path_rule.proofs.places.ShownSteps.{group_shown, number_shows}

module _ {K : Type 0} (shows : K → Lasting) (o : Beside) (size : PathSize) (slots id : ℕ)
    (m : Me (Slot K) View) (w : ℕ) (mine : m.0.role ≡ Steps w) where
  pub registers : (g k : ℕ) → IsIdle m.0.part → HoldsNoTurn m.0.part
      → (found_of Write m.0.part).current ≡ Some g → number_in k ≡ g → k < 2 ^ 63
      → Allows (Ruled shows o size) slots id m (128 + 16 * (g % 32))
      (λ n. either (eqb n k) (k + 1) n)
      (Registered (step slots (128 + 16 * (g % 32)) k (k + 1) none) m)
  registers g k idle bare saw number low s r _ there _ =
      let i : ℕ = 128 + 16 * (g % 32) in let n = slice_index s.words i in
      let x = r.core in let c = tally_of x Write g in
      let then = Registered (step slots i k (k + 1) none) m n in
      exchanged n k (k + 1) (λ z. Owes shows o size slots id m w mine s i z then)
      (λ hit. let e = Register w Write g in
      let is = as_part shows o size slots id m w mine s r there in
      let made = below shows o size slots id m w mine s r there (Count Write g) (inl saw) in
      let fits = number_shows x (core_lawful shows o size s r) r.rows s.words r.words Write g made
      (ap number_in hit ∙ number) in
      let found : n ≡ count_word g c = r.words (Count Write g) fits in
      let more = more_word g c (omega arith) in let v' = view_after m.0 e (k + 1) in
      let may : IsStep x e = record {
        seat = within shows o size slots id m w mine s r there;
        is_there = made;
        row = (
          subst HoldsNoTurn is bare,
          subst IsIdle is idle,
          ap (λ p. (found_of Write p).current)
              (sym is) ∙ saw,
          more.0,
        );
      } in
      acts shows o size slots id m w mine s r there e refl may tt tt fits
      tt (rows_stay x e may (λ q. q) r.rows) (k + 1) (k + 1)
      (sym (more.1 ∙ ap (λ z. z + 1) (sym found ∙ hit))) refl tt
      (λ C. boxed_stay shows size.seats x.notes
      (shown o size.at_open r.kept_to r.filed r.dropped x) x.claims x.claims x.append x.append
      s.homes s.views r.boxed id w m.0 v'
      there
      mine refl refl refl (λ i g l _ _. (l, refl)) refl C.append C.issue refl)
      tt tt then (λ u z h role word told. each_name shows o size slots id m w mine g
      (λ z h. (n ≡ k → Made z (Register z Write h) (k + 1) m (v', m.1))
      × (n ≢ k → Made z (Look z (Count Write (number_in n))) n m (v', m.1)))
      ((λ _. ((refl, u), refl)), (λ miss. absurd (miss hit))) z h role (sym number ∙ told)))
      (λ miss. let v' = view_after m.0 (Look w (Count Write (number_in n))) n in
      look_owes shows o size slots id m w mine s r there (Count Write g) tt (inl saw) then
      (λ made _ z h role word told.
      each_name shows o size slots id m w mine g
      (λ z h. (n ≡ k → Made z (Register z Write h) (k + 1) m (v', m.1))
      × (n ≢ k → Made z (Look z (Count Write (number_in n))) n m (v', m.1)))
      ((λ hit. absurd (miss hit)), (λ _. made)) z h role (sym number ∙ told)))

  pub stops : (g : ℕ) → m.0.part.write ≡ Some g → m.0.part.append ≡ None → m.0.part.claim ≡ None
      → Allows (Ruled shows o size) slots id m (128 + 16 * (g % 32))
      (λ n. (n + (2 ^ 64 - 1)) % 2 ^ 64)
      (StoppedBy (step slots (128 + 16 * (g % 32)) 1 0 none) m)
  stops g write append claim s r _ there low =
      let i : ℕ = 128 + 16 * (g % 32) in let n = slice_index s.words i in
      let x = r.core in let c = tally_of x Write g in
      let e = Close w Write g Nothing in let is = as_part shows o size slots id m w mine s r there
      in
      let here = ap (λ (p : SeatOf). p.write) (sym is) ∙ write in
      let fits = group_shown x (core_lawful shows o size s r) Write w g here in
      let found : n ≡ count_word g c = r.words (Count Write g) fits in
      let made = group_made x (core_lawful shows o size s r) Write w g here in
      let v' = view_after m.0 e n in
      let may : IsStep x e = record {
        seat = within shows o size slots id m w mine s r there;
        is_there = made;
        row = (
          here,
          (
            ap (λ (p : SeatOf). p.append) (sym is)
                ∙ append,
            ap (λ (p : SeatOf). p.claim) (sym is) ∙ claim,
          ),
        );
      } in
      let rest = (puts_now shows o size s r id w m.0 there mine).rests
      (ap (λ (p : SeatOf). p.note) is
      ∙ no_note x (core_lawful shows o size s r).orders w (ap (λ (p : SeatOf). p.claim) (sym is)
      ∙ claim)) in
      acts_with shows o size slots id m w mine s r there e refl may tt tt fits
      tt (rows_stay x e may (λ q. q) r.rows)
      ((n + (2 ^ 64 - 1)) % 2 ^ 64) n
      (ap (λ z. (z + (2 ^ 64 - 1)) % 2 ^ 64) found
      ∙ less_word g c (some_left x (core_lawful shows o size s r) Write w g here)
      (subst (λ z. z < 2 ^ 64) found low)) refl tt
      (λ C. boxed_stay shows size.seats x.notes
      (shown o size.at_open r.kept_to r.filed r.dropped x) x.claims x.claims x.append x.append
      s.homes s.views r.boxed id w m.0 v'
      there
      mine refl refl refl (λ i g l _ _. (l, refl)) refl C.append C.issue refl)
      (λ C. closed_puts r.memtables.contents size.seats w m.0.part v'.part m.0.hands rest C.claim
      (puts_now shows o size s r id w m.0 there mine)) (still_kept shows o size s r e may tt refl)
      (λ C z t k q few h R. inr (runs_else s.views id m.0 v' there claim z q.end.0 R)) tt
      (StoppedBy (step slots i 1 0 none) m n)
      (λ u z h role mine'. each_name shows o size slots id m w mine g
      (λ z h. Made z (Close z Write h Nothing) n m (v', m.1))
      ((refl, u), refl) z h role (same_Some g h (sym write ∙ mine')))
