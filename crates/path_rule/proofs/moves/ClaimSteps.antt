-- A writer claims the range of an entry.
use Rattle.std.proofs.Common.{◌≡◌, ◌≢◌, ℕ, ◌<◌, eqb, Some, None, refl, sym, ap, ◌∙◌, subst, arith}
use Rattle.std.specs.List.{Contains}
use Rattle.std.specs.Prelude.{slice_index, IsSome}
use Rattle.std.specs.Option.{option_map}
use Rattle.std.proofs.lemmas.Option.{same_Some}
use mathlib.Core.Logic.{inr}
use mathlib.Core.Option.{none, some}
use lib.ListN.{get_elem?}
use prog.Atomic.{either}
use Rattle.atomic_table.proofs.Lists.{exchanged}
use Rattle.atomic_table.specs.Table.{State, Me, step, Allows}
use Rattle.path_core.specs.declared.event.ClaimKind.TheVariants.{Entry}
use Rattle.path_core.specs.declared.event.Event.TheVariants.{Look, Claim}
use Rattle.path_core.specs.declared.event.Place.TheVariants.{Log}
use Rattle.path_core.specs.declared.note.EntryNote.{EntryNote}
use Rattle.path_core.specs.declared.seat.Range.{Range}
use Rattle.path_core.specs.declared.seat.Seat.{Seat as SeatOf}
use Rattle.path_core.specs.declared.state.Placed.{Placed}
use Rattle.path_core.specs.Allowed.{IsStep}
use Rattle.path_core.specs.Keys.{MovesLog, claim_start}
use Rattle.path_core.specs.Next.{next_of, claim_of}
use Rattle.path_core.proofs.frame.Runs.{past_sizes}
use Rattle.path_core.proofs.log.LogGrows.{claimed_above}
use Rattle.path_core.proofs.log.MarkerSteps.{last_marker_stays}
use Rattle.path_rule.specs.declared.lasting.Beside.{Beside}
use Rattle.path_rule.specs.declared.lasting.Lasting.{Lasting}
use Rattle.path_rule.specs.declared.slot.Slot.{Slot}
use Rattle.path_rule.specs.declared.view.PathSize.{PathSize}
use Rattle.path_rule.specs.declared.view.Role.TheVariants.{Steps}
use Rattle.path_rule.specs.declared.view.View.{View}
use Rattle.path_core.specs.Parts.{kept_of}
use Rattle.path_rule.specs.Boxes.{memtable_box}
use Rattle.path_rule.specs.Lasts.{shown}
use Rattle.path_rule.specs.Layout.{reading_at}
use Rattle.path_rule.specs.Memtables.{LiesAmong}
use Rattle.path_rule.specs.Rule.{start_of, told_by, view_after, Ruled}
use Rattle.path_rule.specs.Told.{Claimed, Made}
use Rattle.path_rule.proofs.boxes.HeldBoxes.{boxed_stay}
use Rattle.path_rule.proofs.boxes.MemtablesStay.{claimed_puts, runs_else}
use Rattle.path_rule.proofs.log.OwnWrites.{below_log}
use Rattle.path_rule.proofs.moves.Looks.{Owes, as_part, within, acts_with, look_owes}
use Rattle.path_rule.proofs.moves.Looks.{each_seat_name, own_part}
use Rattle.path_rule.proofs.moves.Moving.{core_lawful, known, place_still, puts_now, still_kept}
use Rattle.path_rule.proofs.moves.StepFacts.{claim_bars}
use Rattle.path_rule.proofs.places.ReadBack.{rows_stay}

module _ {K : Type 0} (shows : K → Lasting) (o : Beside) (size : PathSize) (slots id : ℕ)
    (m : Me (Slot K) View) (w : ℕ) (mine : m.0.role ≡ Steps w) where
  pub claims : (from to : ℕ) → IsSome m.0.part.write → IsSome m.0.part.append
      → m.0.part.claim ≡ None → MovesLog Entry m.0.size.capacity m.0.size.ordinals from to
      → Allows (Ruled shows o size) slots id m 32 (λ n. either (eqb n from) to n)
      (Claimed (step slots 32 from to none) m)
  claims from to write append claim moves s r _ there _ = let n = slice_index s.words 32 in
      let x = r.core in let found : n ≡ x.log = r.words Log tt in
      let then = Claimed (step slots 32 from to none) m n in
      exchanged n from to (λ z. Owes shows o size slots id m w mine s 32 z then)
      (λ hit. let e = Claim w (record { 0 = from }) (record { 0 = to }) Entry in
      let is = as_part shows o size slots id m w mine s r there in
      let v' = view_after m.0 e to in
      let may : IsStep x e = record {
        seat = within shows o size slots id m w mine s r there;
        is_there = tt;
        row = (
          subst (λ (p : SeatOf). IsSome p.write) is write,
          subst (λ (p : SeatOf). IsSome p.append) is append,
          own_part shows o size slots id m w mine s r there (λ (p : SeatOf). p.claim) None claim,
          sym hit ∙ found,
          sized_moves s r there,
        );
      } in
      acts_with shows o size slots id m w mine s r there e refl may tt tt tt
      tt (rows_stay x e may (λ q. q) r.rows) to to refl refl tt
      (λ C. boxed_stay shows size.seats x.notes (shown o size.at_open r.kept_to r.filed r.dropped x)
      x.claims
      (next_of x e).claims x.append x.append s.homes s.views r.boxed id w m.0 v' there mine refl
      refl refl (claim_bars x.claims (claim_of x.capacity w from to Entry) refl)
      (ap (option_map kept_of) (last_marker_stays x e (λ b. b))) C.append C.issue refl)
      (λ C. claimed_puts r.memtables.contents size.seats w m.0.part v'.part m.0.hands C.note
      (place_still shows o size s r id w m.0 there mine e (reading_at Log to)
      (told_by None m.0.hands) tt)
      (λ q t k c few. none_there s r t k few may q (sym C.claim ∙ c))
      (λ q a c put. unput s r there may q (sym C.claim ∙ c) a put)
      (puts_now shows o size s r id w m.0 there mine)) (still_kept shows o size s r e may tt refl)
      (λ C z t k q few h R. inr (runs_else s.views id m.0 v' there claim z q.end.0 R)) tt
      then (λ u. each_seat_name shows o size slots id m w mine (λ z. (n ≡ from
      → Made z (Claim z (record { 0 = from }) (record { 0 = to }) Entry) to m (v', m.1))
      × (n ≢ from → Made z (Look z Log) n m (v', m.1)))
      ((λ _. ((refl, u), refl)), (λ miss. absurd (miss hit)))))
      (λ miss. let v' = view_after m.0 (Look w Log) n in
      look_owes shows o size slots id m w mine s r there Log tt tt then (λ made _.
      each_seat_name shows o size slots id m w mine (λ z. (n ≡ from → Made z
      (Claim z (record { 0 = from }) (record { 0 = to }) Entry) to m (v', m.1))
      × (n ≢ from → Made z (Look z Log) n m (v', m.1)))
      ((λ hit. absurd (miss hit)), (λ _. made))))
    where
      -- no note ends where the claim does
      behind : (s : State (Slot K) View) (r : Ruled shows o size s)
          → IsStep r.core (Claim w (record { 0 = from }) (record { 0 = to }) Entry) → (q : Range)
          → Some (record { start = claim_start Entry from to; end = to }) ≡ Some q
          → (entry : ℕ) (n : EntryNote) → Contains r.core.notes n → n.end.0 ≡ entry
          → entry ≢ q.end
      behind s r may q is entry n among ends here = let x = r.core in
          let law = core_lawful shows o size s r in
          let low = below_log x law n among in
          let high = claimed_above x law.sized law.claims_tile_the_log w (record { 0 = from })
          (record { 0 = to }) may in
          let same : to ≡ q.end = ap (λ (z : Range). z.end)
          (same_Some (record { start = claim_start Entry from to; end = to }) q is) in
          absurd (omega arith)

      -- all that lies in a box ends at or below the log key, so below what is claimed now
      none_there : (s : State (Slot K) View) (r : Ruled shows o size s) (t k : ℕ) → t < 16
          → IsStep r.core (Claim w (record { 0 = from }) (record { 0 = to }) Entry) → (q : Range)
          → Some (record { start = claim_start Entry from to; end = to }) ≡ Some q
          → ¬ LiesAmong (r.memtables.contents (memtable_box size.seats w t k)) q.end
      none_there s r t k few may q is h = behind s r may q is q.end h.0
          (r.memtables.sound w t k h.0 few h.1).among h.2 refl

      -- so does what the seat put there
      unput : (s : State (Slot K) View) (r : Ruled shows o size s)
          → get_elem? s.views id ≡ some m.0
          → IsStep r.core (Claim w (record { 0 = from }) (record { 0 = to }) Entry) → (q : Range)
          → Some (record { start = claim_start Entry from to; end = to }) ≡ Some q
          → (a : Placed) → Contains m.0.hands.applied a → a.entry ≢ q.end
      unput s r there may q is a put = let N = r.memtables.noted id m.0 there a put in
          behind s r may q is a.entry N.0 N.1 N.2

      sized_moves : (s : State (Slot K) View) (r : Ruled shows o size s)
          → get_elem? s.views id ≡ some m.0 → MovesLog Entry r.core.capacity r.core.ordinals from to
      sized_moves s r there = let z = past_sizes r.events (start_of size) r.core r.run in
          let k = (known shows o size s r id w m.0 there mine).0 in
          subst (λ (q : ℕ × ℕ). MovesLog Entry q.0 q.1 from to)
          (λ i. (
            (ap (λ (q : PathSize). q.capacity) k ∙ sym z.capacity) i,
            (ap (λ (q : PathSize). q.ordinals) k ∙ sym z.ordinals) i,
          )) moves
