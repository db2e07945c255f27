-- A writer leaves the write order once its write was accepted at each of its tables.
use Rattle.op_core.specs.CountWords.{count_word}
use Rattle.op_core.proofs.CountWords.{less_word}
use Rattle.path_rule.proofs.places.ShownSteps.{group_shown}
use Rattle.std.proofs.Common.{◌≡◌, ℕ, ◌+◌, ◌-◌, ◌*◌, ◌%◌, ◌^◌, ◌<◌, true, Option, Some, None}
use Rattle.std.proofs.Common.{IsTrue, List, [], ◌∷◌, zero, suc, get_or, arith, refl, sym, ap, ◌∙◌}
use Rattle.std.proofs.Common.{subst, ⊎_elim}
use Rattle.std.specs.List.{Contains}
use Rattle.std.specs.Option.{option_map_or}
use Rattle.std.specs.Prelude.{slice_index}
use Rattle.std.proofs.lemmas.List.Elements.{Contains-append_right}
use Rattle.std.proofs.lemmas.Option.{none-some, same_Some}
use mathlib.Core.Logic.{dite, inl, inr}
use mathlib.Core.Option.{none, some, some-injective}
use native.Mathlib.Decide.{ℕ_discrete}
use lib.ListN.{get_elem?}
use Rattle.atomic_table.specs.Table.{State, Me, step, Allows}
use Rattle.op_core.specs.declared.count.Order.TheVariants.{Write}
use Rattle.path_core.specs.declared.event.Carried.TheVariants.{Applied}
use Rattle.path_core.specs.declared.event.Event.TheVariants.{Close}
use Rattle.path_core.specs.declared.event.Place.TheVariants.{Count}
use Rattle.clog_base.specs.declared.cell.Table.{Table}
use Rattle.path_core.specs.declared.note.EntryNote.{EntryNote}
use Rattle.path_core.specs.declared.seat.Range.{Range}
use Rattle.path_core.specs.declared.seat.Seat.{Seat as SeatOf}
use Rattle.path_core.specs.declared.seat.SeatTable.{SeatTable}
use Rattle.path_core.specs.declared.state.Placed.{Placed}
use Rattle.path_core.specs.Allowed.{IsStep, IsItsPlaces}
use Rattle.path_core.specs.LawfulTables.{may_touch}
use Rattle.path_core.specs.Next.{end_of_claim, next_of, places_from}
use Rattle.path_core.specs.Parts.{seat_of, seat_table, tally_of, touches, untouched}
use Rattle.path_core.proofs.frame.Seats.{some_left, group_made}
use Rattle.path_core.proofs.lists.Heads.{first_in, later_in}
use Rattle.path_core.proofs.places.Closing.{own_place, placed_was}
use Rattle.path_core.proofs.runs.EveryRun.{placing_of}
use Rattle.path_rule.specs.declared.lasting.Beside.{Beside}
use Rattle.path_rule.specs.declared.lasting.Lasting.{Lasting}
use Rattle.path_rule.specs.declared.slot.Slot.{Slot}
use Rattle.path_rule.specs.declared.view.PathSize.{PathSize}
use Rattle.path_rule.specs.declared.view.Role.TheVariants.{Steps}
use Rattle.path_rule.specs.declared.view.View.{View}
use Rattle.path_rule.specs.Accepted.{places_of, IsPlaced}
use Rattle.path_rule.specs.Applying.{AreApplied}
use Rattle.path_rule.specs.Boxes.{memtable_box}
use Rattle.path_rule.specs.Lasts.{shown}
use Rattle.path_rule.specs.Memtables.{IsPlacedIn, IsRunning, LiesAmong}
use Rattle.path_rule.specs.Rule.{Ruled, view_after}
use Rattle.path_rule.specs.Told.{Made, Finished}
use Rattle.path_rule.proofs.boxes.HeldBoxes.{boxed_stay}
use Rattle.path_rule.proofs.boxes.MemtablesStay.{closed_puts, runs_there}
use Rattle.path_rule.proofs.boxes.ReadsStay.{place_live}
use Rattle.path_rule.proofs.moves.AppendSteps.{low_seat}
use Rattle.path_rule.proofs.moves.Looks.{as_part, within, acts_with, each_name}
use Rattle.path_rule.proofs.moves.Moving.{core_lawful, kept_before, puts_now, LiesPlaced}
use Rattle.path_rule.proofs.moves.StepFacts.{same_seat}
use Rattle.path_rule.proofs.places.ReadBack.{rows_stay}
use Rattle.path_rule.proofs.seats.Placing.{its_places}

-- A place of a seat is among those of its tables.
place_among : (first entry : ℕ) (ss : List SeatTable) (t k : ℕ)
    → (get_or ss t untouched).place ≡ Some k
    → Contains (places_from first entry ss) (record {
      table = first + t;
      entry = entry;
      memtable = k;
    })
place_among first entry [] t k e = absurd (none-some k e)
place_among first entry (s ∷ ss) zero k e = subst (λ (o : Option ℕ). Contains
    (option_map_or (λ (m : ℕ). record { table = first; entry = entry; memtable = m }
    ∷ places_from (first + 1) entry ss) o (places_from (first + 1) entry ss))
    (record { table = first + 0; entry = entry; memtable = k })) (sym e)
    (subst (λ (n : ℕ). Contains (record { table = first; entry = entry; memtable = k }
    ∷ places_from (first + 1) entry ss) (record { table = n; entry = entry; memtable = k }))
    (omega arith) (first_in (record { table = first; entry = entry; memtable = k })
    (places_from (first + 1) entry ss)))
place_among first entry (s ∷ ss) (suc t) k e = by s.place
    (subst (λ (n : ℕ). Contains (places_from (first + 1) entry ss)
    (record { table = n; entry = entry; memtable = k })) (omega arith)
    (place_among (first + 1) entry ss t k e))
  where
    by : (o : Option ℕ) → Contains (places_from (first + 1) entry ss)
        (record { table = first + suc t; entry = entry; memtable = k }) → Contains
        (option_map_or (λ (m : ℕ). record { table = first; entry = entry; memtable = m }
        ∷ places_from (first + 1) entry ss) o (places_from (first + 1) entry ss))
        (record { table = first + suc t; entry = entry; memtable = k })
    by None h = h
    by (Some m) h = later_in (record { table = first; entry = entry; memtable = m }) _
        (places_from (first + 1) entry ss) h

module _ {K : Type 0} (shows : K → Lasting) (o : Beside) (size : PathSize) (slots id : ℕ)
    (m : Me (Slot K) View) (w : ℕ) (mine : m.0.role ≡ Steps w) where
  pub finishes : (g : ℕ) → m.0.part.write ≡ Some g → m.0.part.append ≡ None → IsPlaced m.0.part
      → AreApplied m.0.part m.0.hands → m.0.hands.memtable_box ≡ None
      → Allows (Ruled shows o size) slots id m (128 + 16 * (g % 32))
      (λ n. (n + (2 ^ 64 - 1)) % 2 ^ 64)
      (Finished (step slots (128 + 16 * (g % 32)) 1 0 none) m)
  finishes g write append placed applied rests s r _ there low =
      let i : ℕ = 128 + 16 * (g % 32) in let n = slice_index s.words i in
      let x = r.core in let c = tally_of x Write g in
      let places = places_of m.0.part in
      let e = Close w Write g (Applied places) in
      let is = as_part shows o size slots id m w mine s r there in
      let here = ap (λ (p : SeatOf). p.write) (sym is) ∙ write in
      let fits = group_shown x (core_lawful shows o size s r) Write w g here in
      let found : n ≡ count_word g c = r.words (Count Write g) fits in
      let made = group_made x (core_lawful shows o size s r) Write w g here in
      let v' = view_after m.0 e n in
      let may : IsStep x e = record {
        seat = within shows o size slots id m w mine s r there;
        is_there = made;
        row = (
          here,
          (
            ap (λ (p : SeatOf). p.append) (sym is) ∙ append,
            subst (λ (p : SeatOf). IsItsPlaces p places) is (its_places m.0.part placed),
          ),
        );
      } in
      acts_with shows o size slots id m w mine s r there e refl may tt tt fits
      tt (rows_stay x e may (λ q. q) r.rows)
      ((n + (2 ^ 64 - 1)) % 2 ^ 64) n
      (ap (λ z. (z + (2 ^ 64 - 1)) % 2 ^ 64) found
      ∙ less_word g c (some_left x (core_lawful shows o size s r) Write w g here)
      (subst (λ z. z < 2 ^ 64) found low)) refl tt
      (λ C. boxed_stay shows size.seats x.notes
      (shown o size.at_open r.kept_to r.filed r.dropped x) x.claims x.claims x.append x.append
      s.homes s.views r.boxed
      id w m.0 v' there mine refl refl refl (λ i g l _ _. (l, refl)) refl C.append C.issue refl)
      (λ C. closed_puts r.memtables.contents size.seats w m.0.part v'.part m.0.hands rests C.claim
      (puts_now shows o size s r id w m.0 there mine))
      (λ p h live. ⊎_elim (λ old. r.memtables.kept p old (kept_before shows o size s r e may tt p
      live)) (λ new. lies s r there placed applied p new) (placed_was x e p h))
      (λ C z t k q few h R. dite (ℕ_discrete R.id id)
      (λ same. inl (placed_now s r there (places_of m.0.part) g z t k q few h R same))
      (λ apart. inr (runs_there s.views id m.0 v' there z q.end.0 R apart))) tt
      (Finished (step slots i 1 0 none) m n)
      (λ u z h role mine'. each_name shows o size slots id m w mine g
      (λ z h. Made z (Close z Write h (Applied places)) n m (v', m.1))
      ((refl, u), refl) z h role (same_Some g h (sym write ∙ mine')))
    where
      from_zero : (n : ℕ) → 0 + n ≡ n
      from_zero n = omega arith

      -- what lies in the seat's boxes of its write is placed by the close
      placed_now : (s : State (Slot K) View) (r : Ruled shows o size s)
          → get_elem? s.views id ≡ some m.0 → (places : List (Table × ℕ)) (g z t k : ℕ)
          (n : EntryNote) → t < 16
          → Contains (r.memtables.contents (memtable_box size.seats z t k)) n
          → (R : IsRunning s.views z n.end.0) → R.id ≡ id
          → let y = next_of r.core (Close w Write g (Applied places)) in
          IsPlacedIn y.placed y.tables t k n.end.0
      placed_now s r there places g z t k n few h R same =
          let x = r.core in let law = core_lawful shows o size s r in
          let is = as_part shows o size slots id m w mine s r there in
          let one : R.view ≡ m.0 = some-injective R.view m.0
          (sym R.there ∙ (ap (get_elem? s.views) same ∙ there)) in
          let seat : w ≡ z = same_seat m.0.role w z mine
          (ap (λ (v : View). v.role) (sym one) ∙ R.role) in
          let claim : m.0.part.claim ≡ Some R.range =
          ap (λ (v : View). v.part.claim) (sym one) ∙ R.claim in
          let P = puts_now shows o size s r id w m.0 there mine in
          let H = P.running R.range t k claim few (
            n,
            subst (λ (y : ℕ).
                Contains (r.memtables.contents (memtable_box size.seats y t k)) n) (sym seat) h,
            sym R.ends,
          ) in
          let at = ap (λ (p : SeatOf). (seat_table p H.put.table).place) (sym is)
          ∙ P.placed H.put R.range H.among claim H.ends in
          let place : (seat_table (seat_of x w) t).place ≡ Some H.put.memtable =
          ap (λ (y : ℕ). (seat_table (seat_of x w) y).place) (sym H.table) ∙ at in
          let end : end_of_claim (seat_of x w) ≡ n.end.0 =
          ap (λ (c : Option Range). option_map_or (λ (q : Range). q.end) c 0)
          (ap (λ (p : SeatOf). p.claim) (sym is) ∙ claim) ∙ R.ends in
          let p : Placed = record {
            table = t;
            entry = end_of_claim (seat_of x w);
            memtable = H.put.memtable;
          } in record {
            memtable = H.put.memtable;
            ring = H.ring;
            among = subst (λ (q : ℕ). Contains
                (next_of x (Close w Write g (Applied places))).placed
                (record { table = t; entry = q; memtable = H.put.memtable })) end
                (Contains-append_right x.placed _ p
                (subst (λ (q : ℕ). Contains (places_from 0 (end_of_claim (seat_of x w))
                (seat_of x w).tables) (record {
                  table = q;
                  entry = end_of_claim (seat_of x w);
                  memtable = H.put.memtable;
                })) (from_zero t)
                (place_among 0 (end_of_claim (seat_of x w)) (seat_of x w).tables t H.put.memtable
                place)));
            late = (let live = (place_live x law w t H.put.memtable place).0 in omega arith);
          }

      -- what the close places lies in the seat's boxes
      lies : (s : State (Slot K) View) (r : Ruled shows o size s) → get_elem? s.views id ≡ some m.0
          → IsPlaced m.0.part → AreApplied m.0.part m.0.hands → (p : Placed)
          → Contains (places_from 0 (end_of_claim (seat_of r.core w)) (seat_of r.core w).tables) p
          → LiesPlaced shows o size s r p
      lies s r there placed applied p h =
          let x = r.core in let law = core_lawful shows o size s r in
          let is = as_part shows o size slots id m w mine s r there in
          let I = own_place x (placing_of x law) w p h in
          let noted = ap (λ (n : Option ℕ). option_map_or (λ (k : ℕ). k) n 0) placed.deposited in
          let touched = subst (λ (k : ℕ). IsTrue (touches k p.table)) (sym noted)
          (subst (λ (n : Option ℕ). IsTrue (option_map_or (λ (k : ℕ). touches k p.table) n true))
          placed.deposited (subst (λ (q : SeatOf). IsTrue (may_touch q p.table)) (sym is)
          I.touched)) in
          let A = applied.each p.table touched in
          let m_is = same_Some A.0 p.memtable (sym A.1
          ∙ (ap (λ (q : SeatOf). (seat_table q p.table).place) is ∙ I.place)) in
          let range_is = same_Some applied.range I.range (sym applied.claimed
          ∙ (ap (λ (q : SeatOf). q.claim) is ∙ I.claim)) in
          let end_is = ap (λ (q : Range). q.end) range_is ∙ sym I.entry in record {
            by = w;
            inside = low_seat shows o size slots id m w mine s r there;
            lies = subst (λ (q : ℕ × ℕ). LiesAmong (r.memtables.contents
                (memtable_box size.seats w p.table q.0)) q.1) (λ i. (m_is i, end_is i))
                ((puts_now shows o size s r id w m.0 there mine).applied
                (record { table = p.table; entry = applied.range.end; memtable = A.0 })
                applied.range A.2 applied.claimed refl);
          }
