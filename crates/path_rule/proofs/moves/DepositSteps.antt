-- A writer leaves the append order with the note that it put into its box.
use Rattle.std.proofs.lemmas.Option.{same_Some}
use Rattle.op_core.specs.CountWords.{count_word}
use Rattle.op_core.proofs.CountWords.{less_word}
use Rattle.path_rule.proofs.places.ShownSteps.{group_shown}
use Rattle.std.proofs.Common.{◌≡◌, ◌≢◌, ℕ, ◌+◌, ◌-◌, ◌*◌, ◌%◌, ◌^◌, ◌<◌, Bool, false, true, List}
use Rattle.std.proofs.Common.{[], ◌∷◌, length, set, Option, Some, None, is_some, refl, sym, ap, ◌∙◌}
use Rattle.std.proofs.Common.{subst, ⊎_elim, arith}
use Rattle.std.specs.Prelude.{slice_index, ◌++◌, ◌==◌, ◌&&◌, is_none}
use Rattle.std.proofs.lemmas.Bool.{eq-eqb}
use Rattle.std.proofs.lemmas.List.{length-replicate}
use Rattle.std.specs.List.{Contains}
use Rattle.std.specs.Option.{option_map_or}
use mathlib.Core.Logic.{inl, inr}
use mathlib.Core.Option.{none, some}
use lib.ListN.{get_elem?}
use Rattle.atomic_table.specs.Table.{State, Me, step, gives, put_back, rest, Allows}
use Rattle.op_core.specs.declared.count.Order.TheVariants.{Append}
use Rattle.path_core.specs.declared.event.Carried.TheVariants.{Deposit}
use Rattle.path_core.specs.declared.event.Event.TheVariants.{Close}
use Rattle.path_core.specs.declared.event.Place.TheVariants.{Count}
use Rattle.path_core.specs.declared.event.Turn.TheVariants.{Sync}
use Rattle.path_core.specs.declared.note.EntryNote.{EntryNote}
use Rattle.path_core.specs.declared.seat.Range.{Range}
use Rattle.path_core.specs.declared.seat.Seat.{Seat as SeatOf}
use Rattle.path_core.specs.declared.state.Placed.{Placed}
use Rattle.path_core.specs.Allowed.{IsStep}
use Rattle.path_core.specs.LawfulLog.{entry_claim, is_undeposited, is_note_at}
use Rattle.path_core.specs.Next.{next_of}
use Rattle.path_core.specs.Parts.{tally_of, seat_of, fresh_table, fresh_seat}
use Rattle.path_core.specs.Whole.{IsWhole}
use Rattle.path_core.proofs.frame.Runs.{past_sizes}
use Rattle.path_core.proofs.frame.Seats.{some_left, group_made}
use Rattle.path_core.proofs.lists.Inserted.{insert_cases, insert_old, insert_new}
use Rattle.path_core.proofs.lists.Replaced.{counted_in, counted_some}
use Rattle.path_core.proofs.log.OwnNotes.{not_yet}
use Rattle.path_rule.specs.declared.lasting.Beside.{Beside}
use Rattle.path_rule.specs.declared.lasting.Lasting.{Lasting}
use Rattle.path_rule.specs.declared.slot.Slot.{Slot}
use Rattle.path_rule.specs.declared.slot.Slot.TheVariants.{Notes}
use Rattle.path_rule.specs.declared.view.PathSize.{PathSize}
use Rattle.path_rule.specs.declared.view.Role.TheVariants.{Steps}
use Rattle.path_rule.specs.declared.view.View.{View}
use Rattle.path_rule.specs.Boxed.{ends_at, Boxed}
use Rattle.path_rule.specs.Boxes.{box_of, boxes}
use Rattle.path_rule.specs.Lasts.{shown}
use Rattle.path_rule.specs.Layout.{reading_at}
use Rattle.path_rule.specs.Rule.{told_by, view_after, start_of, Knows, Ruled}
use Rattle.path_rule.specs.Told.{Deposited, MadeAs}
use Rattle.path_rule.proofs.boxes.MemtablesStay.{noted_puts, runs_still}
use Rattle.path_rule.proofs.boxes.NotePut.{boxed_put}
use Rattle.path_rule.proofs.log.KeptStays.{kept_same}
use Rattle.path_rule.proofs.log.Lending.{lasting_ends}
use Rattle.path_rule.proofs.moves.AppendSteps.{low_seat, own_low}
use Rattle.path_rule.proofs.moves.LeavesWrites.{FirstBelow}
use Rattle.path_rule.proofs.moves.Looks.{as_part, within, each_name, own_part}
use Rattle.path_rule.proofs.moves.Moving.{core_lawful, enough_boxes, known, was, plays_with}
use Rattle.path_rule.proofs.moves.Moving.{columns_now, memtables_then, place_still, puts_now}
use Rattle.path_rule.proofs.moves.Moving.{still_kept, reads_still}
use Rattle.path_rule.proofs.moves.StepFacts.{group_low, last_same, notes_first, lasting_note}
use Rattle.path_rule.proofs.places.ReadBack.{rows_stay}

module _ {K : Type 0} (shows : K → Lasting) (o : Beside) (size : PathSize) (slots id : ℕ)
    (m : Me (Slot K) View) (w : ℕ) (mine : m.0.role ≡ Steps w) where
  pub deposits : (g : ℕ) (note : EntryNote) (cs : List (ℕ × Slot K)) → m.0.part.append ≡ Some g
      → m.0.part.claim ≡ Some (record { start = note.start.0; end = note.end.0 })
      → note.writer.0 ≡ w → note.tables < 2 ^ m.0.size.tables → IsWhole note
      → m.1 ≡ (box_of w g, Notes (m.0.hands.notes ++ note ∷ [])) ∷ cs
      → Allows (Ruled shows o size) slots id m (136 + 16 * (g % 32))
      (λ n. (n + (2 ^ 64 - 1)) % 2 ^ 64)
      (Deposited (step slots (136 + 16 * (g % 32)) 1 0 none) m)
  deposits g note cs append claim writer tables whole holds s r _ there low = let n =
      slice_index s.words (136 + 16 * (g % 32)) in let x = r.core in let c = tally_of x Append g in
      let law = core_lawful shows o size s r in let e = Close w Append g (Deposit note) in
      let here = own_part shows o size slots id m w mine s r there (λ (p : SeatOf). p.append)
      (Some g) append in
      let fits = group_shown x law Append w g here in
      let found : n ≡ count_word g c = r.words (Count Append g) fits in
      let range = own_part shows o size slots id m w mine s r there (λ (p : SeatOf). p.claim)
      (Some (record { start = note.start.0; end = note.end.0 })) claim in
      let made = group_made x law Append w g here in let v' = view_after m.0 e n in
      let may : IsStep x e = record {
        seat = within shows o size slots id m w mine s r there;
        is_there = made;
        row = (
          here,
          record {
            range = range;
            writer = writer;
            tables_are_there = few_bits s r there
                note.tables tables;
          },
        );
      } in
      let now = ap (λ z. (z + (2 ^ 64 - 1)) % 2 ^ 64) found
      ∙ less_word g c (some_left x law Append w g here) (subst (λ z. z < 2 ^ 64) found low) in
      let rows = rows_stay x e may (λ q. q) r.rows in
      let C = columns_now shows o size s r id w m.0 there mine e refl may whole tt fits tt rows
      ((n + (2 ^ 64 - 1)) % 2 ^ 64) n None m.0.hands now refl in
      let P = puts_now shows o size s r id w m.0 there mine in
      let is = as_part shows o size slots id m w mine s r there in
      let rests = P.rests (ap (λ (p : SeatOf). p.note) is ∙ not_yet x law.orders w g here) in
      let below = subst (λ l. FirstBelow (boxes size.seats) l) (sym holds)
      (own_low shows o size slots id m w mine s r there g) in (
        v',
        gives,
        tt,
        plays_with shows o size s r id w m.0 there mine e refl may whole tt fits tt rows
            ((n + (2 ^ 64 - 1)) % 2 ^ 64) n None m.0.hands now refl tt refl m.1 gives
            (subst (λ (q : Lasting × List (ℕ × Slot K)). Boxed shows size.seats (next_of x e).notes
            q.0 x.claims (next_of x e).append (put_back s.homes q.1) (set s.views id v'))
            (λ i. (
              kept_same x law w g note may o size.at_open r.kept_to r.filed r.dropped
                  r.may_be_kept i,
              sym holds
                  i,
            ))
            (boxed_put shows size.seats x.notes (next_of x e).notes
            (shown o size.at_open r.kept_to r.filed r.dropped x)
            x.claims
            x.append
            (next_of x e).append s.homes s.views r.boxed id w m.0 v' there mine refl refl refl g
            note append C.append C.issue refl
            (no_turn s r there g append) (enough_boxes shows o size s r)
            (low_seat shows o size slots id m w mine s r there) writer
            (group_low x law Append w g here)
            ((law.orders.counts_stand_for_seats Append).nobody_below w g here)
            (λ i h l mark bar less. law.later_groups_log_above.markers i h g w
            (record { start = note.start.0; end = note.end.0 }) l mark bar here less range)
            (λ q in_it. ⊎_elim (λ old. inr old) (λ new. inl (sym new))
            (insert_cases x.notes _ note q in_it))
            (λ q in_it. insert_old x.notes _ note q in_it) (insert_new x.notes _ note)
            (unnoted s r there note append claim) (unlogged s r there note append claim)
            (λ j z u apart at is same. apart
            (sym (subst (λ ρ. Knows x r.events r.owner r.made r.boss j ρ u.part u.trail
            u.returned) is (r.each_seat j u at).1).0.1
            ∙ (ap r.owner same ∙ (known shows o size s r id w m.0 there mine).1.1)))))
            (memtables_then shows o size s r id w m.0 there mine e refl may whole tt fits tt rows
            ((n + (2 ^ 64 - 1)) % 2 ^ 64) n None m.0.hands now refl m.1 gives below refl refl refl
            (noted_puts r.memtables.contents size.seats w m.0.part v'.part m.0.hands rests C.claim
            (place_still shows o size s r id w m.0 there mine e (reading_at (Count Append g) n)
            (told_by None m.0.hands) tt) P)
            (still_kept shows o size s r e may tt refl)
            (λ z t k q few h R. inr (runs_still s.views id m.0 v' there refl C.claim z q.end.0 R))
            (λ t. tt))
            (reads_still shows o size s r id w m.0 there mine e refl may whole tt fits tt rows
            ((n + (2 ^ 64 - 1)) % 2 ^ 64) n None m.0.hands now refl tt refl),
        (λ z q other role mine' has. let same : note
            ≡ other = last_same m.0.hands.notes note other (ap notes_first (sym holds ∙ has)) in
            subst (λ p. MadeAs z (Close z Append q (Deposit p)) n m.0.hands m.0 v'
            × (rest m.1 ≡ rest m.1) × (m.0.hands.memtable_box ≡ None)
            × ((a : Placed) → Contains m.0.hands.applied a → a.entry ≢ p.end.0)) same
            (each_name shows o size slots id m w mine g
            (λ z q. MadeAs z (Close z Append q (Deposit note)) n m.0.hands m.0 v'
            × (rest m.1 ≡ rest m.1) × (m.0.hands.memtable_box ≡ None)
            × ((a : Placed) → Contains m.0.hands.applied a → a.entry ≢ note.end.0)) (
              (
                refl,
                was shows o size s r id w m.0 there mine e may
                    whole,
              ),
              refl,
              rests,
              λ a put ends. unput s r there note append claim a put ends,
            ) z q role (same_Some g q (sym append ∙ mine')))),
      )
    where
      few_bits : (s : State (Slot K) View) (r : Ruled shows o size s)
          → get_elem? s.views id ≡ some m.0 → (n : ℕ) → n < 2 ^ m.0.size.tables
          → n < 2 ^ length r.core.tables
      few_bits s r there n l = let z = past_sizes r.events (start_of size) r.core r.run in
          let k = (known shows o size s r id w m.0 there mine).0 in
          subst (λ (t : ℕ). n < 2 ^ t) (ap (λ (q : PathSize). q.tables) k
          ∙ sym (z.tables ∙ length-replicate size.tables fresh_table)) l

      -- the entry that the seat has claimed is not noted yet
      unnoted : (s : State (Slot K) View) (r : Ruled shows o size s)
          → get_elem? s.views id ≡ some m.0
          → (note : EntryNote) → m.0.part.append ≡ Some g
          → m.0.part.claim ≡ Some (record { start = note.start.0; end = note.end.0 })
          → ends_at note.end.0 r.core.notes ≡ 0
      unnoted s r there note append claim = let law = core_lawful shows o size s r in
          let x = r.core in
          let range = own_part shows o size slots id m w mine s r there (λ (p : SeatOf). p.claim)
          (Some (record { start = note.start.0; end = note.end.0 })) claim in
          let c = law.own_claim w (record { start = note.start.0; end = note.end.0 }) range in
          let one = law.each_claim_noted_once.once
          (entry_claim w note.start.0 note.end.0) c refl in
          let some = counted_some (is_undeposited note.end.0) x.seats fresh_seat refl w
          (ap (λ (q : Option Range). option_map_or
          (λ (k : Range). k.end == note.end.0) q false && is_none (seat_of x w).note) range
          ∙ (ap (λ (b : Bool). b && is_none (seat_of x w).note) (eq-eqb note.end.0 note.end.0 refl)
          ∙ ap (λ (q : Option ℕ). is_none q) (unwritten (seat_of x w).note refl))) in
          omega arith
        where
          unwritten : (o : Option ℕ) → (seat_of r.core w).note ≡ o → (seat_of r.core w).note ≡ None
          unwritten None e = e
          unwritten (Some t) e = absurd (let d =
              ((core_lawful shows o size s r).orders.orders_nest w).deposited t e in
              let q : Some g ≡ None = sym (own_part shows o size slots id m w mine s r there
              (λ (p : SeatOf). p.append)
              (Some g) append) ∙ d.0 in cc)

      -- so it is not lasting either
      unlogged : (s : State (Slot K) View) (r : Ruled shows o size s)
          → get_elem? s.views id ≡ some m.0 → (note : EntryNote) → m.0.part.append ≡ Some g
          → m.0.part.claim ≡ Some (record { start = note.start.0; end = note.end.0 })
          → ¬ Contains (lasting_ends r.core) note.end.0
      unlogged s r there note append claim h = let law = core_lawful shows o size s r in
          let t = lasting_note r.core note.end.0 h in
          absurd (let c = counted_in (is_note_at note.end.0) r.core.notes t.0 t.1
          (eq-eqb t.0.end.0 note.end.0 t.2) in let z = unnoted s r there note append claim in
          omega arith)

      -- so the seat has put it nowhere
      unput : (s : State (Slot K) View) (r : Ruled shows o size s)
          → get_elem? s.views id ≡ some m.0 → (note : EntryNote) → m.0.part.append ≡ Some g
          → m.0.part.claim ≡ Some (record { start = note.start.0; end = note.end.0 })
          → (a : Placed) → Contains m.0.hands.applied a → a.entry ≡ note.end.0 → ⊥
      unput s r there note append claim a put ends =
          let L = r.memtables.noted id m.0 there a put in
          absurd (let c = counted_in (is_note_at note.end.0) r.core.notes L.0 L.1
          (eq-eqb L.0.end.0 note.end.0 (L.2 ∙ ends)) in let z = unnoted s r there note append claim
          in omega arith)

      no_turn : (s : State (Slot K) View) (r : Ruled shows o size s)
          → get_elem? s.views id ≡ some m.0
          → (g : ℕ) → m.0.part.append ≡ Some g → is_some m.0.part.sync ≡ false
      no_turn s r there g append = by (is_some m.0.part.sync) refl
        where
          by : (b : Bool) → is_some m.0.part.sync ≡ b → b ≡ false
          by false e = refl
          by true e = absurd (let h = (core_lawful shows o size s
              r).orders.one_holder_a_turn.holder_is_idle Sync w
              (own_part shows o size slots id m w mine s r there
              (λ (p : SeatOf). is_some p.sync) true e) in
              let q : Some g ≡ None = sym (own_part shows o size slots id m w mine s r there
              (λ (p : SeatOf). p.append)
              (Some g) append) ∙ h.1 in cc)
