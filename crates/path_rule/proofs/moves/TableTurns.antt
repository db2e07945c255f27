-- A table's Flush turn is taken and given back.
use Rattle.std.proofs.Common.{◌≡◌, ◌≢◌, ℕ, ◌+◌, ◌*◌, ◌<◌, eqb, Bool, true, false, cond, Option}
use Rattle.std.proofs.Common.{Some, None, is_some, refl, sym, ap, ◌∙◌, subst, ⊎_elim, arith}
use Rattle.std.specs.Prelude.{slice_index, ◌⊎◌}
use Rattle.std.specs.List.{list_any}
use Rattle.std.specs.Option.{option_map}
use Rattle.std.proofs.lemmas.Option.{none-some}
use mathlib.Core.Option.{none, some}
use lib.ListN.{get_elem?}
use prog.Atomic.{either}
use Rattle.atomic_table.proofs.Lists.{exchanged}
use Rattle.atomic_table.specs.Table.{State, Me, step, Allows}
use Rattle.clog_base.specs.declared.cell.Table.{Table}
use Rattle.op_core.specs.declared.count.Order.TheVariants.{Write}
use Rattle.op_core.specs.Tallies.{IsPassed}
use Rattle.path_core.specs.declared.event.Event.TheVariants.{Look, TakeTurn, GiveTurn}
use Rattle.path_core.specs.declared.event.Place.TheVariants.{TurnWord}
use Rattle.path_core.specs.declared.event.Reading.TheVariants.{Number}
use Rattle.path_core.specs.declared.event.Turn.TheVariants.{Flush}
use Rattle.path_core.specs.declared.seat.FlushTurn.{FlushTurn}
use Rattle.path_core.specs.declared.seat.Seat.{Seat}
use Rattle.path_core.specs.declared.seat.Switching.{Switching}
use Rattle.path_core.specs.declared.seat.Switching.TheVariants.{Settled, WithBarrier}
use Rattle.path_core.specs.declared.state.PathState.{PathState}
use Rattle.path_core.specs.Allowed.{IsSettled, IsStep}
use Rattle.path_core.specs.Lawful.{IsLawfulPath}
use Rattle.path_core.specs.Parts.{holds_turn, seat_of, seat_table, stage_of, IsIdle}
use Rattle.path_core.proofs.frame.Seats.{current_is_made}
use Rattle.path_core.proofs.frame.Turns.{unheld}
use Rattle.path_core.proofs.tables.StageTells.{through_by_stage}
use Rattle.path_rule.specs.declared.lasting.Beside.{Beside}
use Rattle.path_rule.specs.declared.lasting.Lasting.{Lasting}
use Rattle.path_rule.specs.declared.slot.Slot.{Slot}
use Rattle.path_rule.specs.declared.view.PathSize.{PathSize}
use Rattle.path_rule.specs.declared.view.Role.TheVariants.{Steps}
use Rattle.path_rule.specs.declared.view.View.{View}
use Rattle.path_rule.specs.Lasts.{shown}
use Rattle.path_rule.specs.Rule.{Ruled, view_after}
use Rattle.path_rule.specs.Reads.{ReadsHeld}
use Rattle.path_rule.specs.Switches.{MayGiveFlush, ReadsNone}
use Rattle.path_rule.specs.TableTold.{FlushGiven, FlushTaken}
use Rattle.path_rule.specs.Told.{Made}
use Rattle.path_rule.specs.Turns.{FoundPast}
use Rattle.path_rule.proofs.boxes.HeldBoxes.{boxed_stay}
use Rattle.path_rule.proofs.moves.Looks.{Owes, acts, as_part, few_tables, look_owes, own_part}
use Rattle.path_rule.proofs.moves.Looks.{within}
use Rattle.path_rule.proofs.moves.Moving.{core_lawful, reads_now}
use Rattle.path_rule.proofs.moves.StepFacts.{known_groups, same_seat}
use Rattle.path_rule.proofs.places.ReadBack.{rows_stay}

-- the word of a turn is 0 or 1
one_held : (n : ℕ) (b : Bool) → n ≡ cond b 1 0 → n ≢ 0 → n ≡ 1
one_held n true is miss = is
one_held n false is miss = absurd (miss is)

-- a turn that is at a stage is held
pub held_at : (o : Option FlushTurn) (k : Switching)
    → option_map (λ (turn : FlushTurn). turn.stage) o ≡ Some k → is_some o ≡ true
held_at None k e = absurd (none-some k e)
held_at (Some turn) k e = refl

-- a group below one that was found as the oldest is passed
pub past_is_passed : (x : PathState) → IsLawfulPath x → (w g : ℕ) → FoundPast (seat_of x w) g
    → IsPassed x.write.tallies g
past_is_passed x L w g past =
    let low = (known_groups x L Write w).oldest past.0 past.1 in
    let below = past.2 in let more = current_is_made x L Write in
    let old = (L.orders.made_groups Write).oldest in record {
      made = omega arith;
      finished = λ h le. ((L.orders.counts_stand_for_seats Write).each h).below_oldest (omega
          arith);
    }

module _ {K : Type 0} (shows : K → Lasting) (o : Beside) (size : PathSize) (slots id : ℕ)
    (m : Me (Slot K) View) (w : ℕ) (mine : m.0.role ≡ Steps w) where
  -- a step told for every number that the seat and the table may go by
  pub each_table_name : (k : ℕ) (t : Table) (P : ℕ → Table → Type 0) → P w t → (z : ℕ) (u : Table)
      → m.0.role ≡ Steps z → k + 4 * t.0 ≡ k + 4 * u.0 → P z u
  each_table_name k t P p z u role is = let same : t.0 ≡ u.0 = omega arith in
      subst (λ (q : ℕ × ℕ). P q.0 (record { 0 = q.1 }))
      (λ i. (same_seat m.0.role w z mine role i, same i)) p

  pub takes_flush : (t : Table) → t.0 < 16 → t.0 < m.0.size.tables → IsIdle m.0.part
      → Allows (Ruled shows o size) slots id m (65 + 4 * t.0) (λ n. either (eqb n 0) 1 n)
      (FlushTaken (step slots (65 + 4 * t.0) 0 1 none) m)
  takes_flush t few inside idle s r _ there _ =
      let i : ℕ = 65 + 4 * t.0 in let n = slice_index s.words i in let x = r.core in
      let then = FlushTaken (step slots i 0 1 none) m n in
      exchanged n 0 1 (λ z. Owes shows o size slots id m w mine s i z then)
      (λ hit. let e = TakeTurn w (Flush t) in
      let v' = view_after m.0 e 1 in
      let is = as_part shows o size slots id m w mine s r there in
      let reads : ReadsHeld m.0 = λ q has.
      (reads_now shows o size s r id w m.0 there mine q has).held in
      let free = unheld x (Flush t) (ap Number (sym (r.words (TurnWord (Flush t)) few) ∙ hit)) in
      let may : IsStep x e = record {
        seat = within shows o size slots id m w mine s r there;
        is_there = few_tables shows o size slots id m w mine s r there t.0 inside;
        row = (subst IsIdle is idle, free);
      } in
      acts shows o size slots id m w mine s r there e refl may tt tt few
      tt (rows_stay x e may (λ q. q) r.rows) 1 1 refl refl tt
      (λ C. boxed_stay shows size.seats x.notes
      (shown o size.at_open r.kept_to r.filed r.dropped x) x.claims x.claims x.append x.append
      s.homes s.views r.boxed
      id w m.0 v' there mine refl refl refl (λ i g l _ _. (l, refl)) refl C.append C.issue refl)
      tt tt then (λ u z q role _ word. each_table_name 65 t
      (λ z q. (n ≡ 0 → Made z (TakeTurn z (Flush q)) 1 m (v', m.1) × ReadsHeld m.0)
      × (n ≢ 0 → Made z (Look z (TurnWord (Flush q))) n m (v', m.1) × (n ≡ 1)))
      ((λ _. (((refl, u), refl), reads)), (λ miss. absurd (miss hit))) z q role word))
      (λ miss. let v' = view_after m.0 (Look w (TurnWord (Flush t))) n in
      look_owes shows o size slots id m w mine s r there (TurnWord (Flush t)) few inside then
      (λ made _ z q role _ word. each_table_name 65 t
      (λ z q. (n ≡ 0 → Made z (TakeTurn z (Flush q)) 1 m (v', m.1) × ReadsHeld m.0)
      × (n ≢ 0 → Made z (Look z (TurnWord (Flush q))) n m (v', m.1) × (n ≡ 1))) (
        (λ hit. absurd (miss hit)),
        (λ _. (
          made,
          one_held n (list_any (λ (p : Seat). holds_turn p (Flush t)) x.seats)
              (r.words (TurnWord (Flush t)) few) miss,
        )),
      ) z q role word))

  module _ (s : State (Slot K) View) (r : Ruled shows o size s)
      (there : get_elem? s.views id ≡ some m.0) where
    at_stage : (t : ℕ) (k : Switching) → stage_of m.0.part t ≡ Some k
        → stage_of (seat_of r.core w) t ≡ Some k
    at_stage t k = own_part shows o size slots id m w mine s r there (λ (p : Seat). stage_of p t)
        (Some k)

    -- the newest switch is through, as the holder's part tells
    pub settled : (t : ℕ) → MayGiveFlush t m.0
        → (is_some (seat_table (seat_of r.core w) t).flush ≡ true) × IsSettled r.core t
    settled t through = let L = core_lawful shows o size s r in ⊎_elim
        (λ (k : (stage_of m.0.part t ≡ Some Settled) × ReadsNone t m.0.hands).
        let now = at_stage t Settled k.0 in (
          held_at (seat_table (seat_of r.core w) t).flush Settled now,
          (through_by_stage r.core L w t Settled now).1 tt,
        ))
        (λ (k : (f g : ℕ) × (stage_of m.0.part t ≡ Some (WithBarrier f g)) × FoundPast m.0.part g
        × ReadsNone t m.0.hands).
        let stage : Switching = WithBarrier k.0 k.1 in
        let now = at_stage t stage k.2 in (
          held_at (seat_table (seat_of r.core w) t).flush stage now,
          (through_by_stage r.core L w t stage now).1 (past_is_passed r.core L w k.1
              (subst (λ (p : Seat). FoundPast p k.1)
              (as_part shows o size slots id m w mine s r there) k.3)),
        )) through

    -- and no memtable of the table is read
    reads_none : (t : ℕ) → MayGiveFlush t m.0 → ReadsNone t m.0.hands
    reads_none t may = ⊎_elim
        (λ (k : (stage_of m.0.part t ≡ Some Settled) × ReadsNone t m.0.hands). k.1)
        (λ (k : (f g : ℕ) × (stage_of m.0.part t ≡ Some (WithBarrier f g)) × FoundPast m.0.part g
        × ReadsNone t m.0.hands). k.4) may

  pub gives_flush : (t : Table) → t.0 < 16 → t.0 < m.0.size.tables → MayGiveFlush t.0 m.0
      → Allows (Ruled shows o size) slots id m (65 + 4 * t.0) (λ _. 0)
      (λ _. FlushGiven (step slots (65 + 4 * t.0) 0 0 none) m 0)
  gives_flush t few inside through s r _ there _ = let x = r.core in
      let e = GiveTurn w (Flush t) in let v' = view_after m.0 e 0 in
      let may : IsStep x e = record {
        seat = within shows o size slots id m w mine s r there;
        is_there = few_tables shows o size slots id m w mine s r there t.0 inside;
        row = settled s r there t.0 through;
      } in
      acts shows o size slots id m w mine s r there e refl may tt tt few
      tt (rows_stay x e may (λ q. q) r.rows) 0 0 refl refl tt
      (λ C. boxed_stay shows size.seats x.notes
      (shown o size.at_open r.kept_to r.filed r.dropped x) x.claims x.claims x.append x.append
      s.homes s.views r.boxed
      id w m.0 v' there mine refl refl refl (λ i g l _ _. (l, refl)) refl C.append C.issue refl)
      tt (reads_none s r there t.0 through)
      (FlushGiven (step slots (65 + 4 * t.0) 0 0 none) m 0)
      (λ u z q role _ word. each_table_name 65 t
      (λ z q. Made z (GiveTurn z (Flush q)) 0 m (v', m.1)) ((refl, u), refl) z q role word)
