-- The bound of a memtable is raised: by a write that tries it, or by the holder of the table's
-- turn.
use Rattle.std.proofs.Common.{◌%◌, ◌≡◌, ◌≢◌, ℕ, ◌+◌, ◌*◌, ◌^◌, ◌<◌, ◌≤◌, max, length, Option, Some}
use Rattle.std.proofs.Common.{None, IsSome, refl, sym, ap, ◌∙◌, subst, ◌⊎◌, arith}
use Rattle.std.specs.Prelude.{slice_index}
use Rattle.std.proofs.lemmas.Bool.{false≢true}
use Rattle.std.proofs.lemmas.Option.{same_Some}
use mathlib.Core.Logic.{inl}
use mathlib.Core.Option.{none, some}
use lib.ListN.{get_elem?}
use Rattle.atomic_table.specs.Table.{State, Me, step, Allows}
use Rattle.clog_base.specs.declared.cell.Table.{Table}
use Rattle.path_core.specs.declared.event.Event.TheVariants.{Raise}
use Rattle.path_core.specs.declared.event.Place.TheVariants.{Bound}
use Rattle.path_core.specs.declared.seat.Range.{Range}
use Rattle.path_core.specs.declared.seat.Seat.{Seat}
use Rattle.path_core.specs.declared.state.Bound.{Bound as BoundOf}
use Rattle.path_core.specs.declared.state.Bound.TheVariants.{Live, Raising, Final}
use Rattle.path_core.specs.declared.state.PathState.{PathState}
use Rattle.path_core.specs.Allowed.{IsStep, RaisesAsHolder, RaisesAsWriter}
use Rattle.path_core.specs.LawfulSeats.{BoundStays}
use Rattle.path_core.specs.Parts.{memtable_of, seat_of, seat_table, table_of}
use Rattle.path_core.specs.SeatAfter.{seat_after}
use Rattle.path_core.specs.SeatParts.{raised_to}
use Rattle.path_core.specs.Words.{reading}
use Rattle.path_rule.specs.declared.lasting.Beside.{Beside}
use Rattle.path_rule.specs.declared.lasting.Lasting.{Lasting}
use Rattle.path_rule.specs.declared.slot.Slot.{Slot}
use Rattle.path_rule.specs.declared.view.PathSize.{PathSize}
use Rattle.path_rule.specs.declared.view.Role.TheVariants.{Steps}
use Rattle.path_rule.specs.declared.view.View.{View}
use Rattle.path_rule.specs.Lasts.{shown}
use Rattle.path_rule.specs.Layout.{IsNear, bound_word, reading_at, word_of}
use Rattle.path_rule.specs.Rule.{Ruled, Was, told_by, view_after}
use Rattle.path_rule.specs.TableTold.{BoundRaised}
use Rattle.path_rule.specs.Told.{Made}
use Rattle.path_rule.proofs.boxes.HeldBoxes.{boxed_stay}
use Rattle.path_rule.proofs.log.OwnWrites.{below_log}
use Rattle.path_rule.proofs.moves.Looks.{acts, as_part, few_tables, own_part, within}
use Rattle.path_rule.proofs.moves.Moving.{core_lawful, was}
use Rattle.path_rule.proofs.moves.StepFacts.{same_seat}
use Rattle.path_rule.specs.Turns.{KnowsNear}
use Rattle.path_rule.proofs.places.SamePlace.{same_near}
use Rattle.path_rule.proofs.places.ShownSteps.{knows_near, tries_near}
use Rattle.path_rule.proofs.places.ReadBack.{log_small, bound_read, rows_stay}

-- the greater of the two words is the word of the raised bound
raised_word : (b : BoundOf) (to : ℕ) → b ≢ Live → to < 2 ^ 62
    → max (bound_word b) (to + 2 ^ 62) ≡ bound_word (raised_to to b)
raised_word Live to above low = absurd (above refl)
raised_word (Raising k) to above low = omega arith
raised_word (Final k) to above low = omega arith

-- a bound that was not live is live no more
never_live : (b : BoundOf) → b ≢ Live → (now : BoundOf) → BoundStays b now → now ≢ Live
never_live Live above now stays = λ e. above refl
never_live (Raising k) above Live stays = λ e. stays
never_live (Raising k) above (Raising j) stays = λ e. cc
never_live (Raising k) above (Final j) stays = λ e. cc
never_live (Final k) above now stays = λ e. let q = sym e ∙ stays in cc

-- a note that is there
noted_of : (o : Option ℕ) → IsSome o → (n : ℕ) × (o ≡ Some n)
noted_of None h = absurd (false≢true h)
noted_of (Some n) h = (n, refl)

-- What a raise of seat w asks of the state.
pub record RaisesNow (x : PathState) (w t f to : ℕ) : Type 0 where
  pub made : f < length (table_of x t).memtables
  pub above : (memtable_of x t f).bound ≢ Live
  pub low : to ≤ x.log
  pub near : IsNear x t f
  pub raiser : RaisesAsWriter (seat_of x w) t f to ⊎ RaisesAsHolder (seat_of x w) t f to

module _ {K : Type 0} (shows : K → Lasting) (o : Beside) (size : PathSize) (slots id : ℕ)
    (m : Me (Slot K) View) (w : ℕ) (mine : m.0.role ≡ Steps w) where
  -- a step told for every number that the seat, the table, the memtable and the key may go by
  pub each_bound_name : (t : Table) (f to : ℕ) (P : ℕ → Table → ℕ → ℕ → Type 0) → P w t f to
      → (z : ℕ) (u : Table) (h key : ℕ) → m.0.role ≡ Steps z → t.0 ≡ u.0 → f ≡ h → to ≡ key
      → P z u h key
  each_bound_name t f to P p z u h key role a b same =
      subst (λ (q : ℕ × (ℕ × (ℕ × ℕ))). P q.0 (record { 0 = q.1.0 }) q.1.1.0 q.1.1.1)
      (λ i. (same_seat m.0.role w z mine role i, (a i, (b i, same i)))) p

  -- of two memtables with words that are near, and share one, the tables and numbers are the same
  pub same_word : (s : State (Slot K) View) (r : Ruled shows o size s)
      → get_elem? s.views id ≡ some m.0 → (t u : Table) (f h : ℕ) → t.0 < 16 → u.0 < 16
      → IsNear r.core t.0 f → KnowsNear m.0.part u.0 h
      → 640 + 16 * (f % 4) + t.0 ≡ 640 + 16 * (h % 4) + u.0 → (t.0 ≡ u.0) × (f ≡ h)
  same_word s r there t u f h few low near known is =
      let a : t.0 ≡ u.0 = omega arith in let L = core_lawful shows o size s r in
      let part = as_part shows o size slots id m w mine s r there in (
        a,
        same_near r.core L t.0 f h near (subst (λ (k : ℕ). IsNear r.core k h) (sym a)
            (knows_near r.core L w u.0 h (subst (λ (p : Seat). KnowsNear p u.0 h) part known)))
            (omega arith),
      )

  pub raises : (t : Table) (f to : ℕ) → t.0 < 16 → t.0 < m.0.size.tables
      → ((s : State (Slot K) View) (r : Ruled shows o size s) → get_elem? s.views id ≡ some m.0
      → RaisesNow r.core w t.0 f to)
      → Allows (Ruled shows o size) slots id m (640 + 16 * (f % 4) + t.0) (λ n. max n (to + 2 ^ 62))
      (BoundRaised (step slots (640 + 16 * (f % 4) + t.0) (to + 2 ^ 62) 0 none) m)
  raises t f to few inside now s r _ there _ =
      let i : ℕ = 640 + 16 * (f % 4) + t.0 in let n = slice_index s.words i in let x = r.core in
      let L = core_lawful shows o size s r in let R = now s r there in
      let b = (memtable_of x t.0 f).bound in
      let found : n ≡ bound_word b = r.words (Bound t f) (few, R.near) in
      let e = Raise w t f (record { 0 = to }) in let v' = view_after m.0 e n in
      let low = log_small x L in let below = R.low in
      let may : IsStep x e = record {
        seat = within shows o size slots id m w mine s r there;
        is_there = (few_tables shows o size slots id m w mine s r there t.0 inside, R.made);
        row = (R.above, R.raiser);
      } in
      acts shows o size slots id m w mine s r there e refl may tt tt (few, R.near)
      tt (rows_stay x e may (λ q. q) r.rows) (max n (to + 2 ^ 62)) n
      (ap (λ z. max z (to + 2 ^ 62)) found ∙ raised_word b to R.above (omega arith))
      (ap (λ k. seat_after m.0.part e k (told_by None m.0.hands))
      (ap (reading_at (Bound t f)) found ∙ bound_read x L t f))
      tt
      (λ C. boxed_stay shows size.seats x.notes
      (shown o size.at_open r.kept_to r.filed r.dropped x) x.claims x.claims x.append x.append
      s.homes s.views r.boxed
      id w m.0 v' there mine refl refl refl (λ i g l _ _. (l, refl)) refl C.append C.issue refl)
      tt tt (BoundRaised (step slots i (to + 2 ^ 62) 0 none) m n)
      (λ u z h key q role high known word first.
      let S = same_word s r there t q f h few high R.near known word in each_bound_name t f to
      (λ z q h key. Made z (Raise z q h (record { 0 = key })) n m (v', m.1)
      × ((was : Was m.0 z (Raise z q h (record { 0 = key })))
      × (word_of (reading was.core (Bound q h)) ≡ n)))
      (((refl, u), refl), (was shows o size s r id w m.0 there mine e may tt, sym found)) z q h key
      role S.0 S.1 (omega arith))

  -- a write that has deposited, and found the memtable that it tries not to be live
  pub writer_raises : (t f to : ℕ) → RaisesAsWriter m.0.part t f to → (b : BoundOf)
      → (seat_table m.0.part t).bound ≡ Some (record { memtable = f; bound = b }) → b ≢ Live
      → (s : State (Slot K) View) (r : Ruled shows o size s) → get_elem? s.views id ≡ some m.0
      → RaisesNow r.core w t f to
  writer_raises t f to W b before above s r there =
      let x = r.core in let L = core_lawful shows o size s r in
      let is = as_part shows o size slots id m w mine s r there in
      let known = (L.seats_know w).bounds t (record { memtable = f; bound = b })
      (own_part shows o size slots id m w mine s r there
      (λ (p : Seat). (seat_table p t).bound) (Some (record { memtable = f; bound = b })) before) in
      let now : RaisesAsWriter (seat_of x w) t f to =
      subst (λ (p : Seat). RaisesAsWriter p t f to) is W in record {
        made = known.made;
        above = never_live b above (memtable_of x t f).bound known.stays;
        low = let n = noted_of (seat_of x w).note now.deposited in
            let own = L.each_claim_noted_once.own w n.0 n.1 in
            let end = ap (λ (r : Range). r.end) (same_Some _ _ (sym now.end ∙ own.range)) in
            let low = below_log x L own.note own.among in omega arith;
        near = tries_near x L w t f now.trying;
        raiser = inl now;
      }
