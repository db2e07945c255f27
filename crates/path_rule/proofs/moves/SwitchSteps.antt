-- The steps of a memtable's switch, by the holder of its table's turn: the next memtable is made,
-- the one below it is marked, raised and made final.
use Rattle.std.proofs.Common.{◌≡◌, ℕ, suc, ◌+◌, ◌*◌, ◌%◌, ◌^◌, ◌<◌, ◌≤◌, Bool, true, [], ◌∷◌}
use Rattle.std.proofs.Common.{length, Option, Some, None, is_some, refl, sym, ap, ◌∙◌, subst, arith}
use Rattle.std.proofs.Common.{get_or-set_same, get_or-set_other}
use Rattle.std.specs.Prelude.{slice_index}
use Rattle.std.specs.Option.{option_and_then, option_map}
use Rattle.std.proofs.lemmas.List.{length-append}
use Rattle.std.proofs.lemmas.Option.{none-some, same_Some}
use mathlib.Core.Logic.{dite, inr}
use mathlib.Core.Option.{none, some}
use native.Mathlib.Decide.{ℕ_discrete}
use lib.ListN.{get_elem?}
use Rattle.atomic_table.specs.Table.{State, Me, step, Allows}
use Rattle.clog_base.specs.declared.cell.Table.{Table}
use Rattle.op_core.specs.declared.count.Order.{Order}
use Rattle.op_core.specs.declared.count.Order.TheVariants.{Write, Append}
use Rattle.path_core.specs.declared.event.Event.TheVariants.{Switch, Finalise}
use Rattle.path_core.specs.declared.event.Place.TheVariants.{Bound}
use Rattle.path_core.specs.declared.event.SwitchPart.TheVariants.{Clear, Open, Mark}
use Rattle.path_core.specs.declared.seat.FlushTurn.{FlushTurn}
use Rattle.path_core.specs.declared.seat.Marked.{Marked}
use Rattle.path_core.specs.declared.seat.Seat.{Seat}
use Rattle.path_core.specs.declared.seat.Switching.{Switching}
use Rattle.path_core.specs.declared.seat.Switching.TheVariants.{Begun, Marked as MarkedStage}
use Rattle.path_core.specs.declared.state.Bound.{Bound as BoundOf}
use Rattle.path_core.specs.declared.state.Bound.TheVariants.{Live, Raising}
use Rattle.path_core.specs.declared.state.PathState.{PathState}
use Rattle.path_core.specs.Allowed.{IsStep}
use Rattle.path_core.specs.LawfulTables.{MarkedIsRaising}
use Rattle.path_core.specs.Next.{next_of}
use Rattle.path_core.specs.Parts.{fresh_memtable, fresh_table, cleared_of, groups_of, key_of_bound}
use Rattle.path_core.specs.Parts.{marked_in, marked_of, memtable_of, seat_of, seat_table, stage_of}
use Rattle.path_core.specs.Parts.{table_of}
use Rattle.path_core.specs.SeatAfter.{seat_after}
use Rattle.path_core.specs.SeatParts.{made_final}
use Rattle.path_core.specs.Words.{reading}
use Rattle.path_core.proofs.tables.StageTells.{stage_exact}
use Rattle.path_rule.specs.declared.lasting.Beside.{Beside}
use Rattle.path_rule.specs.declared.lasting.Lasting.{Lasting}
use Rattle.path_rule.specs.declared.slot.Slot.{Slot}
use Rattle.path_rule.specs.declared.view.PathSize.{PathSize}
use Rattle.path_rule.specs.declared.view.Role.TheVariants.{Steps}
use Rattle.path_rule.specs.declared.view.View.{View}
use Rattle.path_rule.specs.Lasts.{shown}
use Rattle.path_rule.specs.Layout.{bound_word, reading_at, word_of}
use Rattle.path_rule.specs.Issued.{issued_in, opened_in}
use Rattle.path_rule.specs.Limits.{made_below, most_memtables}
use Rattle.path_rule.specs.Rule.{HasRows, Ruled, Was, told_by, view_after}
use Rattle.path_rule.specs.TableTold.{MemtableFinal, MemtableMarked, MemtableOpened, PlaceCleared}
use Rattle.path_rule.specs.Told.{Made}
use Rattle.path_rule.specs.Switches.{FlushCleared, FlushNewest, FlushOldest}
use Rattle.path_rule.proofs.boxes.HeldBoxes.{boxed_stay}
use Rattle.path_rule.proofs.moves.BoundSteps.{RaisesNow, each_bound_name, same_word}
use Rattle.path_rule.proofs.log.Issues.{few_filled, one_of, opens_one}
use Rattle.path_rule.proofs.moves.Looks.{acts, few_tables, own_part, within}
use Rattle.path_rule.proofs.moves.Moving.{core_lawful, was}
use Rattle.path_rule.proofs.moves.TableTurns.{each_table_name, held_at}
use Rattle.path_rule.proofs.places.ShownSteps.{below_near}
use Rattle.path_rule.proofs.places.ReadBack.{log_small, bound_read, rows_stay}

-- the turn that is at a stage
pub turn_at : (o : Option FlushTurn) (k : Switching)
    → option_map (λ (turn : FlushTurn). turn.stage) o ≡ Some k
    → (turn : FlushTurn) × (o ≡ Some turn) × (turn.stage ≡ k)
turn_at None k e = absurd (none-some k e)
turn_at (Some turn) k e = (turn, refl, same_Some turn.stage k e)

-- a stage at which a memtable is marked tells it
pub marked_at : (p : Seat) (t : ℕ) (k : Marked) → stage_of p t ≡ Some (MarkedStage k)
    → marked_of p t ≡ Some k
marked_at p t k at = let turn = turn_at (seat_table p t).flush (MarkedStage k) at in
    ap (λ (o : Option FlushTurn). option_and_then (λ (turn : FlushTurn). marked_in turn.stage) o)
    turn.1 ∙ ap marked_in turn.2

-- the word of a bound that is made final
final_word : (b : BoundOf) (k : ℕ) → b ≡ Raising (record { 0 = k }) → k < 2 ^ 62
    → (bound_word b + 2 ^ 62) % 2 ^ 64 ≡ bound_word (made_final b)
final_word b k is low = subst (λ (c : BoundOf).
    (bound_word c + 2 ^ 62) % 2 ^ 64 ≡ bound_word (made_final c)) (sym is) (omega arith)

-- One memtable more has a number.
rows_opened : (x : PathState) (w : ℕ) (t : Table) (f : ℕ) → HasRows x → t.0 < length x.tables
    → length x.tables ≤ 16 → made_below 16 x < most_memtables
    → HasRows (next_of x (Switch w t f Open))
rows_opened x w t f rows inside narrow few = record {
  groups = λ o. by o;
  memtables = λ u. dite (ℕ_discrete u t.0)
      (λ same. let l = length-append (table_of x t.0).memtables (fresh_memtable ∷ []) in
      let one = one_of x t.0 16 (omega (arith, inside, narrow)) in
      subst (λ k. length (table_of (next_of x (Switch w t f Open)) k).memtables ≤ 2 ^ 47) (sym same)
      (subst (λ q. length q.memtables ≤ 2 ^ 47)
      (sym (get_or-set_same x.tables t.0 _ fresh_table inside)) (omega (arith, l, one, few))))
      (λ apart. subst (λ q. length q.memtables ≤ 2 ^ 47)
      (sym (get_or-set_other x.tables t.0 u _ fresh_table apart)) (rows.memtables u));
  all = (let more = opens_one x w t f inside 16 narrow in omega (arith, more, few));
}
  where
    by : (o : Order) → length (groups_of (next_of x (Switch w t f Open)) o).tallies ≤ 2 ^ 47
    by Write = rows.groups Write
    by Append = rows.groups Append

module _ {K : Type 0} (shows : K → Lasting) (o : Beside) (size : PathSize) (slots id : ℕ)
    (m : Me (Slot K) View) (w : ℕ) (mine : m.0.role ≡ Steps w) where
  module _ (s : State (Slot K) View) (r : Ruled shows o size s)
      (there : get_elem? s.views id ≡ some m.0) where
    -- what the holder of a table's turn found of its memtables is exact
    pub newest_is : (t n : ℕ) → FlushNewest t m.0.part n → n ≡ (table_of r.core t).newest
    newest_is t n F = (((core_lawful shows o size s r).seats_know w).flush t F.0
        (own_part shows o size slots id m w mine s r there (λ (p : Seat). (seat_table p t).flush)
        (Some F.0) F.1)).newest n F.2

    pub oldest_is : (t n : ℕ) → FlushOldest t m.0.part n → n ≡ (table_of r.core t).oldest_live
    oldest_is t n F = (((core_lawful shows o size s r).seats_know w).flush t F.0
        (own_part shows o size slots id m w mine s r there (λ (p : Seat). (seat_table p t).flush)
        (Some F.0) F.1)).oldest_live n F.2

    pub stage_now : (t : ℕ) (k : Switching) → stage_of m.0.part t ≡ Some k
        → stage_of (seat_of r.core w) t ≡ Some k
    stage_now t k = own_part shows o size slots id m w mine s r there
        (λ (p : Seat). stage_of p t) (Some k)

    pub marked_now : (t : ℕ) (k : Marked) → stage_of m.0.part t ≡ Some (MarkedStage k)
        → MarkedIsRaising r.core.log (table_of r.core t) k
    marked_now t k at = stage_exact r.core (core_lawful shows o size s r) w t (MarkedStage k)
        (stage_now t (MarkedStage k) at)

  -- the place of the next memtable is cleared
  pub clears_place : (t : Table) (f n : ℕ) → t.0 < 16 → t.0 < m.0.size.tables
      → FlushNewest t.0 m.0.part n → FlushOldest t.0 m.0.part n → f ≡ suc n
      → Allows (Ruled shows o size) slots id m (640 + 16 * (f % 4) + t.0) (λ _. 0)
      (λ _. PlaceCleared (step slots (640 + 16 * (f % 4) + t.0) 0 0 none) m 0)
  clears_place t f n few inside newest oldest up s r _ there _ = let x = r.core in
      let e = Switch w t f Clear in let v' = view_after m.0 e 0 in
      let new = newest_is s r there t.0 n newest in
      let old = oldest_is s r there t.0 n oldest in
      let held = ap (λ (k : Option FlushTurn). is_some k)
      (own_part shows o size slots id m w mine s r there
      (λ (p : Seat). (seat_table p t.0).flush) (Some newest.0) newest.1) in
      let may : IsStep x e = record {
        seat = within shows o size slots id m w mine s r there;
        is_there = few_tables shows o size slots id m w mine s r there t.0 inside;
        row = (held, sym old ∙ new, up ∙ ap suc new);
      } in
      acts shows o size slots id m w mine s r there e refl may tt tt tt
      tt (rows_stay x e may (λ q. q) r.rows) 0 0 refl refl tt
      (λ C. boxed_stay shows size.seats x.notes
      (shown o size.at_open r.kept_to r.filed r.dropped x) x.claims x.claims x.append x.append
      s.homes s.views r.boxed
      id w m.0 v' there mine refl refl refl (λ i g l _ _. (l, refl)) refl C.append C.issue refl)
      tt tt (PlaceCleared (step slots (640 + 16 * (f % 4) + t.0) 0 0 none) m 0)
      (λ u z h n' q role high newest' up' word. let a : t.0 ≡ q.0 = omega arith in
      let same = newest_is s r there t.0 n' (subst (λ k. FlushNewest k m.0.part n') (sym a) newest')
      in each_bound_name shows o size slots id m w mine t f 0
      (λ z q h key. Made z (Switch z q h Clear) 0 m (v', m.1)) ((refl, u), refl)
      z q h 0 role a (omega arith) refl)

  pub opens_memtable : (t : Table) (f n : ℕ) → t.0 < 16 → t.0 < m.0.size.tables
      → FlushNewest t.0 m.0.part n → FlushOldest t.0 m.0.part n → f ≡ suc n
      → FlushCleared t.0 m.0.part f → opened_in m.0.trail ≤ issued_in m.0.trail
      → Allows (Ruled shows o size) slots id m (64 + 4 * t.0) (λ _. f)
      (λ _. MemtableOpened (step slots (64 + 4 * t.0) f 0 none) m f)
  opens_memtable t f n few inside newest oldest up clean small s r _ there _ = let x = r.core in
      let e = Switch w t f Open in let v' = view_after m.0 e f in
      let L = core_lawful shows o size s r in
      let new = newest_is s r there t.0 n newest in
      let old = oldest_is s r there t.0 n oldest in
      let held = ap (λ (k : Option FlushTurn). is_some k)
      (own_part shows o size slots id m w mine s r there
      (λ (p : Seat). (seat_table p t.0).flush) (Some newest.0) newest.1) in
      let long = (L.switches.tables t.0).bounds_rise.made in
      let within_tables = few_tables shows o size slots id m w mine s r there t.0 inside in
      let may : IsStep x e = record {
        seat = within shows o size slots id m w mine s r there;
        is_there = within_tables;
        row = (
          held,
          sym old ∙ new,
          up ∙ ap suc new,
          own_part shows o size slots id m w mine s r there (λ (p : Seat). cleared_of p t.0)
              (Some f) (ap (λ (k : Option FlushTurn). option_and_then (λ (turn : FlushTurn).
              turn.cleared) k) clean.1 ∙ clean.2),
        );
      } in
      acts shows o size slots id m w mine s r there e refl may tt tt few
      small (rows_opened x w t f r.rows within_tables L.sized.limits.few_tables
      (few_filled size r.events x r.fit r.run r.few r.paid)) f f refl refl tt
      (λ C. boxed_stay shows size.seats x.notes
      (shown o size.at_open r.kept_to r.filed r.dropped x) x.claims x.claims x.append x.append
      s.homes s.views r.boxed
      id w m.0 v' there mine refl refl refl (λ i g l _ _. (l, refl)) refl C.append C.issue refl)
      tt tt (MemtableOpened (step slots (64 + 4 * t.0) f 0 none) m f)
      (λ u z q role _ word. each_table_name shows o size slots id m w mine 64 t
      (λ z q. Made z (Switch z q f Open) f m (v', m.1)) ((refl, u), refl) z q role word)

  pub marks_memtable : (t : Table) (f : ℕ) → t.0 < 16 → t.0 < m.0.size.tables
      → stage_of m.0.part t.0 ≡ Some (Begun (suc f))
      → Allows (Ruled shows o size) slots id m (640 + 16 * (f % 4) + t.0) (λ _. 2 ^ 62)
      (λ _. MemtableMarked (step slots (640 + 16 * (f % 4) + t.0) (2 ^ 62) 0 none) m (2 ^ 62))
  marks_memtable t f few inside at s r _ there _ = let x = r.core in
      let e = Switch w t f Mark in let v' = view_after m.0 e (2 ^ 62) in
      let L = core_lawful shows o size s r in
      let now = stage_now s r there t.0 (Begun (suc f)) at in
      let B = stage_exact x L w t.0 (Begun (suc f)) now in
      let new = B.newest in let before = B.before in
      let same : B.below ≡ f = omega arith in
      let long = (L.switches.tables t.0).bounds_rise.made in
      let may : IsStep x e = record {
        seat = within shows o size slots id m w mine s r there;
        is_there = (
          few_tables shows o size slots id m w mine s r there t.0 inside,
          omega arith,
        );
        row = (
          held_at (seat_table (seat_of x w) t.0).flush (Begun (suc f)) now,
          new,
          subst (λ k. (memtable_of x t.0 k).bound ≡ Live) same B.live,
        );
      } in
      let near = below_near x L t.0 f new in
      acts shows o size slots id m w mine s r there e refl may tt tt (few, near)
      tt (rows_stay x e may (λ q. q) r.rows) (2 ^ 62) (2 ^ 62) refl refl tt
      (λ C. boxed_stay shows size.seats x.notes
      (shown o size.at_open r.kept_to r.filed r.dropped x) x.claims x.claims x.append x.append
      s.homes s.views r.boxed
      id w m.0 v' there mine refl refl refl (λ i g l _ _. (l, refl)) refl C.append C.issue refl)
      tt tt (MemtableMarked (step slots (640 + 16 * (f % 4) + t.0) (2 ^ 62) 0 none) m (2 ^ 62))
      (λ u z h q role high known word.
      let S = same_word shows o size slots id m w mine s r there t q f h few high near known word in
      each_bound_name shows o size slots id m w mine t f 0
      (λ z q h key. Made z (Switch z q h Mark) (2 ^ 62) m (v', m.1)) ((refl, u), refl)
      z q h 0 role S.0 S.1 refl)

  -- the holder of the table's turn may raise what it marked to the log key that it found since
  pub holder_raises : (t f to : ℕ) (raised : Bool)
      → stage_of m.0.part t
      ≡ Some (MarkedStage (record { memtable = f; key = Some to; raised = raised }))
      → (s : State (Slot K) View) (r : Ruled shows o size s) → get_elem? s.views id ≡ some m.0
      → RaisesNow r.core w t f to
  holder_raises t f to raised at s r there =
      let k : Marked = record { memtable = f; key = Some to; raised = raised } in
      let M = marked_now s r there t k at in let x = r.core in
      let long = ((core_lawful shows o size s r).switches.tables t).bounds_rise.made in
      let below = M.below_newest in record {
        made = omega arith;
        above = λ live. let q = sym M.raising ∙ live in cc;
        low = (M.fresh to refl).1;
        near = below_near x (core_lawful shows o size s r) t f M.below_newest;
        raiser = inr (record {
          raised = raised;
          marked = marked_at (seat_of x w) t k (stage_now s r there t (MarkedStage k) at);
        });
      }

  pub finalises : (t : Table) (f : ℕ) (key : Option ℕ) → t.0 < 16
      → t.0 < m.0.size.tables
      → stage_of m.0.part t.0
      ≡ Some (MarkedStage (record { memtable = f; key = key; raised = true }))
      → Allows (Ruled shows o size) slots id m (640 + 16 * (f % 4) + t.0)
      (λ n. (n + 2 ^ 62) % 2 ^ 64)
      (MemtableFinal (step slots (640 + 16 * (f % 4) + t.0) (2 ^ 62) 0 none) m)
  finalises t f key few inside at s r _ there _ =
      let i : ℕ = 640 + 16 * (f % 4) + t.0 in let n = slice_index s.words i in let x = r.core in
      let L = core_lawful shows o size s r in
      let k : Marked = record { memtable = f; key = key; raised = true } in
      let M = marked_now s r there t.0 k at in
      let b = (memtable_of x t.0 f).bound in
      let near = below_near x L t.0 f M.below_newest in
      let found : n ≡ bound_word b = r.words (Bound t f) (few, near) in
      let e = Finalise w t f in let v' = view_after m.0 e n in
      let long = (L.switches.tables t.0).bounds_rise.made in let next = M.below_newest in
      let below = (L.switches.tables t.0).bounds_rise.below_log f in
      let top = log_small x L in
      let low : M.bound.0 < 2 ^ 62 = subst (λ (c : BoundOf). key_of_bound c < 2 ^ 62) M.raising
      (omega arith) in
      let may : IsStep x e = record {
        seat = within shows o size slots id m w mine s r there;
        is_there = (
          few_tables shows o size slots id m w mine s r there t.0 inside,
          omega arith,
        );
        row = record {
          key = key;
          marked = marked_at (seat_of x w) t.0 k (stage_now s r there t.0 (MarkedStage k) at);
        };
      } in
      acts shows o size slots id m w mine s r there e refl may tt tt (few, near)
      tt (rows_stay x e may (λ q. q) r.rows) ((n + 2 ^ 62) % 2 ^ 64) n
      (ap (λ z. (z + 2 ^ 62) % 2 ^ 64) found ∙ final_word b M.bound.0 M.raising low)
      (ap (λ k. seat_after m.0.part e k (told_by None m.0.hands))
      (ap (reading_at (Bound t f)) found ∙ bound_read x L t f))
      found
      (λ C. boxed_stay shows size.seats x.notes
      (shown o size.at_open r.kept_to r.filed r.dropped x) x.claims x.claims x.append x.append
      s.homes s.views r.boxed
      id w m.0 v' there mine refl refl refl (λ i g l _ _. (l, refl)) refl C.append C.issue refl)
      tt tt (MemtableFinal (step slots i (2 ^ 62) 0 none) m n)
      (λ u z h q role high known word.
      let S = same_word shows o size slots id m w mine s r there t q f h few high near known word in
      each_bound_name shows o size slots id m w mine t f 0
      (λ z q h key. Made z (Finalise z q h) n m (v', m.1)
      × ((was : Was m.0 z (Finalise z q h)) × (word_of (reading was.core (Bound q h)) ≡ n)))
      (((refl, u), refl), (was shows o size s r id w m.0 there mine e may tt, sym found))
      z q h 0 role S.0 S.1 refl)
