-- What a holder has marked, where a step changes no mark, or changes one table.
use Rattle.std.proofs.Common.{
  ◌≡◌,
  ◌≢◌,
  ℕ,
  suc,
  ◌<◌,
  true,
  false,
  length,
  get_or,
  set,
  Option,
  Some,
  None,
  is_some,
  refl,
  sym,
  ap,
  ◌∙◌,
  arith,
  subst,
  get_or-set_same,
  get_or-set_other,
}
use Rattle.std.specs.Option.{option_map, option_and_then}
use Rattle.std.proofs.lemmas.Option.{none-some}
use mathlib.Core.Logic.{dite}
use native.Mathlib.Decide.{ℕ_discrete}
use Rattle.path_core.specs.declared.event.Event.{Event}
use Rattle.path_core.specs.declared.seat.FlushTurn.{FlushTurn}
use Rattle.path_core.specs.declared.seat.Seat.{Seat}
use Rattle.path_core.specs.declared.seat.SeatTable.{SeatTable}
use Rattle.path_core.specs.declared.seat.Switching.{Switching}
use Rattle.path_core.specs.declared.state.PathState.{PathState}
use Rattle.path_core.specs.Parts.{
  seat_of,
  seat_table,
  marked_in,
  marked_of,
  fresh_memtable,
  fresh_table,
  table_of,
  memtable_at,
}
use Rattle.path_core.specs.Words.{reading, by_of, place_of}
use Rattle.path_core.specs.declared.state.Bound.TheVariants.{Raising}
use Rattle.path_core.specs.SeatParts.{at_table, reaches}
use Rattle.path_core.specs.Next.{next_of, told_of, with_memtable}
use Rattle.path_core.specs.declared.seat.Marked.{Marked}
use Rattle.path_core.specs.declared.state.Memtable.{Memtable}
use Rattle.path_core.specs.declared.state.TableState.{TableState}
use Rattle.path_core.specs.Allowed.{IsStep}
use Rattle.path_core.specs.Lawful.{IsSized}
use Rattle.path_core.specs.LawfulTables.{MarkedIsRaising, SwitchesAre}
use Rattle.std.proofs.lemmas.Bool.{false≢true}
use Rattle.path_core.proofs.seats.Columns.{each_seat, at_table_same, at_table_other, seat_fits}
use Rattle.path_core.proofs.tables.Marks.{ChangesMark, marked_at, marks_left}

abbrev pub new_mark : ℕ → Marked
new_mark m = record { memtable = m; key = None; raised = false }

-- what is marked at a stage that is reached
pub marks_new : (st : SeatTable) (stage : Switching) (k : Marked)
    → marked_at (reaches stage st) ≡ Some k → marked_in stage ≡ Some k
marks_new st stage k = by st.flush
  where
    by : (o : Option FlushTurn) → option_and_then (λ (turn : FlushTurn). marked_in turn.stage)
        (option_map (λ (turn : FlushTurn). record turn { stage = stage }) o) ≡ Some k
        → marked_in stage ≡ Some k
    by None e = absurd (none-some k e)
    by (Some turn) e = e

module _ (x : PathState) where
  abbrev pub Marks : Event → ℕ → Seat → Type 0
  Marks e t s = (k : Marked) → marked_of s t ≡ Some k
      → MarkedIsRaising (next_of x e).log (table_of (next_of x e) t) k

  -- who has marked holds the turn
  pub marked_holds : (w t : ℕ) (k : Marked) → marked_of (seat_of x w) t ≡ Some k
      → is_some (seat_table (seat_of x w) t).flush ≡ true
  marked_holds w t k h = by (seat_table (seat_of x w) t).flush h
    where
      by : (o : Option FlushTurn)
          → option_and_then (λ (turn : FlushTurn). marked_in turn.stage) o ≡ Some k
          → is_some o ≡ true
      by None e = absurd (none-some k e)
      by (Some turn) e = refl

  -- of a table that a step changes, and of the others
  pub at_table_set : (t : ℕ) (new : TableState) → t < length x.tables → (u : ℕ) (P : TableState
      → Type 0)
      → (u ≡ t → P new) → (u ≢ t → P (table_of x u)) → P (get_or (set x.tables t new) u fresh_table)
  at_table_set t new inside u P here other = dite (ℕ_discrete u t)
      (λ e. subst P (sym (ap (λ k. get_or (set x.tables t new) k fresh_table) e
      ∙ get_or-set_same x.tables t new fresh_table inside)) (here e))
      (λ n. subst P (sym (get_or-set_other x.tables t u new fresh_table n)) (other n))

  pub own_other : (w t u : ℕ) (f : SeatTable → SeatTable) → u ≢ t
      → marked_of (at_table t f (seat_of x w)) u ≡ marked_of (seat_of x w) u
  own_other w t u f n = ap marked_at (at_table_other t u f (seat_of x w) n)

  abbrev pub marked_memtable : Memtable → Memtable
  marked_memtable k = record k { bound = Raising (record { 0 = 0 }); mark = Some x.log }

module _ (x : PathState) (sized : IsSized x) where
  -- what the acting seat has marked, where its part of one table changes
  pub own_at : (w t u : ℕ) (f : SeatTable → SeatTable) → t < length x.tables → u ≡ t
      → marked_of (at_table t f (seat_of x w)) u ≡ marked_at (f (seat_table (seat_of x w) t))
  own_at w t u f inside e = ap (marked_of (at_table t f (seat_of x w))) e
      ∙ ap marked_at (at_table_same t f (seat_of x w) (seat_fits x sized t w inside))

module _ (x : PathState) (W : SwitchesAre x) where
  -- a step that changes no mark: what was marked stays raising
  pub marks_stay : (e : Event) → IsStep x e → (ChangesMark e → ⊥) → (t : ℕ)
      → ((w : ℕ) (k : Marked) → marked_of (seat_of x w) t ≡ Some k
      → MarkedIsRaising x.log (table_of x t) k
      → MarkedIsRaising (next_of x e).log (table_of (next_of x e) t) k)
      → (w : ℕ) → Marks x e t (seat_of (next_of x e) w)
  marks_stay e a other t stays = each_seat x e a.seat (λ _ s. Marks x e t s)
      (λ k h. let before = sym (marks_left e (seat_of x (by_of e)) (reading x (place_of e))
      (told_of x e) t other) ∙ h in
      stays (by_of e) k before (W.marked (by_of e) t k before))
      (λ w _ k h. stays w k h (W.marked w t k h))

  inside_of : (t m : ℕ) → suc m ≡ (table_of x t).newest → m < length (table_of x t).memtables
  inside_of t m last = let l = (W.tables t).bounds_rise.made in omega arith

  pub new_is_raising : (t m : ℕ) → suc m ≡ (table_of x t).newest
      → MarkedIsRaising x.log (with_memtable (table_of x t) m (marked_memtable x)) (new_mark m)
  new_is_raising t m last = record {
    below_newest = last;
    bound = record { 0 = 0 };
    raising = ap (λ (k : Memtable). k.bound) here;
    mark = x.log;
    marked = ap (λ (k : Memtable). k.mark) here;
    fresh = λ key e. absurd (none-some key e);
    raised = λ e. absurd (false≢true e);
  }
    where
      here : memtable_at (with_memtable (table_of x t) m (marked_memtable x)) m
          ≡ marked_memtable x (memtable_at (table_of x t) m)
      here = get_or-set_same (table_of x t).memtables m _ fresh_memtable (inside_of t m last)
