-- What a holder has marked, where a step marks, raises, opens or makes final, or takes or gives a
-- turn.
use Rattle.std.proofs.Common.{
  ◌≡◌,
  ℕ,
  ◌==◌,
  Bool,
  ◌&&◌,
  ◌||◌,
  true,
  false,
  cond,
  Some,
  None,
  is_some,
  refl,
  sym,
  ap,
  ◌∙◌,
  subst,
  arith,
}
use Rattle.std.specs.Option.{option_map}
use Rattle.std.proofs.lemmas.Option.{none-some, same_Some}
use mathlib.Core.Logic.{dite}
use native.Mathlib.Decide.{ℕ_discrete}
use Rattle.clog_base.specs.declared.cell.Table.{Table}
use Rattle.path_core.specs.declared.event.Event.TheVariants.{
  Switch,
  Raise,
  Finalise,
  TakeTurn,
  GiveTurn,
}
use Rattle.path_core.specs.declared.event.SwitchPart.TheVariants.{Open, Mark}
use Rattle.path_core.specs.declared.event.Turn.TheVariants.{Flush}
use Rattle.path_core.specs.declared.seat.SeatTable.{SeatTable}
use Rattle.path_core.specs.declared.seat.Switching.TheVariants.{
  Begun,
  Marked as MarkedStage,
  Waiting,
}
use Rattle.path_core.specs.declared.state.PathState.{PathState}
use Rattle.path_core.specs.Parts.{
  seat_of,
  seat_table,
  is_at,
  marked_of,
  table_of,
  memtable_at,
  memtable_of,
  IsFinal,
}
use Rattle.path_core.specs.declared.state.Bound.TheVariants.{Raising, Live}
use Rattle.path_core.specs.SeatParts.{bound_found, is_raising, raised_to, made_final, reaches}
use Rattle.path_core.specs.SeatAfter.{raised_as_writer, raised_as_holder, new_flush, newest_made}
use Rattle.path_core.specs.Next.{next_of, with_memtable, with_bound}
use Rattle.path_core.specs.declared.seat.Marked.{Marked}
use Rattle.clog_base.specs.declared.position.Key.{Key}
use Rattle.path_core.specs.Allowed.{IsStep}
use Rattle.path_core.specs.Lawful.{IsSized}
use Rattle.path_core.specs.LawfulOrders.{IsOrderly}
use Rattle.path_core.specs.LawfulTables.{MarkedIsRaising, SwitchesAre}
use Rattle.path_core.proofs.seats.Columns.{each_seat}
use Rattle.path_core.proofs.tables.Marks.{
  marked_at,
  marked_same,
  marked_changed,
  mapped_some,
  raised_marked_stage,
}
use Rattle.path_core.proofs.tables.Marked.{raised_marked, own_raised}
use Rattle.path_core.proofs.tables.MarkStays.{
  Marks,
  marked_holds,
  at_table_set,
  own_at,
  own_other,
  marks_new,
  marked_memtable,
  new_mark,
  new_is_raising,
}

module _ (x : PathState) (sized : IsSized x) (O : IsOrderly x) (W : SwitchesAre x) where
  pub marks : (by : ℕ) (table : Table) (m : ℕ) (a : IsStep x (Switch by table m Mark)) (t w : ℕ)
      → Marks x (Switch by table m Mark) t (seat_of (next_of x (Switch by table m Mark)) w)
  marks by table m a t = each_seat x (Switch by table m Mark) a.seat
      (λ _ s. Marks x (Switch by table m Mark) t s)
      (λ k h. at_table_set x table.0 _ a.is_there.0 t (λ tb. MarkedIsRaising x.log tb k)
      (λ e. subst (λ j. MarkedIsRaising x.log
      (with_memtable (table_of x table.0) m (marked_memtable x)) j)
      (same_Some (new_mark m) k (marks_new
      (bound_found m (Raising (record { 0 = 0 })) (seat_table (seat_of x by) table.0))
      (MarkedStage (new_mark m)) k
      (sym (own_at x sized by table.0 t (λ (st : SeatTable). reaches (MarkedStage (new_mark m))
      (bound_found m (Raising (record { 0 = 0 })) st)) a.is_there.0 e) ∙ h)))
      (new_is_raising x W table.0 m a.row.1))
      (λ n. W.marked by t k (sym (own_other x by table.0 t (λ (st : SeatTable).
      reaches (MarkedStage (new_mark m))
      (bound_found m (Raising (record { 0 = 0 })) st)) n) ∙ h)))
      (λ w _ k h. at_table_set x table.0 _ a.is_there.0 t (λ tb. MarkedIsRaising x.log tb k)
      (λ e. absurd (not_raising k (subst (λ u. MarkedIsRaising x.log (table_of x u) k) e
      (W.marked w t k h)))) (λ _. W.marked w t k h))
    where
      -- the one below the newest is live, so none is marked
      not_raising : (k : Marked) → MarkedIsRaising x.log (table_of x table.0) k → ⊥
      not_raising k M = let b = M.below_newest in let l = a.row.1 in
          let same : k.memtable ≡ m = omega arith in
          let q : Live ≡ Raising M.bound = sym a.row.2
          ∙ ap (λ j. (memtable_at (table_of x table.0) j).bound) (sym same) ∙ M.raising in cc

  pub raises : (by : ℕ) (table : Table) (m : ℕ) (to : Key) (a : IsStep x (Raise by table m to))
      (t w : ℕ)
      → Marks x (Raise by table m to) t (seat_of (next_of x (Raise by table m to)) w)
  raises by table m to a t = each_seat x (Raise by table m to) a.seat
      (λ _ s. Marks x (Raise by table m to) t s)
      (λ k h. at_table_set x table.0 _ a.is_there.0 t (λ tb. MarkedIsRaising x.log tb k)
      (λ e. let r = mapped_some (marked_of (seat_of x by) table.0) _ k
      (sym (holder (is_some (seat_of x by).note && is_at (seat_table
      (seat_of x by) table.0).trying m
      && is_raising (memtable_of x table.0 m).bound))
      ∙ sym (own_at x sized by table.0 t (λ (st : SeatTable). raised_as_holder m to.0
      (raised_as_writer
      (is_some (seat_of x by).note) m
      (memtable_of x table.0 m).bound (bound_found m (raised_to to.0
      (memtable_of x table.0 m).bound) st))) a.is_there.0 e) ∙ h) in
      subst (λ j. MarkedIsRaising x.log
      (with_memtable (table_of x table.0) m (with_bound (raised_to to.0))) j) (sym r.2)
      (own_raised x.log m to.0 (table_of x table.0) r.0 a.is_there.1 (W.marked by table.0 r.0 r.1)))
      (λ n. W.marked by t k (sym (own_other x by table.0 t (λ
      (st : SeatTable). raised_as_holder m to.0 (raised_as_writer (is_some (seat_of x by).note) m
      (memtable_of x table.0 m).bound (bound_found m (raised_to to.0
      (memtable_of x table.0 m).bound) st))) n) ∙ h)))
      (λ w _ k h. at_table_set x table.0 _ a.is_there.0 t (λ tb. MarkedIsRaising x.log tb k)
      (λ e. raised_marked x.log m to.0 (table_of x table.0) k a.is_there.1
      (subst (λ u. MarkedIsRaising x.log (table_of x u) k) e (W.marked w t k h)))
      (λ _. W.marked w t k h))
    where
      holder : (c : Bool) → marked_at (raised_as_holder m to.0
          (cond c (record (bound_found m (raised_to to.0 (memtable_of x table.0 m).bound)
          (seat_table (seat_of x by) table.0)) { place = Some m })
          (bound_found m (raised_to to.0 (memtable_of x table.0 m).bound)
          (seat_table (seat_of x by) table.0))))
          ≡ option_map (λ (k : Marked). record k {
            raised = k.raised || ((k.memtable == m) && is_at k.key to.0);
          }) (marked_of (seat_of x by) table.0)
      holder true = marked_changed _ _ _ (λ turn. raised_marked_stage m to.0 turn.stage)
          ∙ ap (option_map _) (marked_same (seat_table (seat_of x by) table.0).flush _
          (λ turn. refl))
      holder false = marked_changed _ _ _ (λ turn. raised_marked_stage m to.0 turn.stage)
          ∙ ap (option_map _) (marked_same (seat_table (seat_of x by) table.0).flush _
          (λ turn. refl))

  pub opens : (by : ℕ) (table : Table) (m : ℕ) (a : IsStep x (Switch by table m Open)) (t w : ℕ)
      → Marks x (Switch by table m Open) t (seat_of (next_of x (Switch by table m Open)) w)
  opens by table m a t = each_seat x (Switch by table m Open) a.seat
      (λ _ s. Marks x (Switch by table m Open) t s)
      (λ k h. at_table_set x table.0 _ a.is_there t (λ tb. MarkedIsRaising x.log tb k)
      (λ e. absurd (none-some k (marks_new
      (newest_made m (seat_table (seat_of x by) table.0)) (Begun m) k
      (sym (own_at x sized by table.0 t (λ (st : SeatTable). reaches (Begun m)
      (newest_made m st)) a.is_there e) ∙ h))))
      (λ n. W.marked by t k (sym (own_other x by table.0 t (λ (st : SeatTable). reaches (Begun m)
      (newest_made m st)) n) ∙ h)))
      (λ w _ k h. at_table_set x table.0 _ a.is_there t (λ tb. MarkedIsRaising x.log tb k)
      (λ e. absurd (no_mark k (subst (λ u. MarkedIsRaising x.log (table_of x u) k) e
      (W.marked w t k h)))) (λ _. W.marked w t k h))
    where
      -- where all below the newest are retired, none is marked
      no_mark : (k : Marked) → MarkedIsRaising x.log (table_of x table.0) k → ⊥
      no_mark k M = let b = M.below_newest in let all_retired = a.row.1 in
          subst IsFinal M.raising ((W.tables table.0).retired_is_final k.memtable (omega arith))

  pub finalises : (by : ℕ) (table : Table) (m : ℕ) (a : IsStep x (Finalise by table m)) (t w : ℕ)
      → Marks x (Finalise by table m) t (seat_of (next_of x (Finalise by table m)) w)
  finalises by table m a t = each_seat x (Finalise by table m) a.seat
      (λ _ s. Marks x (Finalise by table m) t s)
      (λ k h. at_table_set x table.0 _ a.is_there.0 t (λ tb. MarkedIsRaising x.log tb k)
      (λ e. absurd (none-some k (marks_new
      (bound_found m (made_final (memtable_of x table.0 m).bound)
      (seat_table (seat_of x by) table.0)) (Waiting m) k
      (sym (own_at x sized by table.0 t (λ (st : SeatTable). reaches (Waiting m)
      (bound_found m (made_final (memtable_of x table.0 m).bound) st)) a.is_there.0 e) ∙ h))))
      (λ n. W.marked by t k (sym (own_other x by table.0 t (λ (st : SeatTable). reaches (Waiting m)
      (bound_found m (made_final (memtable_of x table.0 m).bound) st)) n) ∙ h)))
      (λ w n k h. at_table_set x table.0 _ a.is_there.0 t (λ tb. MarkedIsRaising x.log tb k)
      (λ e. absurd (n (O.one_holder_a_turn.one (Flush table) w by
      (marked_holds x w table.0 k (subst (λ u. marked_of (seat_of x w) u ≡ Some k) e h))
      (marked_holds x by table.0 _ a.row.marked))))
      (λ _. W.marked w t k h))

  pub takes_flush : (by : ℕ) (table : Table) (a : IsStep x (TakeTurn by (Flush table))) (t w : ℕ)
      → Marks x (TakeTurn by (Flush table)) t (seat_of (next_of x (TakeTurn by (Flush table))) w)
  takes_flush by table a t = each_seat x (TakeTurn by (Flush table)) a.seat
      (λ _ s. Marks x (TakeTurn by (Flush table)) t s)
      (λ k h. dite (ℕ_discrete t table.0)
      (λ e. absurd (none-some k (sym (own_at x sized by table.0 t
      (λ (st : SeatTable). record st { flush = Some new_flush }) a.is_there e) ∙ h)))
      (λ n. W.marked by t k (sym (own_other x by table.0 t
      (λ (st : SeatTable). record st { flush = Some new_flush }) n) ∙ h)))
      (λ w _ k h. W.marked w t k h)

  pub gives : (by : ℕ) (table : Table) (a : IsStep x (GiveTurn by (Flush table))) (t w : ℕ)
      → Marks x (GiveTurn by (Flush table)) t (seat_of (next_of x (GiveTurn by (Flush table))) w)
  gives by table a t = each_seat x (GiveTurn by (Flush table)) a.seat
      (λ _ s. Marks x (GiveTurn by (Flush table)) t s)
      (λ k h. dite (ℕ_discrete t table.0)
      (λ e. absurd (none-some k (sym (own_at x sized by table.0 t
      (λ (st : SeatTable). record st { flush = None }) a.is_there e) ∙ h)))
      (λ n. W.marked by t k (sym (own_other x by table.0 t
      (λ (st : SeatTable). record st { flush = None }) n) ∙ h)))
      (λ w _ k h. W.marked w t k h)
