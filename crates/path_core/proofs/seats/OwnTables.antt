-- What a seat knows of the tables, after its own step and after a step of another.
use Rattle.std.proofs.Common.{
  ◌≢◌,
  ℕ,
  false,
  ◌++◌,
  [],
  ◌∷◌,
  Some,
  None,
  is_some,
  refl,
  sym,
  subst,
  arith,
  length-append,
}
use Rattle.std.proofs.Math.ListN.{get_or-map as get_or-map_default}
use mathlib.Core.Logic.{inl, inr}
use Rattle.op_core.specs.declared.count.Order.TheVariants.{Write, Append}
use Rattle.path_core.specs.declared.event.Carried.TheVariants.{Nothing, Deposit, Applied}
use Rattle.path_core.specs.declared.event.ClaimKind.TheVariants.{Entry, Marker}
use Rattle.path_core.specs.declared.event.Cursor.TheVariants.{Synced, OldestLive, Stopped}
use Rattle.path_core.specs.declared.event.Event.{Event}
use Rattle.path_core.specs.declared.event.Event.TheVariants.{
  Look,
  Register,
  Close,
  MoveCurrent,
  Advance,
  Claim,
  Switch,
  Raise,
  Finalise,
  TakeTurn,
  GiveTurn,
  Put,
}
use Rattle.path_core.specs.declared.event.SwitchPart.TheVariants.{Clear, Open, Mark}
use Rattle.path_core.specs.declared.event.Turn.TheVariants.{Sync, Flush}
use Rattle.path_core.specs.declared.seat.FlushTurn.{FlushTurn}
use Rattle.path_core.specs.declared.seat.SeatTable.{SeatTable}
use Rattle.path_core.specs.declared.seat.Switching.TheVariants.{
  Begun,
  Marked as MarkedStage,
  Waiting,
}
use Rattle.path_core.specs.declared.state.Bound.TheVariants.{Raising}
use Rattle.path_core.specs.declared.state.PathState.{PathState}
use Rattle.path_core.specs.declared.state.TableState.{TableState}
use Rattle.path_core.specs.Parts.{
  fresh_memtable,
  untouched,
  seat_of,
  seat_table,
  table_of,
  memtable_of,
}
use Rattle.path_core.specs.Words.{by_of}
use Rattle.path_core.specs.Allowed.{IsStep}
use Rattle.path_core.specs.SeatParts.{
  in_flush,
  bound_found,
  raised_to,
  made_final,
  reaches,
  with_barrier,
  barrier_issued,
}
use Rattle.path_core.specs.SeatAfter.{
  raised_as_writer,
  raised_as_holder,
  left_table,
  new_flush,
  place_cleared,
  newest_made,
}
use Rattle.path_core.specs.Next.{next_of, with_memtable, with_bound}
use Rattle.path_core.specs.Lawful.{IsLawfulLog}
use Rattle.path_core.proofs.seats.Columns.{own_after}
use Rattle.path_core.proofs.tables.WithBarriers.{barred_at}
use Rattle.path_core.proofs.seats.KnownTables.{KnowsTable, known_still, known_unheld}
use Rattle.path_core.proofs.seats.TableParts.{
  same_table,
  stage_known,
  cleared_known,
  made_known,
  oldest_known,
  bound_known,
  raises_known,
  taken_known,
  given_known,
}
use Rattle.path_core.proofs.seats.KnownMoves.{
  changed_at,
  changed_made,
  at_each,
  opened_same,
  barred_left,
  mark,
  table_grows,
  table_left,
}
use Rattle.path_core.proofs.seats.LooksAtTables.{fits, Knows, both_at, looks_at}

module _ (x : PathState) (L : IsLawfulLog x) where
  -- The acting seat knows the tables after its own step.
  pub own_tables : (e : Event) → IsStep x e → Knows x L (seat_of x (by_of e)) → (t : ℕ)
      → KnowsTable (table_of (next_of x e) t) (seat_table (own_after x e) t)
  own_tables (Look by at) a K t = looks_at x L by at a K t
  own_tables (Register by Write group) a K t = K t
  own_tables (Register by Append group) a K t = K t
  own_tables (Close by Append group (Deposit note)) a K t = K t
  own_tables (Close by Append group Nothing) a K t = K t
  own_tables (Close by Append group (Applied places)) a K t = K t
  own_tables (Close by Write group carried) a K t = subst (KnowsTable (table_of x t))
      (sym (get_or-map_default left_table (seat_of x by).tables t untouched))
      (same_table (table_of x t) (seat_table (seat_of x by) t) _ refl refl (K t))
  own_tables (MoveCurrent by Write group) a K t = barred_at x.write.current
      (seat_of x by).tables x.tables (λ tb. KnowsTable tb (seat_table
      (own_after x (MoveCurrent by Write group)) t)) t (issued (table_of x t) (K t))
      (issued _ (known_still (table_of x t) _ (barred_left x.write.current (table_of x t)) _ (K t)))
    where
      issued : (table : TableState) → KnowsTable table (seat_table (seat_of x by) t)
          → KnowsTable table (seat_table (own_after x (MoveCurrent by Write group)) t)
      issued table known = subst (KnowsTable table) (sym (get_or-map_default
          (barrier_issued x.write.current) (seat_of x by).tables t untouched))
          (stage_known table (seat_table (seat_of x by) t)
          (λ turn. with_barrier x.write.current turn.stage) known)
  own_tables (MoveCurrent by Append group) a K t = K t
  own_tables (Advance by Write group) a K t = K t
  own_tables (Advance by Append group) a K t = K t
  own_tables (Claim by from to Entry) a K t = K t
  own_tables (Claim by from to Marker) a K t = K t
  own_tables (Switch by table m Clear) a K t = at_each table.0 (place_cleared m) (seat_of x by)
      (λ u st. KnowsTable (table_of x u) st) (fits x L table.0 by a.is_there)
      (cleared_known (table_of x table.0) m (seat_table (seat_of x by) table.0) a.row.2 (K table.0))
      K t
  own_tables (Switch by table m Open) a K t = both_at x L (seat_of x by) table.0
      (record (table_of x table.0) {
        newest = m;
        memtables = (table_of x table.0).memtables ++ fresh_memtable ∷ [];
      })
      (λ (st : SeatTable). reaches (Begun m) (newest_made m st)) a.is_there
      (fits x L table.0 by a.is_there)
      (let long = length-append (table_of x table.0).memtables (fresh_memtable ∷ []) in
      stage_known _ _ (λ _. Begun m)
      (made_known (table_of x table.0) _ m (seat_table (seat_of x by) table.0) (omega arith)
      (opened_same (table_of x table.0) m) refl refl (K table.0))) K t
  own_tables (Switch by table m Mark) a K t = both_at x L (seat_of x by) table.0
      (with_memtable (table_of x table.0) m (mark x L))
      (λ (st : SeatTable). reaches
      (MarkedStage (record { memtable = m; key = None; raised = false }))
      (bound_found m (Raising (record { 0 = 0 })) st)) a.is_there.0
      (fits x L table.0 by a.is_there.0)
      (stage_known _ _ (λ _. MarkedStage (record { memtable = m; key = None; raised = false }))
      (bound_known (table_of x table.0) (with_memtable (table_of x table.0) m (mark x L)) m
      (Raising (record { 0 = 0 })) (seat_table (seat_of x by) table.0)
      (changed_made (table_of x table.0) m (mark x L) a.is_there.1)
      (changed_at (table_of x table.0) m (mark x L) a.is_there.1) refl refl (K table.0))) K t
  own_tables (Raise by table m to) a K t =
      let b = (memtable_of x table.0 m).bound in
      let f = with_bound (raised_to to.0) in
      let deposited = is_some (seat_of x by).note in
      both_at x L (seat_of x by) table.0
      (with_memtable (table_of x table.0) m f)
      (λ (st : SeatTable). raised_as_holder m to.0
      (raised_as_writer deposited m b (bound_found m (raised_to to.0 b) st)))
      a.is_there.0 (fits x L table.0 by a.is_there.0)
      (raises_known _ deposited m to.0 b _ (bound_known (table_of x table.0)
      (with_memtable (table_of x table.0) m f) m (raised_to to.0 b)
      (seat_table (seat_of x by) table.0)
      (changed_made (table_of x table.0) m f a.is_there.1)
      (changed_at (table_of x table.0) m f a.is_there.1) refl refl (K table.0))) K t
  own_tables (Finalise by table m) a K t =
      let b = (memtable_of x table.0 m).bound in
      let f = with_bound made_final in
      both_at x L (seat_of x by) table.0
      (with_memtable (table_of x table.0) m f)
      (λ (st : SeatTable). reaches (Waiting m) (bound_found m (made_final b) st))
      a.is_there.0 (fits x L table.0 by a.is_there.0)
      (stage_known _ _ (λ _. Waiting m) (bound_known (table_of x table.0)
      (with_memtable (table_of x table.0) m f) m (made_final b)
      (seat_table (seat_of x by) table.0)
      (changed_made (table_of x table.0) m f a.is_there.1)
      (changed_at (table_of x table.0) m f a.is_there.1) refl refl (K table.0))) K t
  own_tables (TakeTurn by Sync) a K t = K t
  own_tables (TakeTurn by (Flush table)) a K t = at_each table.0
      (λ (st : SeatTable). record st { flush = Some new_flush }) (seat_of x by)
      (λ u st. KnowsTable (table_of x u) st) (fits x L table.0 by a.is_there)
      (taken_known (table_of x table.0) (seat_table (seat_of x by) table.0) (K table.0)) K t
  own_tables (GiveTurn by Sync) a K t = K t
  own_tables (GiveTurn by (Flush table)) a K t = at_each table.0
      (λ (st : SeatTable). record st { flush = None }) (seat_of x by)
      (λ u st. KnowsTable (table_of x u) st) (fits x L table.0 by a.is_there)
      (given_known (table_of x table.0) (seat_table (seat_of x by) table.0) (K table.0)) K t
  own_tables (Put by Synced value) a K t = K t
  own_tables (Put by (OldestLive table) value) a K t = both_at x L (seat_of x by) table.0
      (record (table_of x table.0) { oldest_live = value })
      (in_flush (λ (turn : FlushTurn). record turn { oldest_live = Some value })) a.is_there
      (fits x L table.0 by a.is_there)
      (oldest_known (table_of x table.0) (record (table_of x table.0) { oldest_live = value }) value
      (seat_table (seat_of x by) table.0) (omega arith) (λ k. refl) refl refl (K table.0)) K t
  own_tables (Put by Stopped value) a K t = K t
  own_tables e a K t = K t

  -- Another seat knows what it knew of a table.
  pub other_tables : (e : Event) → IsStep x e → (w : ℕ) → w ≢ by_of e → Knows x L (seat_of x w)
      → (t : ℕ) → KnowsTable (table_of (next_of x e) t) (seat_table (seat_of x w) t)
  other_tables e a w apart K t = elim (table_left x L e a t) [
    | inl left ↦ known_still (table_of x t) _ left _ (K t)
    | inr held ↦ known_unheld (table_of x t) _ (table_grows x L e a t) _
        (λ holds. apart (L.orders.one_holder_a_turn.one (Flush (record { 0 = t })) w (by_of e)
        holds held)) (K t)
  ]
