-- The stage that the holder of a table's turn keeps of its switch, after each of its steps.
use Rattle.std.proofs.Common.{
  ◌≡◌,
  ℕ,
  ◌<◌,
  Bool,
  true,
  false,
  ◌&&◌,
  cond,
  [],
  ◌∷◌,
  ◌++◌,
  length,
  get_or,
  set,
  Option,
  Some,
  None,
  is_some,
  refl,
  sym,
  ap,
  ◌∙◌,
  subst,
  get_or-set_same,
  get_or-set_other,
}
use Rattle.std.specs.Option.{option_map}
use Rattle.clog_base.specs.declared.cell.Table.{Table}
use Rattle.clog_base.specs.declared.position.Key.{Key}
use Rattle.path_core.specs.declared.event.Event.{Event}
use Rattle.path_core.specs.declared.event.Event.TheVariants.{Switch, Raise, Finalise}
use Rattle.path_core.specs.declared.event.SwitchPart.TheVariants.{Open, Mark}
use Rattle.path_core.specs.declared.seat.FlushTurn.{FlushTurn}
use Rattle.path_core.specs.declared.seat.SeatTable.{SeatTable}
use Rattle.path_core.specs.declared.seat.Switching.{Switching}
use Rattle.path_core.specs.declared.seat.Switching.TheVariants.{
  Begun,
  Marked as MarkedStage,
  Waiting,
}
use Rattle.path_core.specs.declared.state.Bound.{Bound}
use Rattle.path_core.specs.declared.state.Bound.TheVariants.{Raising}
use Rattle.path_core.specs.declared.state.Memtable.{Memtable}
use Rattle.path_core.specs.declared.state.PathState.{PathState}
use Rattle.path_core.specs.declared.state.TableState.{TableState}
use Rattle.path_core.specs.Parts.{
  fresh_memtable,
  fresh_table,
  seat_of,
  seat_table,
  table_of,
  memtable_at,
  memtable_of,
  stage_of,
  is_at,
  IsFinal,
}
use Rattle.path_core.specs.Allowed.{IsStep}
use Rattle.path_core.specs.SeatParts.{bound_found, is_raising, raised_to, made_final, reaches}
use Rattle.path_core.specs.SeatAfter.{
  raised_as_writer,
  raised_as_holder,
  raised_stage,
  newest_made,
}
use Rattle.path_core.specs.Next.{next_of, with_memtable, with_bound}
use Rattle.path_core.specs.Lawful.{IsLawfulCore}
use Rattle.path_core.specs.LawfulTables.{MarkedIsRaising}
use Rattle.path_core.specs.LawfulSeats.{IsBegun}
use Rattle.path_core.proofs.seats.Columns.{own_after}
use Rattle.path_core.proofs.tables.StageLeft.{stage_at, stage_same}
use Rattle.path_core.proofs.seats.KnownMoves.{opened_same}
use Rattle.path_core.proofs.tables.SwitchLeft.{TableStands, raised_stands}
use Rattle.path_core.proofs.tables.StageStands.{
  Stands,
  Staged,
  raise_stands,
  staged_mapped,
  stage_stands,
}
use Rattle.path_core.proofs.tables.StageOwn.{Own, at_one}

module _ (x : PathState) (C : IsLawfulCore x) where
  -- a stage that is reached is the one that is known
  reached : (o : Option FlushTurn) (f : FlushTurn → FlushTurn) (new : Switching)
      → ((turn : FlushTurn) → (f turn).stage ≡ new) → (y : PathState) (t : ℕ) → Stands y t new
      → Staged y t (option_map (λ (turn : FlushTurn). turn.stage) (option_map f o))
  reached o f new is y t S =
      staged_mapped y t o f (λ _. new) is (λ stage h. S)

  -- a memtable that a step changes, as it is read after it
  changed : (t m : ℕ) (f : Memtable → Memtable) → t < length x.tables
      → m < length (table_of x t).memtables
      → memtable_at (get_or (set x.tables t (with_memtable (table_of x t) m f)) t fresh_table) m
      ≡ f (memtable_of x t m)
  changed t m f inside made = ap (λ (tb : TableState). memtable_at tb m)
      (get_or-set_same x.tables t (with_memtable (table_of x t) m f) fresh_table inside)
      ∙ get_or-set_same (table_of x t).memtables m (f (memtable_of x t m)) fresh_memtable made

  -- A memtable is opened: the one before it is live.
  pub opens : (by : ℕ) (table : Table) (m : ℕ) (a : IsStep x (Switch by table m Open))
      → Own x C (Switch by table m Open) → (t : ℕ) → Staged (next_of x (Switch by table m Open)) t
      (stage_of (own_after x (Switch by table m Open)) t)
  opens by table m a K = at_one x C e a table.0 a.is_there
      (λ (st : SeatTable). reaches (Begun m) (newest_made m st)) (λ t. refl)
      (λ t n. get_or-set_other x.tables table.0 t _ fresh_table n)
      (reached _ _ (Begun m) (λ turn. refl) (next_of x e) table.0
      (subst (λ tb. IsBegun tb m) (sym (get_or-set_same x.tables table.0 after fresh_table
      a.is_there)) (record {
        newest = refl;
        below = (table_of x table.0).newest;
        before = a.row.2;
        live = opened_same (table_of x table.0) m (table_of x table.0).newest
            ∙ (C.switches.tables table.0).bounds_rise.newest_is_live;
      }))) K
    where
      e : Event
      e = Switch by table m Open

      after : TableState
      after = record (table_of x table.0) {
        newest = m;
        memtables = (table_of x table.0).memtables ++ fresh_memtable ∷ [];
      }

  -- It is marked.
  pub marks : (by : ℕ) (table : Table) (m : ℕ) (a : IsStep x (Switch by table m Mark))
      → Own x C (Switch by table m Mark) → (t : ℕ) → Staged (next_of x (Switch by table m Mark)) t
      (stage_of (own_after x (Switch by table m Mark)) t)
  marks by table m a K = at_one x C e a table.0 a.is_there.0
      (λ (st : SeatTable). reaches
      (MarkedStage (record { memtable = m; key = None; raised = false }))
      (bound_found m (Raising (record { 0 = 0 })) st)) (λ t. refl)
      (λ t n. get_or-set_other x.tables table.0 t _ fresh_table n)
      (reached _ _ (MarkedStage (record { memtable = m; key = None; raised = false }))
      (λ turn. refl) (next_of x e) table.0 tt) K
    where
      e : Event
      e = Switch by table m Mark

  -- It is made final, and has no barrier yet.
  pub finalises : (by : ℕ) (table : Table) (m : ℕ) (a : IsStep x (Finalise by table m))
      → Own x C (Finalise by table m) → (t : ℕ) → Staged (next_of x (Finalise by table m)) t
      (stage_of (own_after x (Finalise by table m)) t)
  finalises by table m a K = at_one x C e a table.0 a.is_there.0
      (λ (st : SeatTable). reaches (Waiting m)
      (bound_found m (made_final (memtable_of x table.0 m).bound) st)) (λ t. refl)
      (λ t n. get_or-set_other x.tables table.0 t _ fresh_table n)
      (reached _ _ (Waiting m) (λ turn. refl) (next_of x e) table.0 (record {
        below_newest = M.below_newest ∙ sym (ap (λ (tb : TableState). tb.newest)
            (get_or-set_same x.tables table.0 _ fresh_table a.is_there.0));
        final = subst IsFinal (sym (ap (λ (k : Memtable). k.bound) now
            ∙ ap made_final M.raising)) tt;
        no_barrier = ap (λ (k : Memtable). k.barrier) now
            ∙ unissued (memtable_of x table.0 m).barrier refl;
      })) K
    where
      e : Event
      e = Finalise by table m

      M : MarkedIsRaising x.log (table_of x table.0)
          (record { memtable = m; key = a.row.key; raised = true })
      M = C.switches.marked by table.0 _ a.row.marked

      now : memtable_at (table_of (next_of x e) table.0) m
          ≡ with_bound made_final (memtable_of x table.0 m)
      now = changed table.0 m (with_bound made_final) a.is_there.0 a.is_there.1

      -- a barrier means final, and it is raising
      unissued : (o : Option ℕ) → (memtable_of x table.0 m).barrier ≡ o → o ≡ None
      unissued None h = refl
      unissued (Some g) h = absurd (subst IsFinal M.raising
          ((C.switches.tables table.0).barrier_means_final m g h))

  -- Its bound is raised.
  pub raises : (by : ℕ) (table : Table) (m : ℕ) (to : Key) (a : IsStep x (Raise by table m to))
      → Own x C (Raise by table m to) → (t : ℕ) → Staged (next_of x (Raise by table m to)) t
      (stage_of (own_after x (Raise by table m to)) t)
  raises by table m to a K = at_one x C e a table.0 a.is_there.0
      (λ (st : SeatTable). raised_as_holder m to.0 (raised_as_writer deposited m b
      (bound_found m (raised_to to.0 b) st))) (λ t. refl)
      (λ t n. get_or-set_other x.tables table.0 t _ fresh_table n)
      (raised (deposited && is_at (seat_table (seat_of x by) table.0).trying m && is_raising b)) K
    where
      e : Event
      e = Raise by table m to

      b : Bound
      b = (memtable_of x table.0 m).bound

      deposited : Bool
      deposited = is_some (seat_of x by).note

      goes_on : (stage : Switching) → stage_of (seat_of x by) table.0 ≡ Some stage
          → Stands (next_of x e) table.0 (raised_stage m to.0 stage)
      goes_on stage h = raise_stands (next_of x e) table.0 m to.0 stage
          (stage_stands x C e a table.0 (subst (TableStands (table_of x table.0))
          (sym (get_or-set_same x.tables table.0 _ fresh_table a.is_there.0))
          (raised_stands (table_of x table.0) m to.0 a.is_there.1)) stage (K table.0 stage h))

      raised : (c : Bool) → Staged (next_of x e) table.0 (stage_at (raised_as_holder m to.0
          (cond c (record (bound_found m (raised_to to.0 b) (seat_table (seat_of x by) table.0))
          { place = Some m }) (bound_found m (raised_to to.0 b)
          (seat_table (seat_of x by) table.0)))))
      raised true = staged_mapped _ table.0 _ _ (raised_stage m to.0) (λ turn. refl)
          (λ stage h. goes_on stage (sym (stage_same (seat_table (seat_of x by) table.0).flush _
          (λ turn. refl)) ∙ h))
      raised false = staged_mapped _ table.0 _ _ (raised_stage m to.0) (λ turn. refl)
          (λ stage h. goes_on stage (sym (stage_same (seat_table (seat_of x by) table.0).flush _
          (λ turn. refl)) ∙ h))
