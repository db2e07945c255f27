-- What is known of a table's memtables: each allowed step keeps it.
use Rattle.std.proofs.Common.{
  ◌≢◌,
  ℕ,
  ◌++◌,
  ◌<◌,
  [],
  ◌∷◌,
  length,
  get_or,
  set,
  refl,
  sym,
  subst,
  ◌≤◌,
}
use mathlib.Core.Logic.{inl, inr}
use Rattle.clog_base.specs.declared.cell.Table.{Table}
use Rattle.op_core.specs.declared.count.Order.TheVariants.{Write, Append}
use Rattle.path_core.specs.declared.event.Cursor.TheVariants.{Synced, OldestLive, Stopped}
use Rattle.path_core.specs.declared.event.Event.{Event}
use Rattle.path_core.specs.declared.event.Event.TheVariants.{
  MoveCurrent,
  Claim,
  Switch,
  Raise,
  Finalise,
  Put,
}
use Rattle.path_core.specs.declared.event.SwitchPart.TheVariants.{Clear, Open, Mark}
use Rattle.path_core.specs.declared.state.PathState.{PathState}
use Rattle.path_core.specs.Parts.{seat_of, fresh_memtable, fresh_table, table_of}
use Rattle.path_core.specs.Next.{next_of}
use Rattle.clog_base.specs.declared.position.Key.{Key}
use Rattle.path_core.specs.declared.state.TableState.{TableState}
use Rattle.path_core.specs.Allowed.{IsStep}
use Rattle.path_core.specs.Lawful.{IsSized}
use Rattle.path_core.specs.LawfulLog.{ClaimsTile, OwnClaims}
use Rattle.path_core.specs.LawfulOrders.{IsOrderly}
use Rattle.path_core.specs.LawfulTables.{MemtablesAre, SwitchesAre}
use Rattle.path_core.proofs.lists.Replaced.{put_at}
use Rattle.path_core.proofs.log.ClaimEnds.{ends_below}
use Rattle.path_core.proofs.log.LogGrows.{log_grows}
use Rattle.path_core.proofs.tables.WithBarriers.{barred_at}
use Rattle.path_core.proofs.tables.TableBounds.{log_grown}
use Rattle.path_core.proofs.tables.MemtablesMove.{opened_is, retired_is, barred_is}
use Rattle.path_core.proofs.tables.Memtables.{marked_is, raised_is, finalised_is}

module _ (x : PathState) (sized : IsSized x) (T : ClaimsTile x) (O : IsOrderly x)
    (owned : OwnClaims x) (W : SwitchesAre x) where
  -- the key to which a bound is raised is at most the log key
  raises_low : (by : ℕ) (table : Table) (m : ℕ) (to : Key) → IsStep x (Raise by table m to)
      → to.0 ≤ x.log
  raises_low by table m to a = elim a.row.1 [
    | inl w ↦ ends_below x.capacity x.ordinals x.log x.claims T _ (owned by _ w.end)
    | inr h ↦ ((W.marked by table.0 _ h.marked).fresh to.0 refl).1
  ]

  -- one table changed
  at_set : (t : ℕ) (new : TableState) → t < length x.tables → (P : ℕ → TableState → Type 0)
      → P t new
      → ((u : ℕ) → u ≢ t → P u (table_of x u)) → (u : ℕ)
      → P u (get_or (set x.tables t new) u fresh_table)
  at_set t new inside P here other u = put_at x.tables t new fresh_table inside P here other u

  pub keeps_tables : (e : Event) → IsStep x e → (t : ℕ)
      → MemtablesAre (next_of x e).log (table_of (next_of x e) t)
  keeps_tables (Claim by from to what) a t = log_grown x.log (table_of x t) (W.tables t) to.0
      (log_grows x sized T (Claim by from to what) a)
  keeps_tables (MoveCurrent by Write group) a t =
      barred_at x.write.current (seat_of x by).tables x.tables (λ tb. MemtablesAre x.log tb) t
      (W.tables t) (barred_is x.log (table_of x t) (W.tables t) x.write.current)
  keeps_tables (MoveCurrent by Append group) a t = W.tables t
  keeps_tables (Switch by table m Clear) a t = W.tables t
  keeps_tables (Switch by table m Open) a t = at_set table.0 _ a.is_there
      (λ _ tb. MemtablesAre x.log tb)
      (subst (λ n. MemtablesAre x.log (record (table_of x table.0) {
        newest = n;
        memtables = (table_of x table.0).memtables ++ fresh_memtable ∷ [];
      })) (sym a.row.2) (opened_is x.log (table_of x table.0) (W.tables table.0) a.row.1))
      (λ u _. W.tables u) t
  keeps_tables (Switch by table m Mark) a t = at_set table.0 _ a.is_there.0
      (λ _ tb. MemtablesAre x.log tb)
      (marked_is x.log (table_of x table.0) (W.tables table.0) m a.row.1 a.row.2)
      (λ u _. W.tables u) t
  keeps_tables (Raise by table m to) a t = at_set table.0 _ a.is_there.0
      (λ _ tb. MemtablesAre x.log tb)
      (raised_is x.log (table_of x table.0) (W.tables table.0) m to.0 a.is_there.1
      (raises_low by table m to a)) (λ u _. W.tables u) t
  keeps_tables (Finalise by table m) a t = let M = W.marked by table.0 _ a.row.marked in
      at_set table.0 _ a.is_there.0 (λ _ tb. MemtablesAre x.log tb)
      (finalised_is x.log (table_of x table.0)
      (W.tables table.0) m M.bound M.raising M.mark M.marked
      (M.raised refl)) (λ u _. W.tables u) t
  keeps_tables (Put by Synced value) a t = W.tables t
  keeps_tables (Put by (OldestLive table) value) a t = at_set table.0 _ a.is_there
      (λ _ tb. MemtablesAre x.log tb)
      (subst (λ n. MemtablesAre x.log (record (table_of x table.0) { oldest_live = n }))
      (sym a.row.1) (retired_is x.log (table_of x table.0) (W.tables table.0)
      ((W.tables table.0).barrier_means_final _ _ a.row.2.issued))) (λ u _. W.tables u) t
  keeps_tables (Put by Stopped value) a t = W.tables t
  keeps_tables e a t = W.tables t
