-- The stage of a switch after a step of its holder on no memtable: a log key is found, or barriers
-- are issued.
use Rattle.std.proofs.Common.{◌≡◌, ◌≢◌, ℕ, ◌<◌, length, IsSome, refl, sym, ap, ◌∙◌, subst}
use Rattle.std.proofs.Math.ListN.{get_or-map as get_or-map_default}
use mathlib.Core.Logic.{dite}
use native.Mathlib.Decide.{ℕ_discrete}
use Rattle.op_core.specs.declared.count.Order.TheVariants.{Write}
use Rattle.path_core.specs.declared.event.Event.{Event}
use Rattle.path_core.specs.declared.event.Event.TheVariants.{Look, MoveCurrent}
use Rattle.path_core.specs.declared.event.Place.TheVariants.{Log}
use Rattle.path_core.specs.declared.seat.SeatTable.{SeatTable}
use Rattle.path_core.specs.declared.seat.Switching.{Switching}
use Rattle.path_core.specs.declared.seat.Switching.TheVariants.{
  Settled,
  Begun,
  Marked as MarkedStage,
  Waiting,
  WithBarrier,
}
use Rattle.path_core.specs.declared.state.Memtable.{Memtable}
use Rattle.path_core.specs.declared.state.PathState.{PathState}
use Rattle.path_core.specs.declared.state.TableState.{TableState}
use Rattle.path_core.specs.Parts.{untouched, seat_of, seat_table, table_of, memtable_of, stage_of}
use Rattle.path_core.specs.Words.{by_of, reading, place_of}
use Rattle.path_core.specs.Allowed.{IsStep}
use Rattle.path_core.specs.SeatParts.{at_table, log_found, key_found, with_barrier, barrier_issued}
use Rattle.path_core.specs.Next.{next_of, told_of}
use Rattle.path_core.specs.Lawful.{IsLawfulCore}
use Rattle.path_core.specs.LawfulSeats.{IsBegun, HasBarrier}
use Rattle.path_core.proofs.seats.Columns.{own_after, at_table_same, at_table_other, seat_fits}
use Rattle.path_core.proofs.tables.WithBarriers.{
  barred_table,
  bound_barred,
  barrier_barred,
  memtable_barred,
}
use Rattle.path_core.proofs.tables.StageLeft.{ChangesStage, stage_at, stages_left}
use Rattle.path_core.proofs.orders.KeepsSwitchHolders.{settled_stays}
use Rattle.path_core.proofs.tables.SwitchLeft.{
  TableStands,
  stands_itself,
  barrier_given,
  barred_where_held,
}
use Rattle.path_core.proofs.tables.StageStands.{
  Stands,
  Staged,
  key_stands,
  staged_mapped,
  staged_held,
  stage_stands,
  quiet_stands,
}

module _ (x : PathState) (C : IsLawfulCore x) where
  -- The acting seat.

  abbrev pub Own : Event → Type 0
  Own e = (t : ℕ) → Staged x t (stage_of (seat_of x (by_of e)) t)

  -- its part of one table changes, and that table
  pub at_one : (e : Event) → IsStep x e → (u : ℕ) → u < length x.tables
      → (f : SeatTable → SeatTable)
      → ((t : ℕ) → stage_of (own_after x e) t
      ≡ stage_of (at_table u f (seat_of x (by_of e))) t)
      → ((t : ℕ) → t ≢ u → table_of (next_of x e) t ≡ table_of x t)
      → Staged (next_of x e) u (stage_at (f (seat_table (seat_of x (by_of e)) u)))
      → Own e → (t : ℕ) → Staged (next_of x e) t (stage_of (own_after x e) t)
  at_one e a u inside f is others here K t = subst (Staged (next_of x e) t) (sym (is t))
      (dite (ℕ_discrete t u)
      (λ q. subst (λ k. Staged (next_of x e) k (stage_of (at_table u f (seat_of x (by_of e))) k))
      (sym q) (subst (Staged (next_of x e) u) (sym (ap stage_at
      (at_table_same u f (seat_of x (by_of e)) (seat_fits x C.log.sized u (by_of e) inside))))
      here))
      (λ n. subst (Staged (next_of x e) t) (sym (ap stage_at
      (at_table_other u t f (seat_of x (by_of e)) n)))
      (λ stage h. stage_stands x C e a t (subst (TableStands (table_of x t)) (sym (others t n))
      (stands_itself (table_of x t))) stage (K t stage h))))

  -- a step that changes no stage
  pub quiet_own : (e : Event) → IsStep x e → (ChangesStage e → ⊥) → Own e → (t : ℕ)
      → Staged (next_of x e) t (stage_of (own_after x e) t)
  quiet_own e a other K t stage h = stage_stands x C e a t (quiet_stands x C e a other t) stage
      (K t stage (sym (stages_left e (seat_of x (by_of e)) (reading x (place_of e))
      (told_of x e) t other) ∙ h))

  -- The log key is found.
  pub looks_at_log : (by : ℕ) (a : IsStep x (Look by Log)) → Own (Look by Log) → (t : ℕ)
      → Staged (next_of x (Look by Log)) t (stage_of (own_after x (Look by Log)) t)
  looks_at_log by a K t = subst (Staged (next_of x e) t)
      (sym (ap stage_at (get_or-map_default (log_found x.log) (seat_of x by).tables t untouched)))
      (staged_mapped (next_of x e) t (seat_table (seat_of x by) t).flush _ (key_found x.log)
      (λ turn. refl) (λ stage h. key_stands (next_of x e) t x.log stage
      (stage_stands x C e a t (stands_itself (table_of x t)) stage (K t stage h))))
    where
      e : Event
      e = Look by Log

  -- Barriers are issued: what waited for one has it.
  pub issues : (by group : ℕ) (a : IsStep x (MoveCurrent by Write group))
      → Own (MoveCurrent by Write group) → (t : ℕ)
      → Staged (next_of x (MoveCurrent by Write group)) t
      (stage_of (own_after x (MoveCurrent by Write group)) t)
  issues by group a K t = subst (Staged (next_of x e) t)
      (sym (ap stage_at
      (get_or-map_default (barrier_issued before) (seat_of x by).tables t untouched)))
      (staged_mapped (next_of x e) t (seat_table (seat_of x by) t).flush _ (with_barrier before)
      (λ turn. refl) (λ stage h. given stage (K t stage h) (is (staged_held
      (seat_table (seat_of x by) t).flush stage h))))
    where
      e : Event
      e = MoveCurrent by Write group

      before : ℕ
      before = x.write.current

      is : IsSome (seat_table (seat_of x by) t).flush
          → table_of (next_of x e) t ≡ barred_table before (table_of x t)
      is held = barred_where_held before (seat_of x by).tables x.tables t held

      given : (stage : Switching) → Stands x t stage
          → table_of (next_of x e) t ≡ barred_table before (table_of x t)
          → Stands (next_of x e) t (with_barrier before stage)
      given Settled S same = settled_stays x C.log.sized C.log.orders e a t
          (ap (λ (tb : TableState). tb.newest) same) S
      given (Begun m) S same = subst (λ tb. IsBegun tb m) (sym same) (record {
        newest = S.newest;
        below = S.below;
        before = S.before;
        live = bound_barred before (table_of x t) S.below ∙ S.live;
      })
      given (MarkedStage k) S same = tt
      given (Waiting m) S same = subst (λ tb. HasBarrier tb m before) (sym same) (record {
        below_newest = S.below_newest;
        issued = ap (λ (k : Memtable). k.barrier) (memtable_barred before (table_of x t) m)
            ∙ barrier_given before (memtable_of x t m) S.final S.no_barrier;
      })
      given (WithBarrier m g) S same = subst (λ tb. HasBarrier tb m g) (sym same) (record {
        below_newest = S.below_newest;
        issued = barrier_barred before (table_of x t) m g S.issued;
      })
