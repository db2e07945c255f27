-- A step changes one word of the tables: the one at its place.
use Rattle.std.proofs.Common.{
  ◌≡◌,
  ◌≢◌,
  ℕ,
  zero,
  suc,
  ◌<◌,
  Bool,
  true,
  false,
  List,
  [],
  ◌∷◌,
  length,
  get_or,
  set,
  map,
  Some,
  is_some,
  refl,
  ap,
  ◌∙◌,
  get_or-set_same,
  get_or-set_other,
}
use Rattle.std.specs.Prelude.{if◌then◌else◌}
use mathlib.Core.Logic.{dite}
use native.Mathlib.Decide.{ℕ_discrete}
use Rattle.clog_base.specs.declared.cell.Table.{Table}
use Rattle.op_core.specs.declared.count.Order.TheVariants.{Write, Append}
use Rattle.path_core.specs.declared.event.Cursor.TheVariants.{Synced, OldestLive, Stopped}
use Rattle.path_core.specs.declared.event.Event.{Event}
use Rattle.path_core.specs.declared.event.Event.TheVariants.{
  MoveCurrent,
  Switch,
  Raise,
  Finalise,
  Put,
}
use Rattle.path_core.specs.declared.event.Place.TheVariants.{Newest, Bound, CursorWord}
use Rattle.path_core.specs.declared.event.SwitchPart.TheVariants.{Clear, Open, Mark}
use Rattle.path_core.specs.declared.seat.SeatTable.{SeatTable}
use Rattle.path_core.specs.declared.state.Bound.{Bound as BoundOf}
use Rattle.path_core.specs.declared.state.Bound.TheVariants.{Raising}
use Rattle.path_core.specs.declared.state.Memtable.{Memtable}
use Rattle.path_core.specs.declared.state.PathState.{PathState}
use Rattle.path_core.specs.declared.state.TableState.{TableState}
use Rattle.path_core.specs.Parts.{
  fresh_memtable,
  fresh_table,
  seat_of,
  table_of,
  memtable_at,
  memtable_of,
}
use Rattle.path_core.specs.Words.{place_of}
use Rattle.path_core.specs.SeatParts.{raised_to, made_final}
use Rattle.path_core.specs.Allowed.{IsStep, is_unbarred}
use Rattle.path_core.specs.Next.{
  next_of,
  barred,
  barred_tables,
  with_bound,
  tables_after,
  with_memtable,
}
use Rattle.path_core.proofs.lists.Replaced.{put_at, default_put}

-- one table replaced by another that reads the same
pub same_at : {A : Type 0} (ts : List TableState) (t : ℕ) (y : TableState) (u : ℕ)
    (read : TableState → A) → read y ≡ read (get_or ts t fresh_table) → t < length ts
    → read (get_or (set ts t y) u fresh_table) ≡ read (get_or ts u fresh_table)
same_at {A} ts t y u read same inside =
    put_at ts t y fresh_table inside (λ v z. read z ≡ read (get_or ts v fresh_table)) same
    (λ v n. refl) u

-- beside the replaced table
other_at : {A : Type 0} (ts : List TableState) (t : ℕ) (y : TableState) (u : ℕ)
    (read : TableState → A) → u ≢ t
    → read (get_or (set ts t y) u fresh_table) ≡ read (get_or ts u fresh_table)
other_at {A} ts t y u read n = ap read (get_or-set_other ts t u y fresh_table n)

-- A barrier of the write order changes what no word tells.
pub barred_reads : {A : Type 0} (read : TableState → A) (group : ℕ) (ss : List SeatTable)
    (ts : List TableState) (u : ℕ)
    → ((t : TableState) → read (record t { memtables = map (barred group) t.memtables }) ≡ read t)
    → read (get_or (barred_tables group ss ts) u fresh_table) ≡ read (get_or ts u fresh_table)
barred_reads {A} read group [] ts u same = refl
barred_reads {A} read group (s ∷ ss) [] u same = refl
barred_reads {A} read group (s ∷ ss) (t ∷ ts) zero same = by (is_some s.flush)
  where
    by : (b : Bool)
        → read (if b then record t { memtables = map (barred group) t.memtables } else t) ≡ read t
    by true = same t
    by false = refl
barred_reads {A} read group (s ∷ ss) (t ∷ ts) (suc u) same = barred_reads read group ss ts u same

bounds_barred : (group : ℕ) (ms : List Memtable) (m : ℕ)
    → (get_or (map (barred group) ms) m fresh_memtable).bound ≡ (get_or ms m fresh_memtable).bound
bounds_barred group [] m = refl
bounds_barred group (x ∷ xs) zero = by (is_unbarred x)
  where
    by : (b : Bool) → (if b then record x { barrier = Some group } else x).bound ≡ x.bound
    by true = refl
    by false = refl
bounds_barred group (x ∷ xs) (suc m) = bounds_barred group xs m

abbrev bound_at : ℕ → TableState → BoundOf
bound_at m t = (memtable_at t m).bound

-- where one memtable is changed, the bounds of the others stay
changed_left : (x : PathState) (t : Table) (n : ℕ) (f : Memtable → Memtable) (u : Table) (m : ℕ)
    → t.0 < length x.tables → Bound u m ≢ Bound t n
    → bound_at m (get_or (set x.tables t.0 (with_memtable (table_of x t.0) n f)) u.0 fresh_table)
    ≡ bound_at m (table_of x u.0)
changed_left x t n f u m inside apart = dite (ℕ_discrete u.0 t.0)
    (λ same. let other : m ≢ n = (λ e. apart (λ i. Bound (record { 0 = same i }) (e i))) in
    same_at x.tables t.0 (with_memtable (table_of x t.0) n f) u.0 (bound_at m)
    (ap (λ (y : Memtable). y.bound) (get_or-set_other (table_of x t.0).memtables n m
    (f (memtable_of x t.0 n)) fresh_memtable other)) inside)
    (λ far. other_at x.tables t.0 (with_memtable (table_of x t.0) n f) u.0 (bound_at m) far)

-- and its own is the changed one's
pub changed_here : (x : PathState) (t n : ℕ) (f : Memtable → Memtable) → t < length x.tables
    → n < length (table_of x t).memtables
    → bound_at n (get_or (set x.tables t (with_memtable (table_of x t) n f)) t fresh_table)
    ≡ (f (memtable_of x t n)).bound
changed_here x t n f inside made =
    ap (bound_at n)
    (get_or-set_same x.tables t (with_memtable (table_of x t) n f) fresh_table inside)
    ∙ ap (λ (y : Memtable). y.bound)
    (get_or-set_same (table_of x t).memtables n (f (memtable_of x t n)) fresh_memtable made)

module _ (x : PathState) (e : Event) (a : IsStep x e) where
  pub newest_left : (u : Table) → Newest u ≢ place_of e
      → (table_of (next_of x e) u.0).newest ≡ (table_of x u.0).newest
  newest_left u n = by e a n
    where
      by : (e : Event) → IsStep x e → Newest u ≢ place_of e
          → (get_or (tables_after x e) u.0 fresh_table).newest ≡ (table_of x u.0).newest
      by (MoveCurrent y Write g) a n =
          barred_reads (λ t. t.newest) x.write.current (seat_of x y).tables x.tables u.0 (λ t. refl)
      by (MoveCurrent y Append g) a n = refl
      by (Switch y t m Clear) a n = refl
      by (Switch y t m Open) a n =
          other_at x.tables t.0 _ u.0 (λ t. t.newest) (λ s. n (λ i. Newest (record { 0 = s i })))
      by (Switch y t m Mark) a n =
          same_at x.tables t.0 _ u.0 (λ t. t.newest) refl a.is_there.0
      by (Raise y t m to) a n = same_at x.tables t.0 _ u.0 (λ t. t.newest) refl a.is_there.0
      by (Finalise y t m) a n = same_at x.tables t.0 _ u.0 (λ t. t.newest) refl a.is_there.0
      by (Put y (OldestLive t) v) a n =
          same_at x.tables t.0 _ u.0 (λ t. t.newest) refl a.is_there
      by (Put y Synced v) a n = refl
      by (Put y Stopped v) a n = refl
      by e a n = refl

  pub live_left : (u : Table) → CursorWord (OldestLive u) ≢ place_of e
      → (table_of (next_of x e) u.0).oldest_live ≡ (table_of x u.0).oldest_live
  live_left u n = by e a n
    where
      by : (e : Event) → IsStep x e → CursorWord (OldestLive u) ≢ place_of e
          → (get_or (tables_after x e) u.0 fresh_table).oldest_live ≡ (table_of x u.0).oldest_live
      by (MoveCurrent y Write g) a n =
          barred_reads (λ t. t.oldest_live) x.write.current (seat_of x y).tables x.tables u.0
          (λ t. refl)
      by (MoveCurrent y Append g) a n = refl
      by (Switch y t m Clear) a n = refl
      by (Switch y t m Open) a n =
          same_at x.tables t.0 _ u.0 (λ t. t.oldest_live) refl a.is_there
      by (Switch y t m Mark) a n =
          same_at x.tables t.0 _ u.0 (λ t. t.oldest_live) refl a.is_there.0
      by (Raise y t m to) a n =
          same_at x.tables t.0 _ u.0 (λ t. t.oldest_live) refl a.is_there.0
      by (Finalise y t m) a n =
          same_at x.tables t.0 _ u.0 (λ t. t.oldest_live) refl a.is_there.0
      by (Put y (OldestLive t) v) a n =
          other_at x.tables t.0 _ u.0 (λ t. t.oldest_live)
          (λ s. n (λ i. CursorWord (OldestLive (record { 0 = s i }))))
      by (Put y Synced v) a n = refl
      by (Put y Stopped v) a n = refl
      by e a n = refl

  pub bound_left : (u : Table) (m : ℕ) → Bound u m ≢ place_of e
      → (memtable_of (next_of x e) u.0 m).bound ≡ (memtable_of x u.0 m).bound
  bound_left u k n = by e a n
    where
      by : (e : Event) → IsStep x e → Bound u k ≢ place_of e
          → bound_at k (get_or (tables_after x e) u.0 fresh_table) ≡ bound_at k (table_of x u.0)
      by (MoveCurrent y Write g) a n =
          barred_reads (bound_at k) x.write.current (seat_of x y).tables x.tables u.0
          (λ t. bounds_barred x.write.current t.memtables k)
      by (MoveCurrent y Append g) a n = refl
      by (Switch y t m Clear) a n = refl
      by (Switch y t m Open) a n =
          same_at x.tables t.0 _ u.0 (bound_at k)
          (ap (λ (y : Memtable). y.bound) (default_put (table_of x t.0).memtables fresh_memtable k))
          a.is_there
      by (Switch y t m Mark) a n =
          changed_left x t m (λ (y : Memtable). record y {
            bound = Raising (record { 0 = 0 });
            mark = Some x.log;
          }) u k a.is_there.0 n
      by (Raise y t m to) a n = changed_left x t m (with_bound (raised_to to.0)) u k a.is_there.0 n
      by (Finalise y t m) a n = changed_left x t m (with_bound made_final) u k a.is_there.0 n
      by (Put y (OldestLive t) v) a n =
          same_at x.tables t.0 _ u.0 (bound_at k) refl a.is_there
      by (Put y Synced v) a n = refl
      by (Put y Stopped v) a n = refl
      by e a n = refl
