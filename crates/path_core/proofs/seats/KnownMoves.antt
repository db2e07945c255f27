-- What a step leaves of a table, for seats that know it.
use Rattle.std.proofs.Common.{
  ◌≡◌,
  ℕ,
  ◌<◌,
  ◌++◌,
  [],
  ◌∷◌,
  length,
  Option,
  Some,
  None,
  IsSome,
  refl,
  sym,
  ap,
  subst,
  arith,
  ◌⊎◌,
  length-set,
  length-append,
  get_or-set_same,
}
use Rattle.std.specs.Option.{option_and_then}
use Rattle.std.proofs.lemmas.List.{length-map}
use Rattle.std.proofs.lemmas.Option.{none-some}
use mathlib.Core.Logic.{inl, inr}
use Rattle.op_core.specs.declared.count.Order.TheVariants.{Write, Append}
use Rattle.path_core.specs.declared.event.Cursor.TheVariants.{Synced, OldestLive, Stopped}
use Rattle.path_core.specs.declared.event.Event.{Event}
use Rattle.path_core.specs.declared.event.Event.TheVariants.{
  MoveCurrent,
  Switch,
  Raise,
  Finalise,
  Put,
}
use Rattle.path_core.specs.declared.event.SwitchPart.TheVariants.{Clear, Open, Mark}
use Rattle.path_core.specs.declared.seat.FlushTurn.{FlushTurn}
use Rattle.path_core.specs.declared.seat.Marked.{Marked}
use Rattle.path_core.specs.declared.seat.Seat.{Seat}
use Rattle.path_core.specs.declared.seat.SeatTable.{SeatTable}
use Rattle.path_core.specs.declared.state.Bound.TheVariants.{Raising}
use Rattle.path_core.specs.declared.state.Memtable.{Memtable}
use Rattle.path_core.specs.declared.state.PathState.{PathState}
use Rattle.path_core.specs.declared.state.TableState.{TableState}
use Rattle.path_core.specs.Parts.{
  fresh_memtable,
  fresh_table,
  untouched,
  seat_of,
  seat_table,
  table_of,
  memtable_at,
  memtable_of,
  marked_in,
}
use Rattle.path_core.specs.Words.{by_of}
use Rattle.path_core.specs.Allowed.{IsStep}
use Rattle.path_core.specs.SeatParts.{at_table, raised_to, made_final}
use Rattle.path_core.specs.Next.{next_of, with_memtable, with_bound, barred}
use Rattle.path_core.specs.Lawful.{IsLawfulLog}
use Rattle.path_core.specs.LawfulSeats.{BoundStays, BoundExact}
use Rattle.path_core.proofs.lists.Replaced.{put_at, default_put}
use Rattle.path_core.proofs.tables.WithBarriers.{barred_table, barred_at, bound_barred}
use Rattle.path_core.proofs.seats.KnownTables.{
  TableGrows,
  TableLeft,
  left_itself,
  left_grows,
  same_grows,
}
use Rattle.path_core.proofs.seats.KnownBounds.{
  stays_itself,
  exact_itself,
  raised_exact,
  final_stays,
}

-- What a step leaves of a table.

-- a new memtable changes no bound
pub opened_same : (table : TableState) (n m : ℕ)
    → (memtable_at (record table {
      newest = n;
      memtables = table.memtables ++ fresh_memtable ∷ [];
    }) m).bound ≡ (memtable_at table m).bound
opened_same table n m = ap (λ (k : Memtable). k.bound)
    (default_put table.memtables fresh_memtable m)

-- barriers change no bound
pub barred_left : (group : ℕ) (table : TableState) → TableLeft table (barred_table group table)
barred_left group table = record {
  made = let long = length-map table.memtables (barred group) in omega arith;
  newest = refl;
  oldest_live = refl;
  bounds = λ m. subst (BoundExact (memtable_at table m).bound)
      (sym (bound_barred group table m)) (exact_itself (memtable_at table m).bound);
}

-- one memtable changes, and its bound goes forward
changed_grows : (table : TableState) (m : ℕ) (f : Memtable → Memtable)
    → m < length table.memtables
    → BoundStays (memtable_at table m).bound (f (memtable_at table m)).bound
    → TableGrows table (with_memtable table m f)
changed_grows table m f inside stays = record {
  made = let long = length-set table.memtables m (f (memtable_at table m)) in omega arith;
  bounds = put_at table.memtables m (f (memtable_at table m)) fresh_memtable inside
      (λ k n. BoundStays (memtable_at table k).bound n.bound) stays
      (λ k _. stays_itself (memtable_at table k).bound);
}

-- a bound is raised
pub raised_left : (table : TableState) (m to : ℕ) → m < length table.memtables
    → TableLeft table (with_memtable table m (with_bound (raised_to to)))
raised_left table m to inside = record {
  made = let long = length-set table.memtables m (with_bound (raised_to to)
      (memtable_at table m)) in omega arith;
  newest = refl;
  oldest_live = refl;
  bounds = put_at table.memtables m (with_bound (raised_to to) (memtable_at table m))
      fresh_memtable inside (λ k n. BoundExact (memtable_at table k).bound n.bound)
      (raised_exact to (memtable_at table m).bound)
      (λ k _. exact_itself (memtable_at table k).bound);
}

-- the memtable that changed, as it is read after it
pub changed_at : (table : TableState) (m : ℕ) (f : Memtable → Memtable) → m < length table.memtables
    → (memtable_at (with_memtable table m f) m).bound ≡ (f (memtable_at table m)).bound
changed_at table m f inside = ap (λ (k : Memtable). k.bound)
    (get_or-set_same table.memtables m (f (memtable_at table m)) fresh_memtable inside)

-- the memtable that changed is there
pub changed_made : (table : TableState) (m : ℕ) (f : Memtable → Memtable)
    → m < length table.memtables → m < length (with_memtable table m f).memtables
changed_made table m f inside =
    let long = length-set table.memtables m (f (memtable_at table m)) in omega arith

-- who has marked a memtable holds the turn
pub marked_held : (o : Option FlushTurn) (k : Marked)
    → option_and_then (λ (turn : FlushTurn). marked_in turn.stage) o ≡ Some k → IsSome o
marked_held None k h = absurd (none-some k h)
marked_held (Some turn) k h = refl

-- one table of a seat changed
pub at_each : (t : ℕ) (f : SeatTable → SeatTable) (s : Seat) (P : ℕ → SeatTable → Type 0)
    → t < length s.tables → P t (f (seat_table s t)) → ((u : ℕ) → P u (seat_table s u)) → (u : ℕ)
    → P u (seat_table (at_table t f s) u)
at_each t f s P inside here others =
    put_at s.tables t (f (seat_table s t)) untouched inside P here (λ u _. others u)

module _ (x : PathState) (L : IsLawfulLog x) where
  -- the mark of a memtable
  abbrev pub mark : Memtable → Memtable
  mark k = record k { bound = Raising (record { 0 = 0 }); mark = Some x.log }

  -- each table goes forward
  pub table_grows : (e : Event) → IsStep x e → (t : ℕ)
      → TableGrows (table_of x t) (table_of (next_of x e) t)
  table_grows (MoveCurrent by Write group) a t = barred_at x.write.current
      (seat_of x by).tables x.tables (λ tb. TableGrows (table_of x t) tb) t
      (left_grows _ _ (left_itself (table_of x t)))
      (left_grows _ _ (barred_left x.write.current (table_of x t)))
  table_grows (MoveCurrent by Append group) a t = left_grows _ _ (left_itself (table_of x t))
  table_grows (Switch by table m Clear) a t = left_grows _ _ (left_itself (table_of x t))
  table_grows (Switch by table m Open) a t =
      put_at x.tables table.0 _ fresh_table a.is_there
      (λ u tb. TableGrows (table_of x u) tb)
      (let long = length-append (table_of x table.0).memtables (fresh_memtable ∷ []) in
      same_grows (table_of x table.0) _ (omega arith) (opened_same (table_of x table.0) m))
      (λ u _. left_grows _ _ (left_itself (table_of x u))) t
  table_grows (Switch by table m Mark) a t = put_at x.tables table.0 _ fresh_table a.is_there.0
      (λ u tb. TableGrows (table_of x u) tb)
      (changed_grows (table_of x table.0) m mark a.is_there.1
      (subst (λ b. BoundStays b (Raising (record { 0 = 0 }))) (sym a.row.2) tt))
      (λ u _. left_grows _ _ (left_itself (table_of x u))) t
  table_grows (Raise by table m to) a t = put_at x.tables table.0 _ fresh_table a.is_there.0
      (λ u tb. TableGrows (table_of x u) tb)
      (left_grows _ _ (raised_left (table_of x table.0) m to.0 a.is_there.1))
      (λ u _. left_grows _ _ (left_itself (table_of x u))) t
  table_grows (Finalise by table m) a t = put_at x.tables table.0 _ fresh_table a.is_there.0
      (λ u tb. TableGrows (table_of x u) tb)
      (changed_grows (table_of x table.0) m (with_bound made_final) a.is_there.1
      (final_stays (memtable_of x table.0 m).bound))
      (λ u _. left_grows _ _ (left_itself (table_of x u))) t
  table_grows (Put by (OldestLive table) value) a t =
      put_at x.tables table.0 _ fresh_table a.is_there
      (λ u tb. TableGrows (table_of x u) tb)
      (same_grows (table_of x table.0) _ (omega arith) (λ m. refl))
      (λ u _. left_grows _ _ (left_itself (table_of x u))) t
  table_grows (Put by Synced value) a t = left_grows _ _ (left_itself (table_of x t))
  table_grows (Put by Stopped value) a t = left_grows _ _ (left_itself (table_of x t))
  table_grows e a t = left_grows _ _ (left_itself (table_of x t))

  -- its words stay, or the holder of its turn acts
  pub table_left : (e : Event) → IsStep x e → (t : ℕ)
      → TableLeft (table_of x t) (table_of (next_of x e) t)
      ⊎ IsSome (seat_table (seat_of x (by_of e)) t).flush
  table_left (MoveCurrent by Write group) a t = inl (barred_at x.write.current
      (seat_of x by).tables x.tables (λ tb. TableLeft (table_of x t) tb) t
      (left_itself (table_of x t)) (barred_left x.write.current (table_of x t)))
  table_left (MoveCurrent by Append group) a t = inl (left_itself (table_of x t))
  table_left (Switch by table m Clear) a t = inl (left_itself (table_of x t))
  table_left (Switch by table m Open) a t = put_at x.tables table.0 _ fresh_table a.is_there
      (λ u tb. TableLeft (table_of x u) tb ⊎ IsSome (seat_table (seat_of x by) u).flush)
      (inr a.row.0) (λ u _. inl (left_itself (table_of x u))) t
  table_left (Switch by table m Mark) a t = put_at x.tables table.0 _ fresh_table a.is_there.0
      (λ u tb. TableLeft (table_of x u) tb ⊎ IsSome (seat_table (seat_of x by) u).flush)
      (inr a.row.0) (λ u _. inl (left_itself (table_of x u))) t
  table_left (Raise by table m to) a t = inl
      (put_at x.tables table.0 _ fresh_table a.is_there.0 (λ u tb. TableLeft (table_of x u) tb)
      (raised_left (table_of x table.0) m to.0 a.is_there.1)
      (λ u _. left_itself (table_of x u)) t)
  table_left (Finalise by table m) a t = put_at x.tables table.0 _ fresh_table a.is_there.0
      (λ u tb. TableLeft (table_of x u) tb ⊎ IsSome (seat_table (seat_of x by) u).flush)
      (inr (marked_held (seat_table (seat_of x by) table.0).flush _ a.row.marked))
      (λ u _. inl (left_itself (table_of x u))) t
  table_left (Put by (OldestLive table) value) a t =
      put_at x.tables table.0 _ fresh_table a.is_there
      (λ u tb. TableLeft (table_of x u) tb ⊎ IsSome (seat_table (seat_of x by) u).flush)
      (inr a.row.0) (λ u _. inl (left_itself (table_of x u))) t
  table_left (Put by Synced value) a t = inl (left_itself (table_of x t))
  table_left (Put by Stopped value) a t = inl (left_itself (table_of x t))
  table_left e a t = inl (left_itself (table_of x t))
