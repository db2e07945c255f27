-- Barriers of memtables and of markers: a step keeps each, and issues new ones only for the group
-- that was current, when it makes the next one current.
use Rattle.std.proofs.Common.{
  ◌≡◌,
  ℕ,
  suc,
  ◌<◌,
  ◌≤◌,
  Bool,
  true,
  false,
  cond,
  length,
  Some,
  IsTrue,
  refl,
  sym,
  ap,
  ◌∙◌,
  subst,
  arith,
  ◌⊎◌,
}
use Rattle.std.proofs.lemmas.Option.{none-some, same_Some}
use Rattle.std.proofs.lemmas.List.{get_or-map, length-map}
use mathlib.Core.Logic.{inl, inr}
use Rattle.op_core.specs.declared.count.Order.{Order}
use Rattle.op_core.specs.declared.count.Order.TheVariants.{Write, Append}
use Rattle.path_core.specs.declared.event.Cursor.TheVariants.{Synced, OldestLive, Stopped}
use Rattle.path_core.specs.declared.event.Event.{Event}
use Rattle.path_core.specs.declared.event.Event.TheVariants.{
  MoveCurrent,
  Claim,
  Switch,
  Raise,
  Finalise,
  Put,
}
use Rattle.path_core.specs.declared.event.SwitchPart.TheVariants.{Clear, Open, Mark}
use Rattle.path_core.specs.declared.state.Bound.TheVariants.{Raising}
use Rattle.path_core.specs.declared.state.Claim.{Claim as ClaimOf}
use Rattle.path_core.specs.declared.state.Memtable.{Memtable}
use Rattle.path_core.specs.declared.state.PathState.{PathState}
use Rattle.path_core.specs.declared.state.TableState.{TableState}
use Rattle.path_core.specs.Parts.{
  fresh_memtable,
  fresh_table,
  no_claim,
  groups_of,
  seat_of,
  table_of,
  memtable_at,
  memtable_of,
  claim_at,
  is_marker,
}
use Rattle.path_core.specs.Allowed.{IsStep, is_unbarred_marker}
use Rattle.path_core.specs.SeatParts.{raised_to, made_final}
use Rattle.path_core.specs.Next.{next_of, claim_of, with_memtable, with_bound, barred_marker}
use Rattle.path_core.specs.Lawful.{IsSized}
use Rattle.path_core.specs.LawfulLog.{ClaimsTile}
use Rattle.path_core.specs.LawfulOrders.{IsOrderly}
use Rattle.path_core.specs.LawfulTables.{SwitchesAre, BarriersBelow}
use Rattle.path_core.proofs.lists.Replaced.{put_at, push_at, default_put}
use Rattle.path_core.proofs.tables.WithBarriers.{barred_at, barrier_barred}
use Rattle.path_core.proofs.places.TableMoves.{table_moves}

-- one memtable changes, and keeps its barrier
changed_keeps : (table : TableState) (k : ℕ) (f : Memtable → Memtable) → k < length table.memtables
    → (f (memtable_at table k)).barrier ≡ (memtable_at table k).barrier → (m : ℕ)
    → (memtable_at (with_memtable table k f) m).barrier ≡ (memtable_at table m).barrier
changed_keeps table k f inside same = put_at table.memtables k (f (memtable_at table k))
    fresh_memtable inside (λ m n. n.barrier ≡ (memtable_at table m).barrier) same (λ _ _. refl)

-- A marker's barrier was there, or is of the group that was current before the step.
pub record BarrierWas (x : PathState) (i g current : ℕ) (c : ClaimOf) : Type 0 where
  pub inside : i < length x.claims
  pub start : (claim_at x i).start ≡ c.start
  pub marker : IsTrue (is_marker c) → IsTrue (is_marker (claim_at x i))
  pub barrier : ((claim_at x i).barrier ≡ Some g)
      ⊎ ((g ≡ x.append.current) × (current ≡ suc x.append.current))

-- a marker that a step leaves as it is
marker_left : (x : PathState) (i g current : ℕ) → i < length x.claims
    → (claim_at x i).barrier ≡ Some g → BarrierWas x i g current (claim_at x i)
marker_left x i g current inside h = record {
  inside = inside;
  start = refl;
  marker = λ m. m;
  barrier = inl h;
}

-- what a marker's barrier was before a step
pub marker_barrier : (x : PathState) (e : Event) → IsStep x e → (i g : ℕ)
    → i < length (next_of x e).claims → (claim_at (next_of x e) i).barrier ≡ Some g
    → BarrierWas x i g (next_of x e).append.current (claim_at (next_of x e) i)
marker_barrier x (Claim by from to what) a i g inside h =
    push_at x.claims (claim_of x.capacity by from.0 to.0 what) no_claim
    (λ i c. c.barrier ≡ Some g → BarrierWas x i g x.append.current c)
    (λ i l q. marker_left x i g x.append.current l q)
    (λ q. absurd (none-some g q)) i inside h
marker_barrier x (MoveCurrent by Append group) a i g inside h =
    let long = length-map x.claims (barred_marker by x.append.current) in
    let l : i < length x.claims = omega arith in
    let is = get_or-map (barred_marker by x.append.current) x.claims i no_claim no_claim l in
    subst (λ c. BarrierWas x i g group c) (sym is)
    (choose (is_unbarred_marker by (claim_at x i)) l
    (subst (λ (c : ClaimOf). c.barrier ≡ Some g) is h))
  where
    choose : (b : Bool) → i < length x.claims
        → (cond b (record (claim_at x i) { barrier = Some x.append.current })
        (claim_at x i)).barrier ≡ Some g
        → BarrierWas x i g group (cond b
        (record (claim_at x i) { barrier = Some x.append.current }) (claim_at x i))
    choose true l q = record {
      inside = l;
      start = refl;
      marker = λ m. m;
      barrier = inr (sym (same_Some x.append.current g q), a.row.1);
    }
    choose false l q = marker_left x i g group l q
marker_barrier x (MoveCurrent by Write group) a i g inside h =
    marker_left x i g x.append.current inside h
marker_barrier x e a i g inside h = marker_left x i g (next_of x e).append.current inside h

-- A step that issues no barriers for memtables.
abbrev IssuesBarriers : Event → Type 0
IssuesBarriers (MoveCurrent by Write group) = Unit {0}
IssuesBarriers _ = ⊥

-- any other step leaves the barriers of memtables
same_barrier : (x : PathState) (e : Event) → IsStep x e → (IssuesBarriers e → ⊥) → (t m : ℕ)
    → (memtable_of (next_of x e) t m).barrier ≡ (memtable_of x t m).barrier
same_barrier x (MoveCurrent by Write group) a other t m = absurd (other tt)
same_barrier x (MoveCurrent by Append group) a other t m = refl
same_barrier x (Switch by table k Clear) a other t m = refl
same_barrier x (Switch by table k Open) a other t m =
    put_at x.tables table.0 _ fresh_table a.is_there
    (λ u tb. (memtable_at tb m).barrier ≡ (memtable_of x u m).barrier)
    (ap (λ (n : Memtable). n.barrier)
    (default_put (table_of x table.0).memtables fresh_memtable m)) (λ _ _. refl) t
same_barrier x (Switch by table k Mark) a other t m =
    put_at x.tables table.0 _ fresh_table a.is_there.0
    (λ u tb. (memtable_at tb m).barrier ≡ (memtable_of x u m).barrier)
    (changed_keeps (table_of x table.0) k (λ (n : Memtable).
    record n { bound = Raising (record { 0 = 0 }); mark = Some x.log }) a.is_there.1 refl m)
    (λ _ _. refl) t
same_barrier x (Raise by table k to) a other t m =
    put_at x.tables table.0 _ fresh_table a.is_there.0
    (λ u tb. (memtable_at tb m).barrier ≡ (memtable_of x u m).barrier)
    (changed_keeps (table_of x table.0) k (with_bound (raised_to to.0)) a.is_there.1 refl m)
    (λ _ _. refl) t
same_barrier x (Finalise by table k) a other t m =
    put_at x.tables table.0 _ fresh_table a.is_there.0
    (λ u tb. (memtable_at tb m).barrier ≡ (memtable_of x u m).barrier)
    (changed_keeps (table_of x table.0) k (with_bound made_final) a.is_there.1 refl m)
    (λ _ _. refl) t
same_barrier x (Put by Synced value) a other t m = refl
same_barrier x (Put by (OldestLive table) value) a other t m =
    put_at x.tables table.0 _ fresh_table a.is_there
    (λ u tb. (memtable_at tb m).barrier ≡ (memtable_of x u m).barrier) refl (λ _ _. refl) t
same_barrier x (Put by Stopped value) a other t m = refl
same_barrier x e a other t m = refl

-- a memtable's barrier stays
pub barrier_stays : (x : PathState) (e : Event) → IsStep x e → (t m g : ℕ)
    → (memtable_of x t m).barrier ≡ Some g → (memtable_of (next_of x e) t m).barrier ≡ Some g
barrier_stays x (MoveCurrent by Write group) a t m g h = barred_at x.write.current
    (seat_of x by).tables x.tables (λ tb. (memtable_at tb m).barrier ≡ Some g) t h
    (barrier_barred x.write.current (table_of x t) m g h)
barrier_stays x e a t m g h = same_barrier x e a (λ b. b) t m ∙ h

module _ (x : PathState) (sized : IsSized x) (T : ClaimsTile x) (O : IsOrderly x)
    (W : SwitchesAre x) where
  -- what a memtable's barrier was before a step
  pub memtable_barrier : (e : Event) → IsStep x e → (t m g : ℕ)
      → (memtable_of (next_of x e) t m).barrier ≡ Some g
      → ((memtable_of x t m).barrier ≡ Some g)
      ⊎ ((g ≡ x.write.current) × ((next_of x e).write.current ≡ suc x.write.current))
  memtable_barrier (MoveCurrent by Write group) a t m g h = elim
      ((table_moves x sized T O W (MoveCurrent by Write group) a t).barriers m g h) [
        | inl old ↦ inl old
        | inr is ↦ inr (is, a.row.1)
      ]
  memtable_barrier e a t m g h = inl (sym (same_barrier x e a (λ b. b) t m) ∙ h)

  -- Each allowed step keeps that the groups of barriers are below the current one.
  pub keeps_barriers : BarriersBelow x → (e : Event) → IsStep x e
      → ((o : Order) → (groups_of x o).current ≤ (groups_of (next_of x e) o).current)
      → BarriersBelow (next_of x e)
  keeps_barriers B e a grows = record {
    memtables = λ t m g h. let up = grows Write in elim (memtable_barrier e a t m g h) [
      | inl old ↦ (let l = B.memtables t m g old in omega arith)
      | inr now ↦ (let is = now.0 in let next = now.1 in omega arith)
    ];
    markers = λ i g inside h. let up = grows Append in
        let W = marker_barrier x e a i g inside h in elim W.barrier [
          | inl old ↦ (let l = B.markers i g W.inside old in omega arith)
          | inr now ↦ (let is = now.0 in let next = now.1 in omega arith)
        ];
  }
