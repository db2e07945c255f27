-- What a step leaves of a table for the stage of its switch.
use Rattle.std.proofs.Common.{
  ◌≡◌,
  ℕ,
  zero,
  suc,
  ◌<◌,
  Bool,
  true,
  false,
  cond,
  List,
  [],
  ◌∷◌,
  ◌⊎◌,
  length,
  get_or,
  Option,
  Some,
  None,
  is_some,
  is_none,
  IsSome,
  refl,
  ap,
}
use Rattle.std.proofs.lemmas.Bool.{false≢true, and_from}
use mathlib.Core.Logic.{inl, inr}
use Rattle.path_core.specs.declared.seat.SeatTable.{SeatTable}
use Rattle.path_core.specs.declared.state.Bound.{Bound}
use Rattle.path_core.specs.declared.state.Bound.TheVariants.{Live, Raising, Final}
use Rattle.path_core.specs.declared.state.Memtable.{Memtable}
use Rattle.path_core.specs.declared.state.TableState.{TableState}
use Rattle.path_core.specs.Parts.{
  fresh_memtable,
  fresh_table,
  untouched,
  memtable_at,
  is_final,
  IsFinal,
}
use Rattle.path_core.specs.SeatParts.{raised_to}
use Rattle.path_core.specs.Next.{with_memtable, with_bound, barred, barred_tables}
use Rattle.path_core.proofs.lists.Replaced.{put_at}
use Rattle.path_core.proofs.tables.WithBarriers.{barred_table}

-- A table whose turn the seat holds gets the barriers, and another one does not.

pub barred_unless_held : (group : ℕ) (ss : List SeatTable) (ts : List TableState)
    (P : TableState → Type 0) (t : ℕ) → P (get_or ts t fresh_table)
    → P (get_or (barred_tables group ss ts) t fresh_table) ⊎ IsSome (get_or ss t untouched).flush
barred_unless_held group [] ts P t same = inl same
barred_unless_held group (s ∷ ss) [] P t same = inl same
barred_unless_held group (s ∷ ss) (u ∷ us) P zero same = choose (is_some s.flush) refl
  where
    choose : (b : Bool) → is_some s.flush ≡ b
        → P (cond b (barred_table group u) u) ⊎ IsSome s.flush
    choose true e = inr e
    choose false e = inl same
barred_unless_held group (s ∷ ss) (u ∷ us) P (suc t) same = barred_unless_held group ss us P t same

pub barred_where_held : (group : ℕ) (ss : List SeatTable) (ts : List TableState) (t : ℕ)
    → IsSome (get_or ss t untouched).flush
    → get_or (barred_tables group ss ts) t fresh_table
    ≡ barred_table group (get_or ts t fresh_table)
barred_where_held group [] ts t held = absurd (false≢true held)
barred_where_held group (s ∷ ss) [] t held = refl
barred_where_held group (s ∷ ss) (u ∷ us) zero held =
    ap (λ (b : Bool). cond b (barred_table group u) u) held
barred_where_held group (s ∷ ss) (u ∷ us) (suc t) held = barred_where_held group ss us t held

-- a final memtable without a barrier gets this one
pub barrier_given : (group : ℕ) (k : Memtable) → IsFinal k.bound → k.barrier ≡ None
    → (barred group k).barrier ≡ Some group
barrier_given group k final none =
    ap (λ (b : Bool). (cond b (record k { barrier = Some group }) k).barrier)
    (and_from (is_final k.bound) (is_none k.barrier) (passes k.bound final)
    (ap (λ (o : Option ℕ). is_none o) none))
  where
    passes : (b : Bound) → IsFinal b → is_final b ≡ true
    passes Live f = absurd f
    passes (Raising j) f = absurd f
    passes (Final j) f = refl

-- What a step leaves of a table for the stage of its switch.

pub record TableStands (table after : TableState) : Type 0 where
  pub newest : after.newest ≡ table.newest
  pub live : (m : ℕ) → (memtable_at table m).bound ≡ Live → (memtable_at after m).bound ≡ Live
  pub final : (m : ℕ) → IsFinal (memtable_at table m).bound → IsFinal (memtable_at after m).bound
  pub barrier : (m : ℕ) → (memtable_at after m).barrier ≡ (memtable_at table m).barrier

pub stands_itself : (table : TableState) → TableStands table table
stands_itself table = record {
  newest = refl;
  live = λ m h. h;
  final = λ m h. h;
  barrier = λ m. refl;
}

-- a raise leaves it
pub raised_stands : (table : TableState) (m to : ℕ) → m < length table.memtables
    → TableStands table (with_memtable table m (with_bound (raised_to to)))
raised_stands table m to inside = record {
  newest = refl;
  live = λ k. at k (λ j n. (memtable_at table j).bound ≡ Live → n.bound ≡ Live)
      (live (memtable_at table m).bound) (λ j h. h);
  final = λ k. at k (λ j n. IsFinal (memtable_at table j).bound → IsFinal n.bound)
      (final (memtable_at table m).bound) (λ j h. h);
  barrier = λ k. at k (λ j n. n.barrier ≡ (memtable_at table j).barrier) refl (λ j. refl);
}
  where
    at : (k : ℕ) (P : ℕ → Memtable → Type 0) → P m (with_bound (raised_to to) (memtable_at table m))
        → ((j : ℕ) → P j (memtable_at table j))
        → P k (memtable_at (with_memtable table m (with_bound (raised_to to))) k)
    at k P here others = put_at table.memtables m (with_bound (raised_to to) (memtable_at table m))
        fresh_memtable inside P here (λ j _. others j) k

    live : (b : Bound) → b ≡ Live → raised_to to b ≡ Live
    live Live e = refl
    live (Raising j) e = let q : Raising j ≡ Live = e in cc
    live (Final j) e = e

    final : (b : Bound) → IsFinal b → IsFinal (raised_to to b)
    final Live f = absurd f
    final (Raising j) f = absurd f
    final (Final j) f = tt
