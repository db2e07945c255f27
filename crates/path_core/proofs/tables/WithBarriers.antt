-- What it leaves of a table that its final memtables get a barrier, where they have none.
use Rattle.std.proofs.Common.{
  ◌≡◌,
  ℕ,
  zero,
  suc,
  Bool,
  true,
  false,
  cond,
  List,
  [],
  ◌∷◌,
  get_or,
  map,
  Option,
  Some,
  is_some,
  is_none,
  refl,
  sym,
  ap,
  ◌∙◌,
  ◌⊎◌,
}
use Rattle.std.proofs.lemmas.Bool.{and_right}
use Rattle.std.proofs.lemmas.Option.{same_Some}
use Rattle.std.proofs.Math.ListN.{get_or-map as get_or-map_default}
use mathlib.Core.Logic.{inl, inr}
use Rattle.path_core.specs.declared.seat.SeatTable.{SeatTable}
use Rattle.path_core.specs.declared.state.Memtable.{Memtable}
use Rattle.path_core.specs.declared.state.TableState.{TableState}
use Rattle.path_core.specs.Parts.{fresh_memtable, fresh_table, memtable_at, is_final}
use Rattle.path_core.specs.Allowed.{is_unbarred}
use Rattle.path_core.specs.Next.{barred, barred_tables}

-- a table after barriers were set
abbrev pub barred_table : ℕ → TableState → TableState
barred_table group t = record t { memtables = map (barred group) t.memtables }

-- what holds of a table as it was, and after barriers were set, holds of it now
pub barred_at : (group : ℕ) (ss : List SeatTable) (ts : List TableState) (P : TableState
    → Type 0) (t : ℕ)
    → P (get_or ts t fresh_table) → P (barred_table group (get_or ts t fresh_table))
    → P (get_or (barred_tables group ss ts) t fresh_table)
barred_at group [] ts P t same set = same
barred_at group (s ∷ ss) [] P t same set = same
barred_at group (s ∷ ss) (u ∷ us) P zero same set = choose (is_some s.flush)
  where
    choose : (b : Bool) → P (cond b (barred_table group u) u)
    choose true = set
    choose false = same
barred_at group (s ∷ ss) (u ∷ us) P (suc t) same set = barred_at group ss us P t same set

-- A memtable that may get a barrier.

-- its bound stays
bound_kept : (group : ℕ) (k : Memtable) → (barred group k).bound ≡ k.bound
bound_kept group k = choose (is_unbarred k)
  where
    choose : (b : Bool) → (cond b (record k { barrier = Some group }) k).bound ≡ k.bound
    choose true = refl
    choose false = refl

-- and so does the log key at its Mark
mark_kept : (group : ℕ) (k : Memtable) → (barred group k).mark ≡ k.mark
mark_kept group k = choose (is_unbarred k)
  where
    choose : (b : Bool) → (cond b (record k { barrier = Some group }) k).mark ≡ k.mark
    choose true = refl
    choose false = refl

-- a barrier that it has stays
barrier_kept : (group g : ℕ) (k : Memtable) → k.barrier ≡ Some g
    → (barred group k).barrier ≡ Some g
barrier_kept group g k h =
    ap (λ (b : Bool). (cond b (record k { barrier = Some group }) k).barrier)
    (and_right (is_final k.bound) (is_none k.barrier)
    (ap (λ (o : Option ℕ). is_none o) h)) ∙ h

-- a barrier was there, or is this one
barrier_was : (group g : ℕ) (k : Memtable) → (barred group k).barrier ≡ Some g
    → (k.barrier ≡ Some g) ⊎ (g ≡ group)
barrier_was group g k e = choose (is_unbarred k) e
  where
    choose : (b : Bool) → (cond b (record k { barrier = Some group }) k).barrier ≡ Some g
        → (k.barrier ≡ Some g) ⊎ (g ≡ group)
    choose true e = inr (sym (same_Some group g e))
    choose false e = inl e

-- The same of each memtable of a table after barriers were set.
module _ (group : ℕ) (table : TableState) (m : ℕ) where
  pub memtable_barred : memtable_at (barred_table group table) m
      ≡ barred group (memtable_at table m)
  memtable_barred = get_or-map_default (barred group) table.memtables m fresh_memtable

  pub bound_barred : (memtable_at (barred_table group table) m).bound
      ≡ (memtable_at table m).bound
  bound_barred = ap (λ (k : Memtable). k.bound) memtable_barred
      ∙ bound_kept group (memtable_at table m)

  pub mark_barred : (memtable_at (barred_table group table) m).mark ≡ (memtable_at table m).mark
  mark_barred = ap (λ (k : Memtable). k.mark) memtable_barred
      ∙ mark_kept group (memtable_at table m)

  pub barrier_barred : (g : ℕ) → (memtable_at table m).barrier ≡ Some g
      → (memtable_at (barred_table group table) m).barrier ≡ Some g
  barrier_barred g h = ap (λ (k : Memtable). k.barrier) memtable_barred
      ∙ barrier_kept group g (memtable_at table m) h

  pub barrier_before : (g : ℕ) → (memtable_at (barred_table group table) m).barrier ≡ Some g
      → ((memtable_at table m).barrier ≡ Some g) ⊎ (g ≡ group)
  barrier_before g h = barrier_was group g (memtable_at table m)
      (sym (ap (λ (k : Memtable). k.barrier) memtable_barred) ∙ h)
