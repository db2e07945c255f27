-- The next memtable is made, one is retired, barriers are set: what is known of a table stays.
use Rattle.std.proofs.Common.{
  ◌≡◌,
  ℕ,
  zero,
  suc,
  ◌≤◌,
  Bool,
  true,
  false,
  cond,
  ◌++◌,
  [],
  ◌∷◌,
  get_or,
  Some,
  is_none,
  refl,
  sym,
  ap,
  ◌∙◌,
  subst,
  arith,
  length-append,
}
use Rattle.std.proofs.lemmas.List.{length-map}
use Rattle.std.proofs.lemmas.Bool.{and_parts, false≢true}
use mathlib.Core.Logic.{dite}
use native.Mathlib.Decide.{ℕ_discrete}
use Rattle.path_core.specs.declared.state.Bound.{Bound}
use Rattle.path_core.specs.declared.state.Bound.TheVariants.{Live, Raising, Final}
use Rattle.path_core.specs.declared.state.Memtable.{Memtable}
use Rattle.path_core.specs.declared.state.TableState.{TableState}
use Rattle.path_core.specs.Parts.{fresh_memtable, memtable_at, IsFinal, is_final, key_of_bound}
use Rattle.path_core.specs.Allowed.{is_unbarred}
use Rattle.path_core.specs.Next.{barred}
use Rattle.path_core.specs.History.{bound_below}
use Rattle.path_core.specs.LawfulTables.{BoundsRise, MemtablesAre}
use Rattle.path_core.proofs.lists.Replaced.{default_put}
use Rattle.path_core.proofs.tables.WithBarriers.{
  barred_table,
  memtable_barred,
  bound_barred,
  mark_barred,
}
use Rattle.path_core.proofs.tables.TableBounds.{live_not_final, past_is_live}

module _ (log : ℕ) (table : TableState) (I : MemtablesAre log table) where
  abbrev B : BoundsRise log table
  B = I.bounds_rise

  -- the next memtable is made
  pub opened_is : table.oldest_live ≡ table.newest → MemtablesAre log
      (record table {
        newest = suc table.newest;
        memtables = table.memtables ++ fresh_memtable ∷ [];
      })
  opened_is all_retired = record {
    bounds_rise = record {
      made = let l = B.made in let n = length-append table.memtables (fresh_memtable ∷ []) in
          omega arith;
      newest_is_live = ap (λ (k : Memtable). k.bound) (same (suc table.newest))
          ∙ past_is_live log table I (suc table.newest) (omega arith);
      oldest_is_made = let b = B.oldest_is_made in omega arith;
      one_behind = omega arith;
      others_are_final = λ m l. subst (λ (k : Memtable). IsFinal k.bound) (sym (same m))
          (I.retired_is_final m (omega arith));
      rise = λ m n a b l p q. B.rise m n a b l (sym (ap (λ (k : Memtable). k.bound) (same m)) ∙ p)
          (sym (ap (λ (k : Memtable). k.bound) (same n)) ∙ q);
      below_log = λ m. subst (λ (k : Memtable). key_of_bound k.bound ≤ log) (sym (same m))
          (B.below_log m);
    };
    mark_key_in_range = λ m b is. let M = I.mark_key_in_range m b
        (sym (ap (λ (k : Memtable). k.bound) (same m)) ∙ is) in record {
          key = M.key;
          mark = ap (λ (k : Memtable). k.mark) (same m) ∙ M.mark;
          below_log = M.below_log;
          above_before = subst (λ k. k ≤ M.key) (sym (below m)) M.above_before;
        };
    barrier_means_final = λ m g is. subst (λ (k : Memtable). IsFinal k.bound) (sym (same m))
        (I.barrier_means_final m g (sym (ap (λ (k : Memtable). k.barrier) (same m)) ∙ is));
    retired_is_final = λ m l. subst (λ (k : Memtable). IsFinal k.bound) (sym (same m))
        (I.retired_is_final m l);
  }
    where
      same : (m : ℕ) → get_or (table.memtables ++ fresh_memtable ∷ []) m fresh_memtable
          ≡ memtable_at table m
      same m = default_put table.memtables fresh_memtable m

      below : (m : ℕ) → bound_below (record table {
        newest = suc table.newest;
        memtables = table.memtables ++ fresh_memtable ∷ [];
      }) m ≡ bound_below table m
      below zero = refl
      below (suc m) = ap (λ (k : Memtable). key_of_bound k.bound) (same m)

  -- one memtable is retired
  pub retired_is : IsFinal (memtable_at table table.oldest_live).bound
      → MemtablesAre log (record table { oldest_live = suc table.oldest_live })
  retired_is final = record {
    bounds_rise = record {
      made = B.made;
      newest_is_live = B.newest_is_live;
      oldest_is_made = let b = B.oldest_is_made in dite (ℕ_discrete table.oldest_live table.newest)
          (λ e. absurd (live_not_final _ (ap (λ k. (memtable_at table k).bound) e
          ∙ B.newest_is_live)
          final)) (λ n. omega arith);
      one_behind = let b = B.one_behind in omega arith;
      others_are_final = B.others_are_final;
      rise = B.rise;
      below_log = B.below_log;
    };
    mark_key_in_range = λ m b is. let M = I.mark_key_in_range m b is in record {
      key = M.key;
      mark = M.mark;
      below_log = M.below_log;
      above_before = subst (λ k. k ≤ M.key) (sym (below m)) M.above_before;
    };
    barrier_means_final = I.barrier_means_final;
    retired_is_final = λ m l. dite (ℕ_discrete m table.oldest_live)
        (λ e. subst (λ k. IsFinal (memtable_at table k).bound) (sym e) final)
        (λ n. I.retired_is_final m (omega arith));
  }
    where
      below : (m : ℕ) → bound_below (record table { oldest_live = suc table.oldest_live }) m
          ≡ bound_below table m
      below zero = refl
      below (suc m) = refl

  -- barriers are set
  pub barred_is : (group : ℕ) → MemtablesAre log (barred_table group table)
  barred_is group = record {
    bounds_rise = record {
      made = length-map table.memtables (barred group) ∙ B.made;
      newest_is_live = bound table.newest ∙ B.newest_is_live;
      oldest_is_made = B.oldest_is_made;
      one_behind = B.one_behind;
      others_are_final = λ m l. subst IsFinal (sym (bound m)) (B.others_are_final m l);
      rise = λ m n a b l p q. B.rise m n a b l (sym (bound m) ∙ p) (sym (bound n) ∙ q);
      below_log = λ m. subst (λ k. key_of_bound k ≤ log) (sym (bound m)) (B.below_log m);
    };
    mark_key_in_range = λ m b is. let M = I.mark_key_in_range m b (sym (bound m) ∙ is) in record {
      key = M.key;
      mark = mark_barred group table m ∙ M.mark;
      below_log = M.below_log;
      above_before = subst (λ k. k ≤ M.key) (sym (below m)) M.above_before;
    };
    barrier_means_final = λ m g is. subst IsFinal (sym (bound m))
        (barrier (memtable_at table m) (I.barrier_means_final m)
        g (sym (ap (λ (k : Memtable). k.barrier) (memtable_barred group table m)) ∙ is));
    retired_is_final = λ m l. subst IsFinal (sym (bound m)) (I.retired_is_final m l);
  }
    where
      bound : (m : ℕ) → (memtable_at (barred_table group table) m).bound
          ≡ (memtable_at table m).bound
      bound m = bound_barred group table m

      below : (m : ℕ) → bound_below (barred_table group table) m ≡ bound_below table m
      below zero = refl
      below (suc m) = ap key_of_bound (bound m)

      barrier : (k : Memtable) → ((g : ℕ) → k.barrier ≡ Some g → IsFinal k.bound) → (g : ℕ)
          → (barred group k).barrier ≡ Some g → IsFinal k.bound
      barrier k final g is = choose (is_unbarred k) refl is
        where
          test : (b : Bound) → is_final b ≡ true → IsFinal b
          test Live e = absurd (false≢true e)
          test (Raising k) e = absurd (false≢true e)
          test (Final k) e = tt

          choose : (b : Bool) → is_unbarred k ≡ b
              → (cond b (record k { barrier = Some group }) k).barrier ≡ Some g → IsFinal k.bound
          choose true e is = test k.bound (and_parts (is_final k.bound) (is_none k.barrier) e).0
          choose false e is = final g is
