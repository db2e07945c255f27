-- One memtable of a table is changed: what is known of the table stays.
use Rattle.std.proofs.Common.{
  ◌≡◌,
  ◌≢◌,
  ℕ,
  zero,
  suc,
  ◌<◌,
  ◌≤◌,
  length,
  Some,
  refl,
  sym,
  ap,
  ◌∙◌,
  subst,
  arith,
  ◌⊎◌,
  length-set,
  get_or-set_other,
  get_or-set_same,
}
use mathlib.Core.Logic.{dite, inl, inr}
use native.Mathlib.Decide.{ℕ_discrete, dec_lt}
use Rattle.clog_base.specs.declared.position.Key.{Key}
use Rattle.path_core.specs.declared.state.Bound.TheVariants.{Live, Raising, Final}
use Rattle.path_core.specs.declared.state.Memtable.{Memtable}
use Rattle.path_core.specs.declared.state.TableState.{TableState}
use Rattle.path_core.specs.Parts.{fresh_memtable, memtable_at, IsFinal, key_of_bound}
use Rattle.path_core.specs.Next.{with_memtable}
use Rattle.path_core.specs.History.{bound_below}
use Rattle.path_core.specs.LawfulTables.{BoundsRise, MarkInRange, MemtablesAre}
use Rattle.path_core.proofs.lists.Replaced.{put_at}
use Rattle.path_core.proofs.tables.TableBounds.{final_at, raising_is_last, final_is_below}

module _ (log : ℕ) (table : TableState) (I : MemtablesAre log table) where
  abbrev B : BoundsRise log table
  B = I.bounds_rise

  -- One memtable is changed.
  module _ (m : ℕ) (f : Memtable → Memtable) (inside : m < length table.memtables) where
    abbrev changed : TableState
    changed = with_memtable table m f

    pub at_changed : (P : ℕ → Memtable → Type 0) → P m (f (memtable_at table m))
        → ((n : ℕ) → n ≢ m → P n (memtable_at table n)) → (n : ℕ) → P n (memtable_at changed n)
    at_changed P here other n =
        put_at table.memtables m (f (memtable_at table m)) fresh_memtable inside P here other n

    changed_long : length changed.memtables ≡ suc table.newest
    changed_long = length-set table.memtables m (f (memtable_at table m)) ∙ B.made

    -- the bound before one, where the one before stays
    changed_below : (n : ℕ) → n ≢ suc m → bound_below changed n ≡ bound_below table n
    changed_below zero other = refl
    changed_below (suc n) other = ap (λ (k : Memtable). key_of_bound k.bound)
        (get_or-set_other table.memtables m n _ fresh_memtable (λ e. other (ap suc e)))

    -- It stays of its kind, or from raising is made final, or from live raising.
    pub changed_is : suc m ≡ table.newest ⊎ (memtable_at table m).bound
        ≡ (f (memtable_at table m)).bound
        → (IsFinal (memtable_at table m).bound → (f (memtable_at table m)).bound
        ≡ (memtable_at table m).bound)
        → key_of_bound (f (memtable_at table m)).bound ≤ log
        → ((b : Key) → (f (memtable_at table m)).bound ≡ Final b → bound_below table m ≤ b.0)
        → ((b : Key) → (f (memtable_at table m)).bound ≡ Raising b → (key : ℕ)
        × ((f (memtable_at table m)).mark ≡ Some key) × (key ≤ log) × (bound_below table m ≤ key))
        → ((g : ℕ) → (f (memtable_at table m)).barrier ≡ Some g
        → IsFinal (f (memtable_at table m)).bound)
        → MemtablesAre log changed
    changed_is place final_stays low above marks barrier = record {
      bounds_rise = record {
        made = changed_long;
        newest_is_live = at_changed (λ n k. n ≡ table.newest
            → k.bound ≡ Live) (λ e. here_live e place)
            (λ n _ e. ap (λ k. (memtable_at table k).bound) e ∙ B.newest_is_live) table.newest refl;
        oldest_is_made = B.oldest_is_made;
        one_behind = B.one_behind;
        others_are_final = at_changed (λ n k. suc n < table.newest → IsFinal k.bound)
            (λ l. still_final (B.others_are_final m l)) (λ n _ l. B.others_are_final n l);
        rise = λ i n a b l p q. rises i n a b l p q place;
        below_log = at_changed (λ n k. key_of_bound k.bound ≤ log) low (λ n _. B.below_log n);
      };
      mark_key_in_range = λ n b. at_changed (λ n k. k.bound ≡ Raising b → MarkInRange log changed n)
          (λ is. here_marked b is) (λ n other is. old_marked n b other is place) n;
      barrier_means_final = at_changed (λ n k. (g : ℕ) → k.barrier ≡ Some g
          → IsFinal k.bound) barrier
          (λ n _. I.barrier_means_final n);
      retired_is_final = at_changed (λ n k. n < table.oldest_live → IsFinal k.bound)
          (λ l. still_final (I.retired_is_final m l)) (λ n _ l. I.retired_is_final n l);
    }
      where
        still_final : IsFinal (memtable_at table m).bound → IsFinal (f (memtable_at table m)).bound
        still_final l = subst IsFinal (sym (final_stays l)) l

        -- the one before m is final
        before_is : (k : ℕ) → suc k ≡ m → suc m ≡ table.newest → (i : ℕ) (a : Key) → i < m
            → (memtable_at table i).bound ≡ Final a → a.0 ≤ key_of_bound (memtable_at table k).bound
        before_is k e s i a l p = let r = final_at _ (B.others_are_final k (omega arith)) in
            subst (λ c. a.0 ≤ key_of_bound c) (sym r.1) (dite (ℕ_discrete i k)
            (λ is. let q : Final a ≡ Final r.0 = sym p ∙ ap (λ j. (memtable_at table j).bound) is
            ∙ r.1 in
            let t : a.0 ≡ r.0.0 = ap key_of_bound q in omega arith)
            (λ n. B.rise i k a r.0 (omega arith) p r.1))

        below_here : (j : ℕ) → j ≡ m → suc m ≡ table.newest → (i : ℕ) (a : Key) → i < m
            → (memtable_at table i).bound ≡ Final a → a.0 ≤ bound_below table j
        below_here zero e s i a l p = absurd (omega arith)
        below_here (suc k) e s i a l p = before_is k e s i a l p

        -- what is final at an index, now and before
        was_final : (n : ℕ) (b : Key) → n ≢ m → (memtable_at changed n).bound ≡ Final b
            → (memtable_at table n).bound ≡ Final b
        was_final n b other is = sym (ap (λ (k : Memtable). k.bound)
            (get_or-set_other table.memtables m n _ fresh_memtable other)) ∙ is

        now_here : (memtable_at changed m).bound ≡ (f (memtable_at table m)).bound
        now_here = ap (λ (k : Memtable). k.bound)
            (get_or-set_same table.memtables m (f (memtable_at table m)) fresh_memtable inside)

        same_all : (memtable_at table m).bound ≡ (f (memtable_at table m)).bound → (n : ℕ)
            → (memtable_at changed n).bound ≡ (memtable_at table n).bound
        same_all e = at_changed (λ n k. k.bound ≡ (memtable_at table n).bound) (sym e) (λ n _. refl)

        rises : (i n : ℕ) (a b : Key) → i < n → (memtable_at changed i).bound ≡ Final a
            → (memtable_at changed n).bound ≡ Final b
            → suc m ≡ table.newest ⊎ (memtable_at table m).bound ≡ (f (memtable_at table m)).bound
            → a.0 ≤ b.0
        rises i n a b l p q (inr e) = B.rise i n a b l (sym (same_all e i)
            ∙ p) (sym (same_all e n) ∙ q)
        rises i n a b l p q (inl s) = dite (ℕ_discrete n m)
            (λ e. let old = was_final i a (λ j. omega arith) p in
            let u = above b (sym now_here ∙ ap (λ k. (memtable_at changed k).bound) (sym e) ∙ q) in
            let w = below_here m refl s i a (omega arith) old in
            omega arith)
            (λ d. let old = was_final n b d q in dite (dec_lt n table.newest)
            (λ under. B.rise i n a b l (was_final i a (λ j. omega arith) p) old)
            (λ past. absurd (let under = final_is_below log table I n b old in omega arith)))

        here_marked : (b : Key) → (f (memtable_at table m)).bound ≡ Raising b
            → MarkInRange log changed m
        here_marked b is = let r = marks b is in record {
          key = r.0;
          mark = ap (λ (k : Memtable). k.mark)
              (get_or-set_same table.memtables m (f (memtable_at table m)) fresh_memtable inside)
              ∙ r.1;
          below_log = r.2;
          above_before = subst (λ k. k ≤ r.0) (sym (changed_below m (λ e. omega arith))) r.3;
        }

        old_marked : (n : ℕ) (b : Key) → n ≢ m → (memtable_at table n).bound ≡ Raising b
            → suc m ≡ table.newest ⊎ (memtable_at table m).bound ≡ (f (memtable_at table m)).bound
            → MarkInRange log changed n
        old_marked n b other is place = let M = I.mark_key_in_range n b is in record {
          key = M.key;
          mark = ap (λ (k : Memtable). k.mark)
              (get_or-set_other table.memtables m n _ fresh_memtable other) ∙ M.mark;
          below_log = M.below_log;
          above_before = subst (λ k. k ≤ M.key)
              (sym (same_below n (raising_is_last log table I n b is) place))
              M.above_before;
        }
          where
            same_below : (n : ℕ) → suc n ≡ table.newest
                → suc m ≡ table.newest ⊎ (memtable_at table m).bound
                ≡ (f (memtable_at table m)).bound → bound_below changed n ≡ bound_below table n
            same_below n last (inl s) = changed_below n (λ e. omega arith)
            same_below zero last (inr e) = refl
            same_below (suc k) last (inr e) = ap key_of_bound (same_all e k)

        here_live : m ≡ table.newest → suc m ≡ table.newest ⊎ (memtable_at table m).bound
            ≡ (f (memtable_at table m)).bound → (f (memtable_at table m)).bound ≡ Live
        here_live e (inl s) = absurd (omega arith)
        here_live e (inr s) = sym s ∙ ap (λ k. (memtable_at table k).bound) e ∙ B.newest_is_live
