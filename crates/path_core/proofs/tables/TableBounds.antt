-- Kinds of bounds, and where they stand among the memtables of a table.
use Rattle.std.proofs.Common.{◌≡◌, ℕ, suc, ◌<◌, ◌≤◌, refl, sym, ap, ◌∙◌, subst, arith}
use Rattle.std.proofs.lemmas.List.{get_or_past}
use mathlib.Core.Logic.{dite}
use native.Mathlib.Decide.{ℕ_discrete, dec_lt}
use Rattle.clog_base.specs.declared.position.Key.{Key}
use Rattle.path_core.specs.declared.state.Bound.{Bound}
use Rattle.path_core.specs.declared.state.Bound.TheVariants.{Live, Raising, Final}
use Rattle.path_core.specs.declared.state.Memtable.{Memtable}
use Rattle.path_core.specs.declared.state.TableState.{TableState}
use Rattle.path_core.specs.Parts.{fresh_memtable, memtable_at, IsFinal}
use Rattle.path_core.specs.LawfulTables.{BoundsRise, MemtablesAre}

-- a bound is of one kind

live_not_raising : (b : Bound) (k : Key) → b ≡ Live → b ≡ Raising k → ⊥
live_not_raising b k l r = let q : Live ≡ Raising k = sym l ∙ r in cc

pub live_not_final : (b : Bound) → b ≡ Live → IsFinal b → ⊥
live_not_final b l f = subst IsFinal l f

pub raising_not_final : (b : Bound) (k : Key) → b ≡ Raising k → IsFinal b → ⊥
raising_not_final b k r f = subst IsFinal r f

final_is_final : (b : Bound) (k : Key) → b ≡ Final k → IsFinal b
final_is_final b k e = subst IsFinal (sym e) tt

pub final_at : (b : Bound) → IsFinal b → (k : Key) × (b ≡ Final k)
final_at Live f = absurd f
final_at (Raising k) f = absurd f
final_at (Final k) f = (k, refl)

module _ (log : ℕ) (table : TableState) (I : MemtablesAre log table) where
  abbrev B : BoundsRise log table
  B = I.bounds_rise

  -- behind the newest there is none
  pub past_is_live : (m : ℕ) → table.newest < m → (memtable_at table m).bound ≡ Live
  past_is_live m past = let l = B.made in
      ap (λ (k : Memtable). k.bound) (get_or_past table.memtables m fresh_memtable (omega arith))

  -- only the one below the newest is raising
  pub raising_is_last : (m : ℕ) (b : Key) → (memtable_at table m).bound ≡ Raising b
      → suc m ≡ table.newest
  raising_is_last m b is = dite (dec_lt (suc m) table.newest)
      (λ l. absurd (raising_not_final _ b is (B.others_are_final m l)))
      (λ n. dite (ℕ_discrete m table.newest)
      (λ e. absurd (live_not_raising _ b (ap (λ k. (memtable_at table k).bound) e
      ∙ B.newest_is_live) is))
      (λ d. dite (dec_lt table.newest m)
      (λ p. absurd (live_not_raising _ b (past_is_live m p) is))
      (λ q. omega arith)))

  -- what is final is below the newest
  pub final_is_below : (n : ℕ) (b : Key) → (memtable_at table n).bound ≡ Final b → n < table.newest
  final_is_below n b is = dite (dec_lt n table.newest) (λ l. l)
      (λ past. absurd (dite (ℕ_discrete n table.newest)
      (λ e. live_not_final _ (ap (λ k. (memtable_at table k).bound) e ∙ B.newest_is_live)
      (final_is_final _ b is))
      (λ d. live_not_final _ (past_is_live n (omega arith)) (final_is_final _ b is))))

  -- the log grows
  pub log_grown : (after : ℕ) → log ≤ after → MemtablesAre after table
  log_grown after le = record {
    bounds_rise = record {
      made = B.made;
      newest_is_live = B.newest_is_live;
      oldest_is_made = B.oldest_is_made;
      one_behind = B.one_behind;
      others_are_final = B.others_are_final;
      rise = B.rise;
      below_log = λ m. let b = B.below_log m in omega arith;
    };
    mark_key_in_range = λ m b is. let M = I.mark_key_in_range m b is in let l = M.below_log in
        record {
          key = M.key;
          mark = M.mark;
          below_log = omega arith;
          above_before = M.above_before;
        };
    barrier_means_final = I.barrier_means_final;
    retired_is_final = I.retired_is_final;
  }
