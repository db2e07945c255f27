-- The memtables of one table under each change of it.
use Rattle.std.proofs.Common.{
  ◌≡◌,
  ℕ,
  zero,
  suc,
  ◌<◌,
  ◌≤◌,
  max,
  length,
  Some,
  refl,
  sym,
  ap,
  ◌∙◌,
  subst,
  arith,
}
use Rattle.std.proofs.lemmas.Option.{same_Some}
use mathlib.Core.Logic.{inl, inr}
use Rattle.clog_base.specs.declared.position.Key.{Key}
use Rattle.path_core.specs.declared.state.Bound.{Bound}
use Rattle.path_core.specs.declared.state.Bound.TheVariants.{Live, Raising, Final}
use Rattle.path_core.specs.declared.state.Memtable.{Memtable}
use Rattle.path_core.specs.declared.state.TableState.{TableState}
use Rattle.path_core.specs.Parts.{memtable_at, IsFinal, key_of_bound}
use Rattle.path_core.specs.SeatParts.{raised_to, made_final}
use Rattle.path_core.specs.Next.{with_memtable, with_bound}
use Rattle.path_core.specs.History.{bound_below}
use Rattle.path_core.specs.LawfulTables.{BoundsRise, MemtablesAre}
use Rattle.path_core.proofs.tables.TableBounds.{
  live_not_final,
  raising_not_final,
  final_at,
  raising_is_last,
  final_is_below,
}
use Rattle.path_core.proofs.tables.OneMemtable.{changed_is}

module _ (log : ℕ) (table : TableState) (I : MemtablesAre log table) where
  abbrev B : BoundsRise log table
  B = I.bounds_rise

  below_is_low : (m : ℕ) → bound_below table m ≤ log
  below_is_low zero = omega arith
  below_is_low (suc m) = B.below_log m

  -- the one below the newest is marked
  pub marked_is : (m : ℕ) → suc m ≡ table.newest → (memtable_at table m).bound ≡ Live
      → MemtablesAre log (with_memtable table m (λ (k : Memtable).
      record k { bound = Raising (record { 0 = 0 }); mark = Some log }))
  marked_is m last live = let l = B.made in changed_is log table I m (λ (k : Memtable).
      record k { bound = Raising (record { 0 = 0 }); mark = Some log }) (omega arith)
      (inl last) (λ f. absurd (live_not_final _ live f)) (omega arith)
      (λ b e. absurd (let q : Raising (record { 0 = 0 }) ≡ Final b = e in cc))
      (λ b e. (log, refl, omega arith, below_is_low m))
      (λ g e. absurd (live_not_final _ live (I.barrier_means_final m g e)))

  -- a bound is raised
  pub raised_is : (m to : ℕ) → m < length table.memtables → to ≤ log
      → MemtablesAre log (with_memtable table m (with_bound (raised_to to)))
  raised_is m to inside low = by (memtable_at table m).bound refl
    where
      by : (b : Bound) → (memtable_at table m).bound ≡ b
          → MemtablesAre log (with_memtable table m (with_bound (raised_to to)))
      by Live e = changed_is log table I m (with_bound (raised_to to)) inside
          (inr (e ∙ sym (ap (raised_to to) e))) (λ f. absurd (live_not_final _ e f))
          (subst (λ b. key_of_bound (raised_to to b) ≤ log) (sym e) (omega arith))
          (λ b q. absurd (let r : Live ≡ Final b = sym (ap (raised_to to) e) ∙ q in cc))
          (λ b q. absurd (let r : Live ≡ Raising b = sym (ap (raised_to to) e) ∙ q in cc))
          (λ g q. absurd (live_not_final _ e (I.barrier_means_final m g q)))
      by (Raising k) e = changed_is log table I m (with_bound (raised_to to)) inside
          (inl (raising_is_last log table I m k e)) (λ f. absurd (raising_not_final _ k e f))
          (subst (λ b. key_of_bound (raised_to to b) ≤ log) (sym e)
          (let l : k.0 ≤ log = subst (λ b. key_of_bound b ≤ log) e (B.below_log m) in omega arith))
          (λ b q. absurd (let r : Raising (record { 0 = max k.0 to }) ≡ Final b
          = sym (ap (raised_to to) e) ∙ q in cc))
          (λ b q. let M = I.mark_key_in_range m k e in (M.key, M.mark, M.below_log, M.above_before))
          (λ g q. absurd (raising_not_final _ k e (I.barrier_means_final m g q)))
      by (Final k) e = changed_is log table I m (with_bound (raised_to to)) inside
          (inr (e ∙ sym (ap (raised_to to) e))) (λ f. ap (raised_to to) e ∙ sym e)
          (subst (λ b. key_of_bound (raised_to to b) ≤ log) (sym e)
          (subst (λ b. key_of_bound b ≤ log) e (B.below_log m)))
          (λ b q. before_final m k b e (sym (ap (raised_to to) e) ∙ q))
          (λ b q. absurd (let r : Final k ≡ Raising b = sym (ap (raised_to to) e) ∙ q in cc))
          (λ g q. subst (λ b. IsFinal (raised_to to b)) (sym e) tt)
        where
          before_final : (m : ℕ) (k b : Key) → (memtable_at table m).bound ≡ Final k
              → Final k ≡ Final b
              → bound_below table m ≤ b.0
          before_final zero k b e q = omega arith
          before_final (suc j) k b e q =
              let below = final_is_below log table I (suc j) k e in
              let r = final_at _ (B.others_are_final j below) in
              let w = B.rise j (suc j) r.0 k (omega arith) r.1 e in
              let same : k.0 ≡ b.0 = ap key_of_bound q in
              subst (λ c. key_of_bound c ≤ b.0) (sym r.1) (omega arith)

  -- the bound that was raised to the mark is made final
  pub finalised_is : (m : ℕ) (b : Key) → (memtable_at table m).bound ≡ Raising b
      → (key : ℕ) → (memtable_at table m).mark ≡ Some key → key ≤ b.0
      → MemtablesAre log (with_memtable table m (with_bound made_final))
  finalised_is m b is key mark raised =
      let l = B.made in let last = raising_is_last log table I m b is in
      changed_is log table I m (with_bound made_final) (omega arith)
      (inl last) (λ f. absurd (raising_not_final _ b is f))
      (subst (λ c. key_of_bound (made_final c) ≤ log) (sym is)
      (subst (λ c. key_of_bound c ≤ log) is (B.below_log m)))
      (λ c q. let r : Final b ≡ Final c = sym (ap made_final is) ∙ q in
      let s : b.0 ≡ c.0 = ap key_of_bound r in
      let M = I.mark_key_in_range m b is in
      let t : M.key ≡ key = same_Some M.key key (sym M.mark ∙ mark) in
      let u = M.above_before in omega arith)
      (λ c q. absurd (let r : Final b ≡ Raising c = sym (ap made_final is) ∙ q in cc))
      (λ g q. absurd (raising_not_final _ b is (I.barrier_means_final m g q)))
